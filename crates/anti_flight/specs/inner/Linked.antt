-- The nodes of a chain, as proofs see them.
use Rattle.std.specs.Prelude.{◌≡◌, Bool, true, false, ◌&&◌, ◌==◌, List, [], ◌∷◌, ◌++◌, map, refl}
use Rattle.std.specs.List.{IsDistinct, IsDistinct-prop}
use Rattle.std.specs.Coded.{Coded, code_by, coded×}
use denote.RawPtr.{Ptr, block_ptr, null_ptr, coded_ptr}

-- a node: where it lies, and its value
pub record Linked (T : Type 0) : Type 0 where
  pub place : Ptr
  pub value : T

-- whether two pointers are the same
abbrev pub same_ptr : Ptr → Ptr → Bool
same_ptr (block_ptr b o) (block_ptr c p) = (b == c) && (o == p)
same_ptr (block_ptr b o) null_ptr = false
same_ptr null_ptr (block_ptr c p) = false
same_ptr null_ptr null_ptr = true

-- no pointer comes twice
abbrev pub IsApart : List Ptr → Type 0
IsApart = IsDistinct same_ptr

pub IsApart-prop : (ps : List Ptr) → IsProp (IsApart ps)
IsApart-prop = IsDistinct-prop same_ptr

-- q comes right after p
abbrev pub HasNext : List Ptr → Ptr → Ptr → Type 0
HasNext ps p q = (xs : List Ptr) × (ys : List Ptr) × (ps ≡ xs ++ p ∷ q ∷ ys)

-- q comes right before p
abbrev pub HasPrev : List Ptr → Ptr → Ptr → Type 0
HasPrev ps p q = HasNext ps q p

module _ {T : Type 0} where
  abbrev pub linked : Ptr → T → Linked T
  linked p x = record { place = p; value = x }

  abbrev pub places : List (Linked T) → List Ptr
  places = map (λ n. n.place)

  -- the places of the nodes between those of the two ends
  abbrev pub ring : Ptr → List (Linked T) → Ptr → List Ptr
  ring head ns tail = head ∷ (places ns ++ tail ∷ [])

  -- a node lies at p
  abbrev pub IsAt : List (Linked T) → Ptr → Type 0
  IsAt ns p = (xs : List (Linked T)) × (n : Linked T) × (ys : List (Linked T)) × (ns ≡ xs ++ n ∷ ys) × (n.place ≡ p)

  -- P holds of the node at p, with those before it and those after it
  abbrev pub AtNode : List (Linked T) → Ptr → (List (Linked T) → Linked T → List (Linked T) → Type 0) → Type 0
  AtNode ns p P = (xs : List (Linked T)) (n : Linked T) (ys : List (Linked T)) → ns ≡ xs ++ n ∷ ys → n.place ≡ p → P xs n ys

  -- p is where the first node lies, if there is one
  abbrev pub IsFirst : List (Linked T) → Ptr → Type 0
  IsFirst ns p = (n : Linked T) (rest : List (Linked T)) → ns ≡ n ∷ rest → n.place ≡ p

  -- p is where the last node lies, if there is one
  abbrev pub IsLast : List (Linked T) → Ptr → Type 0
  IsLast ns p = (rest : List (Linked T)) (n : Linked T) → ns ≡ rest ++ n ∷ [] → n.place ≡ p

  abbrev pub linked_code : Coded T → Coded (Linked T)
  linked_code c = code_by (Ptr × T) (coded× coded_ptr c) (λ n. (n.place, n.value)) (λ p. linked p.0 p.1) (λ _. refl)
