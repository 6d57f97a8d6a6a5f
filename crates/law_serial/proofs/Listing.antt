-- The listing of all writes and some reads: what is in it, and that each stands there once.
use Rattle.std.proofs.Common.{◌≡◌, ◌≢◌, ℕ, ◌<◌, ◌⊎◌, ◌↔◌, ◌&&◌, ◌||◌, Bool, true, false, not, List, [], ◌∷◌, AllPairs, Contains, sym, ap, ◌∙◌, subst, inl, inr, arith}
use Rattle.std.specs.List.{filter, range_with_len}
use Rattle.std.proofs.lemmas.Bool.{and_from, and_parts, both_ways, cases_Bool, not-true, not_from_false, or_from, or_parts}
use Rattle.std.proofs.lemmas.List.Elements.{Contains-append_cases, Contains-append_left, Contains-append_right}
use Rattle.law_serial.specs.Order.{listing}
use Rattle.law_serial.proofs.Cuts.{front_or_rest, in_front, in_none, in_rest, is_kept, kept_ascend, pair_first, pairs_append, pairs_cons, pairs_rest}

-- ---- tests

pub left_over : (a c : Bool) → (a && not c) ≡ true → (a ≡ true) × (c ≡ false)
left_over a c is = let both = and_parts a (not c) is in (both.0, not-true c both.1)

pub is_left_over : (a c : Bool) → a ≡ true → c ≡ false → (a && not c) ≡ true
is_left_over a c on off = and_from a (not c) on (not_from_false c off)

pub new_in : (a b c : Bool) → (a && (b && not c)) ≡ true → (a ≡ true) × (b ≡ true) × (c ≡ false)
new_in a b c is = let both = and_parts a (b && not c) is in let rest = left_over b c both.1 in (both.0, rest.0, rest.1)

pub is_new_in : (a b c : Bool) → a ≡ true → b ≡ true → c ≡ false → (a && (b && not c)) ≡ true
is_new_in a b c on past off = and_from a (b && not c) on (is_left_over b c past off)

module _ (writes : ℕ → Bool) (past : ℕ → ℕ → Bool) (n : ℕ) where
  -- the block of a read: the writes in its past that are not listed yet
  abbrev pub block : ℕ → (ℕ → Bool) → List ℕ
  block r listed = filter (λ i. writes i && (past r i && not (listed i))) (range_with_len 0 n)

  -- what is listed with it
  abbrev pub with_past : ℕ → (ℕ → Bool) → ℕ → Bool
  with_past r listed i = listed i || past r i

  -- the listing of these reads and what is left
  abbrev pub lists : List ℕ → (ℕ → Bool) → List ℕ
  lists rs listed = listing writes past (range_with_len 0 n) rs listed

  pub in_block : (r : ℕ) (listed : ℕ → Bool) (x : ℕ)
      → Contains (block r listed) x ↔ (x < n) × (writes x ≡ true) × (past r x ≡ true) × (listed x ≡ false)
  in_block r listed x =
      let both = is_kept (λ i. writes i && (past r i && not (listed i))) n x in (
        λ in'. let parts = new_in (writes x) (past r x) (listed x) (both.0 in').1 in ((both.0 in').0, parts.0, parts.1, parts.2),
        λ its. both.1 (its.0, is_new_in (writes x) (past r x) (listed x) its.1 its.2 its.3),
      )

  -- ---- members

  -- A member is a write that was not listed before, or one of the reads.
  abbrev pub IsMember : List ℕ → (ℕ → Bool) → ℕ → Type 0
  IsMember rs listed x = ((x < n) × (writes x ≡ true) × (listed x ≡ false)) ⊎ Contains rs x

  pub listed_is : (rs : List ℕ) (listed : ℕ → Bool) (x : ℕ) → Contains (lists rs listed) x → IsMember rs listed x
  listed_is [] listed x in' =
      let its = (is_kept (λ i. writes i && not (listed i)) n x).0 in' in
      let parts = left_over (writes x) (listed x) its.1 in
      inl (its.0, parts.0, parts.1)
  listed_is (r ∷ rs) listed x in' =
      let rest : List ℕ = lists rs (with_past r listed) in
      elim (Contains-append_cases (block r listed) (r ∷ rest) x in') [
        | inl first ↦ let its = (in_block r listed x).0 first in inl (its.0, its.1, its.3)
        | inr later ↦ elim (front_or_rest r rest x later) [
          | inl same ↦ inr (subst (Contains (r ∷ rs)) same (in_front r rs))
          | inr further ↦ elim (listed_is rs (with_past r listed) x further) [
            | inl write ↦ inl (write.0, write.1, (or_parts (listed x) (past r x) write.2).0)
            | inr read ↦ inr (in_rest r rs x read)
          ]
        ]
      ]

  pub is_listed : (rs : List ℕ) (listed : ℕ → Bool) (x : ℕ) → IsMember rs listed x → Contains (lists rs listed) x
  is_listed [] listed x (inl write) =
      (is_kept (λ i. writes i && not (listed i)) n x).1 (write.0, is_left_over (writes x) (listed x) write.1 write.2)
  is_listed [] listed x (inr read) = in_none x read
  is_listed (r ∷ rs) listed x (inl write) =
      let rest : List ℕ = lists rs (with_past r listed) in
      elim (cases_Bool (past r x)) [
        | inl before ↦ Contains-append_left (block r listed) (r ∷ rest) x ((in_block r listed x).1 (write.0, write.1, before, write.2))
        | inr off ↦
            let further = is_listed rs (with_past r listed) x (inl (write.0, write.1, or_from (listed x) (past r x) write.2 off)) in
            Contains-append_right (block r listed) (r ∷ rest) x (in_rest r rest x further)
      ]
  is_listed (r ∷ rs) listed x (inr read) =
      let rest : List ℕ = lists rs (with_past r listed) in
      Contains-append_right (block r listed) (r ∷ rest) x
      (elim (front_or_rest r rs x read) [
        | inl same ↦ subst (Contains (r ∷ rest)) same (in_front r rest)
        | inr further ↦ in_rest r rest x (is_listed rs (with_past r listed) x (inr further))
      ])

  -- ---- each once

  once_in : (p : ℕ → Bool) → AllPairs (λ x y. x ≢ y) (filter p (range_with_len 0 n))
  once_in p i j d low short same = omega (arith, kept_ascend p n i j d low short, same)

  module _ (r : ℕ) (rs : List ℕ) (listed : ℕ → Bool) (apart : (x : ℕ) → Contains (r ∷ rs) x → writes x ≡ false) where
    -- the read is not listed again behind it
    read_once : AllPairs (λ x y. x ≢ y) (r ∷ rs) → (x : ℕ) → Contains (lists rs (with_past r listed)) x → r ≢ x
    read_once once x in' same =
        elim (listed_is rs (with_past r listed) x in') [
          | inl write ↦ both_ways (writes x) (apart x (subst (Contains (r ∷ rs)) same (in_front r rs))) write.1
          | inr read ↦ pair_first (λ x y. x ≢ y) r rs once x read same
        ]

    -- nor is what stands in its block
    block_once : (x y : ℕ) → Contains (block r listed) x → Contains (r ∷ lists rs (with_past r listed)) y → x ≢ y
    block_once x y in' later same =
        let its = (in_block r listed x).0 in' in
        let write : writes y ≡ true = ap writes (sym same) ∙ its.1 in
        elim (front_or_rest r (lists rs (with_past r listed)) y later) [
          | inl is ↦ both_ways (writes y) (apart y (subst (Contains (r ∷ rs)) is (in_front r rs))) write
          | inr further ↦ elim (listed_is rs (with_past r listed) y further) [
            | inl left ↦ both_ways (past r y) (or_parts (listed y) (past r y) left.2).1 (ap (past r) (sym same) ∙ its.2)
            | inr read ↦ both_ways (writes y) (apart y (in_rest r rs y read)) write
          ]
        ]

  -- Where the reads are different and write nothing, each member stands there once.
  pub listed_once : (rs : List ℕ) (listed : ℕ → Bool) → AllPairs (λ x y. x ≢ y) rs → ((x : ℕ) → Contains rs x → writes x ≡ false)
      → AllPairs (λ x y. x ≢ y) (lists rs listed)
  listed_once [] listed once apart = once_in (λ i. writes i && not (listed i))
  listed_once (r ∷ rs) listed once apart =
      let rest : List ℕ = lists rs (with_past r listed) in
      let later = listed_once rs (with_past r listed) (pairs_rest (λ x y. x ≢ y) r rs once) (λ x read. apart x (in_rest r rs x read)) in
      pairs_append (λ x y. x ≢ y) (block r listed) (r ∷ rest) (once_in (λ i. writes i && (past r i && not (listed i))))
      (pairs_cons (λ x y. x ≢ y) r rest (read_once r rs listed apart once) later) (block_once r rs listed apart)
