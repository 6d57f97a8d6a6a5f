-- In an ascending list the first item that is awake makes the first entry of all, where those that are not awake make none.
use Rattle.std.proofs.Common.{◌≡◌, ℕ, zero, suc, ◌+◌, ◌<◌, ◌≤◌, ◌⊎◌, inl, inr, List, [], ◌∷◌, ◌++◌, map, get_or, refl, sym, ap, ◌∙◌, subst, arith}
use Rattle.std.specs.Prelude.{All, Option, None, Some, flat_map}
use Rattle.std.specs.List.{Contains, range_with_len}
use Rattle.std.specs.Option.{option_or}
use Rattle.std.proofs.lemmas.List.Concat.{flat_map-cons}
use Rattle.std.proofs.lemmas.List.Elements.{All-append, All-cons, All-contains, All-head, All-map, All-nil, All-tail, All-weaker}
use Rattle.anti_kind.specs.declared.entry.Entry.{Entry}
use Rattle.anti_play.specs.Schedule.{first_of}

-- each item comes before every later one
abbrev pub Ascends : {T : Type 0} → (T → T → Type 0) → List T → Type 0
Ascends Before [] = Unit {0}
Ascends Before (x ∷ xs) = All (Before x) xs × Ascends Before xs

-- the first of a list is its head, or one behind it
pub front_cases : {T : Type 0} (y : T) (ys : List T) (x : T) → Contains (y ∷ ys) x → (y ≡ x) ⊎ Contains ys x
front_cases y ys x (zero, within, is) = inl is
front_cases y ys x (suc i, within, is) = inr (i, omega (arith, within), is)

-- ---- lists that ascend

module _ {T : Type 0} (Before : T → T → Type 0) where
  pub ascends-append : (xs ys : List T) → Ascends Before xs → Ascends Before ys → All (λ x. All (Before x) ys) xs → Ascends Before (xs ++ ys)
  ascends-append [] ys one two cross = two
  ascends-append (x ∷ xs) ys one two cross = (
    All-append (Before x) xs ys one.0 (All-head (λ (y : T). All (Before y) ys) x xs cross),
    ascends-append xs ys one.1 two (All-tail (λ (y : T). All (Before y) ys) x xs cross),
  )

-- the numbers of a range are not below its first
pub range_from : (k n : ℕ) → All (λ j. k ≤ j) (range_with_len k n)
range_from k zero = All-nil (λ (j : ℕ). k ≤ j)
range_from k (suc n) =
    All-cons (λ (j : ℕ). k ≤ j) k (range_with_len (k + 1) n) (omega arith)
    (All-weaker (λ (j : ℕ). k + 1 ≤ j) (λ (j : ℕ). k ≤ j) (λ j le. omega (arith, le)) (range_with_len (k + 1) n) (range_from (k + 1) n))

-- and are below its end
pub range_below : (k n : ℕ) → All (λ j. j < k + n) (range_with_len k n)
range_below k zero = All-nil (λ (j : ℕ). j < k + zero)
range_below k (suc n) =
    All-cons (λ (j : ℕ). j < k + suc n) k (range_with_len (k + 1) n) (omega arith)
    (All-weaker (λ (j : ℕ). j < k + 1 + n) (λ (j : ℕ). j < k + suc n) (λ j lt. omega (arith, lt)) (range_with_len (k + 1) n) (range_below (k + 1) n))

pub all_joined : {S T : Type 0} (P : T → Type 0) (f : S → List T) (xs : List S) → All (λ x. All P (f x)) xs → All P (flat_map f xs)
all_joined P f [] each = All-nil P
all_joined {S} {T} P f (x ∷ xs) each =
    subst (All P) (sym (flat_map-cons f x xs))
    (All-append P (f x) (flat_map f xs) (All-head (λ (y : S). All P (f y)) x xs each) (all_joined P f xs (All-tail (λ (y : S). All P (f y)) x xs each)))

module _ {T : Type 0} (Before : T → T → Type 0) where
  -- items by their numbers
  pub ascends-range : (f : ℕ → T) → ((i j : ℕ) → i < j → Before (f i) (f j)) → (k n : ℕ) → Ascends Before (map f (range_with_len k n))
  ascends-range f rise k zero = tt
  ascends-range f rise k (suc n) = (
    All-map (Before (f k)) f (range_with_len (k + 1) n)
        (All-weaker (λ (j : ℕ). k + 1 ≤ j) (λ (j : ℕ). Before (f k) (f j)) (λ j le. rise k j (omega (arith, le))) (range_with_len (k + 1) n) (range_from (k + 1) n)),
    ascends-range f rise (k + 1) n,
  )

  -- lists of them by their numbers
  pub ascends-lists : (f : ℕ → List T) → ((i : ℕ) → Ascends Before (f i)) → ((i j : ℕ) → i < j → All (λ x. All (Before x) (f j)) (f i))
      → (k n : ℕ) → Ascends Before (flat_map f (range_with_len k n))
  ascends-lists f each rise k zero = tt
  ascends-lists f each rise k (suc n) =
      let later : List ℕ = range_with_len (k + 1) n in
      subst (Ascends Before) (sym (flat_map-cons f k later))
      (ascends-append Before (f k) (flat_map f later) (each k) (ascends-lists f each rise (k + 1) n)
      (λ i d low.
      all_joined (Before (get_or (f k) i d)) f later
      (All-weaker (λ (j : ℕ). k + 1 ≤ j) (λ (j : ℕ). All (Before (get_or (f k) i d)) (f j)) (λ j le. rise k j (omega (arith, le)) i d low) later (range_from (k + 1) n))))

-- ---- the first that is awake

module _ {T : Type 0} (entry : T → Option Entry) where
  -- it makes the entry, and each other item makes none or comes behind it
  pub first_awake : (Before : T → T → Type 0) → ((a b : T) → Before a b → Before b a → ⊥) → (xs : List T) → Ascends Before xs → (x : T) → Contains xs x
      → ((y : T) → Contains xs y → (entry y ≡ None) ⊎ ((y ≡ x) ⊎ Before x y)) → (e : Entry) → entry x ≡ Some e → first_of entry xs ≡ Some e
  first_awake Before one_way [] up x at each e is = absurd (omega (arith, at.1))
  first_awake Before one_way (y ∷ ys) up x at each e is = elim (front_cases y ys x at) as (λ _. first_of entry (y ∷ ys) ≡ Some e) [
    | inl same ↦ here same
    | inr behind ↦ elim (each y (0, omega arith, refl)) as (λ _. first_of entry (y ∷ ys) ≡ Some e) [
      | inl none ↦
          ap (λ (o : Option Entry). option_or o (first_of entry ys)) none
          ∙ first_awake Before one_way ys up.1 x behind (λ z among. each z (suc among.0, omega (arith, among.1), among.2)) e is
      | inr more ↦ elim more as (λ _. first_of entry (y ∷ ys) ≡ Some e) [
        | inl same ↦ here same
        | inr after ↦ absurd (one_way x y after (All-contains (Before y) ys x up.0 behind))
      ]
    ]
  ]
    where
      here : y ≡ x → first_of entry (y ∷ ys) ≡ Some e
      here same = ap (λ (o : Option Entry). option_or o (first_of entry ys)) (ap entry same ∙ is)

  -- nobody makes one
  pub none_awake : (xs : List T) → ((y : T) → Contains xs y → entry y ≡ None) → first_of entry xs ≡ None
  none_awake [] each = refl
  none_awake (y ∷ ys) each =
      ap (λ (o : Option Entry). option_or o (first_of entry ys)) (each y (0, omega arith, refl))
      ∙ none_awake ys (λ z among. each z (suc among.0, omega (arith, among.1), among.2))
