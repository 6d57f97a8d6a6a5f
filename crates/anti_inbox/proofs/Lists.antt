-- Lists that are one of another: filters one after another, and what is set in a list of the numbers from 1 on.
use Rattle.std.proofs.Common.{◌≡◌, ℕ, zero, suc, ◌+◌, ◌-◌, ◌<◌, ◌≤◌, ◌==◌, Bool, true, false, not, cond, ◌&&◌, List, [], ◌∷◌, ◌++◌, length, get_or, set, map, All, count_by, eq-eqb, refl, sym, ap, ◌∙◌, ⊎_elim, inl, inr, arith}
use Rattle.std.specs.List.{filter, remove, range_with_len}
use Rattle.std.proofs.lemmas.Bool.{cond-true, cond-false, cases_Bool, cases_eq}
use Rattle.std.proofs.lemmas.List.{map-id, same_lists, length-set, get_or-set_same, get_or-set_other}
use Rattle.std.proofs.lemmas.List.Elements.{filter_agree}
use Rattle.std.proofs.lemmas.List.Sums.{count_by-le-length, length-filter}
use Rattle.std.proofs.lemmas.List.FromFn.{length-map-range_with_len, get_or-map-range_with_len, map-range_with_len_more}

module _ {X : Type 0} where
  pub filter-and : (p q : X → Bool) (xs : List X) → filter (λ x. p x && q x) xs ≡ filter q (filter p xs)
  filter-and p q [] = refl
  filter-and p q (x ∷ xs) =
      elim (cases_Bool (p x)) [
        | inl k ↦
            ap (λ (b : Bool). cond (b && q x) (x ∷ filter (λ y. p y && q y) xs) (filter (λ y. p y && q y) xs)) k
            ∙ ap (λ (r : List X). cond (q x) (x ∷ r) r) (filter-and p q xs)
            ∙ ap (filter q) (sym (cond-true (p x) (x ∷ filter p xs) (filter p xs) k))
        | inr k ↦
            ap (λ (b : Bool). cond (b && q x) (x ∷ filter (λ y. p y && q y) xs) (filter (λ y. p y && q y) xs)) k
            ∙ filter-and p q xs
            ∙ ap (filter q) (sym (cond-false (p x) (x ∷ filter p xs) (filter p xs) k))
      ]

  pub map_same : (f g : ℕ → X) (ns : List ℕ) → ((k : ℕ) → f k ≡ g k) → map f ns ≡ map g ns
  map_same f g [] same = refl
  map_same f g (n ∷ ns) same = ap (λ (x : X). x ∷ map f ns) (same n) ∙ ap (λ (xs : List X). g n ∷ xs) (map_same f g ns same)

  -- f of each number, but for one of them, is g of it
  pub set_mapped : (f g : ℕ → X) (count n : ℕ) (x : X) → 1 ≤ n → n ≤ count → x ≡ g n → ((k : ℕ) → (k ≡ n → ⊥) → f k ≡ g k)
      → set (map f (range_with_len 1 count)) (n - 1) x ≡ map g (range_with_len 1 count)
  set_mapped f g count n x some within here others =
      let size : length (map f (range_with_len 1 count)) ≡ count = length-map-range_with_len f 1 count in
      let size' : length (map g (range_with_len 1 count)) ≡ count = length-map-range_with_len g 1 count in
      let kept : length (set (map f (range_with_len 1 count)) (n - 1) x) ≡ length (map f (range_with_len 1 count)) = length-set (map f (range_with_len 1 count)) (n - 1) x in
      same_lists (set (map f (range_with_len 1 count)) (n - 1) x) (map g (range_with_len 1 count)) (omega arith)
      (λ k d short.
      let low : k < count = omega (arith, short) in
      let right : get_or (map g (range_with_len 1 count)) k d ≡ g (1 + k) = get_or-map-range_with_len g 1 count k (1 + k) d low refl in
      ⊎_elim (λ (same : k ≡ n - 1).
      ap (λ (i : ℕ). get_or (set (map f (range_with_len 1 count)) (n - 1) x) i d) same
      ∙ get_or-set_same (map f (range_with_len 1 count)) (n - 1) x d (omega arith)
      ∙ here ∙ ap g (omega (arith, some)) ∙ sym right)
      (λ (other : k ≡ n - 1 → ⊥).
      get_or-set_other (map f (range_with_len 1 count)) (n - 1) k x d other
      ∙ get_or-map-range_with_len f 1 count k (1 + k) d low refl
      ∙ others (1 + k) (λ is. other (omega (arith, is)))
      ∙ sym right)
      (cases_eq k (n - 1)))

-- the numbers from 1 to one more
pub range_more : (n : ℕ) → range_with_len 1 (n + 1) ≡ range_with_len 1 n ++ (n + 1) ∷ []
range_more n =
    sym (map-id (range_with_len 1 (n + 1)))
    ∙ map-range_with_len_more (λ (x : ℕ). x) 1 n (n + 1) (omega arith)
    ∙ ap (λ (r : List ℕ). r ++ (n + 1) ∷ []) (map-id (range_with_len 1 n))

pub length_range : (n : ℕ) → length (range_with_len 1 n) ≡ n
length_range n = ap length (sym (map-id (range_with_len 1 n))) ∙ length-map-range_with_len (λ (x : ℕ). x) 1 n

-- a test that each element passes keeps them all
pub filter-all : {X : Type 0} (p : X → Bool) (xs : List X) → ((x : X) → p x ≡ true) → filter p xs ≡ xs
filter-all p [] passes = refl
filter-all {X} p (x ∷ xs) passes = cond-true (p x) (x ∷ filter p xs) (filter p xs) (passes x) ∙ ap (λ (r : List X). x ∷ r) (filter-all p xs passes)

-- a test that no element passes keeps none
pub filter-none : {X : Type 0} (p : X → Bool) (xs : List X) → All (λ x. p x ≡ false) xs → filter p xs ≡ []
filter-none p [] fails = refl
filter-none {X} p (x ∷ xs) fails =
    cond-false (p x) (x ∷ filter p xs) (filter p xs) (fails 0 x (omega arith))
    ∙ filter-none p xs (λ k d short. fails (suc k) d (omega arith))

-- a test keeps no more than there are
pub filter-most : {X : Type 0} (p : X → Bool) (xs : List X) → length (filter p xs) ≤ length xs
filter-most p xs = let counted : length (filter p xs) ≡ count_by p xs = length-filter p xs in omega (arith, counted, count_by-le-length p xs)

-- of two tests it does not matter which comes first, and the second keeps no more
pub filters-length : {X : Type 0} (p q : X → Bool) (xs : List X) → length (filter p (filter q xs)) ≤ length (filter p xs)
filters-length {X} p q xs =
    let swapped : filter p (filter q xs) ≡ filter q (filter p xs) =
    sym (filter-and q p xs) ∙ filter_agree (λ x. q x && p x) (λ x. p x && q x) (λ x. flipped (q x) (p x)) xs ∙ filter-and p q xs in
    let counted : length (filter q (filter p xs)) ≡ count_by q (filter p xs) = length-filter q (filter p xs) in
    omega (arith, ap length swapped, counted, count_by-le-length q (filter p xs))
  where
    flipped : (a b : Bool) → (a && b) ≡ (b && a)
    flipped true true = refl
    flipped true false = refl
    flipped false true = refl
    flipped false false = refl

-- What a list has left when the element at an index is removed.

-- where that element does not pass the test, the rest passes as before
pub filter-remove : {X : Type 0} (p : X → Bool) (xs : List X) (i : ℕ) (d : X) → i < length xs → p (get_or xs i d) ≡ false
    → filter p (remove xs i) ≡ filter p xs
filter-remove p [] i d short off = absurd (omega arith)
filter-remove p (x ∷ xs) zero d short off = sym (cond-false (p x) (x ∷ filter p xs) (filter p xs) off)
filter-remove {X} p (x ∷ xs) (suc i) d short off = ap (λ (r : List X). cond (p x) (x ∷ r) r) (filter-remove p xs i d (omega arith) off)

-- where it stands there once, that is all but it

abbrev others : ℕ → List ℕ → List ℕ
others n xs = filter (λ k. not (k == n)) xs

abbrev copies : ℕ → List ℕ → List ℕ
copies n xs = filter (λ k. k == n) xs

-- of a list that begins with x, by whether that is n
module _ (x n : ℕ) (xs : List ℕ) where
  others_of_it : (x == n) ≡ true → others n (x ∷ xs) ≡ others n xs
  others_of_it on = cond-false (not (x == n)) (x ∷ others n xs) (others n xs) (ap not on)

  others_of_other : (x == n) ≡ false → others n (x ∷ xs) ≡ x ∷ others n xs
  others_of_other off = cond-true (not (x == n)) (x ∷ others n xs) (others n xs) (ap not off)

  copies_of_it : (x == n) ≡ true → copies n (x ∷ xs) ≡ x ∷ copies n xs
  copies_of_it on = cond-true (x == n) (x ∷ copies n xs) (copies n xs) on

  copies_of_other : (x == n) ≡ false → copies n (x ∷ xs) ≡ copies n xs
  copies_of_other off = cond-false (x == n) (x ∷ copies n xs) (copies n xs) off

all_others : (n : ℕ) (xs : List ℕ) → length (copies n xs) ≡ 0 → others n xs ≡ xs
all_others n [] none = refl
all_others n (x ∷ xs) none =
    elim (cases_Bool (x == n)) [
      | inl on ↦ absurd (omega (arith, none, ap length (copies_of_it x n xs on)))
      | inr off ↦
          others_of_other x n xs off
          ∙ ap (λ (r : List ℕ). x ∷ r) (all_others n xs (omega (arith, none, ap length (copies_of_other x n xs off))))
    ]

some_copy : (n : ℕ) (xs : List ℕ) (i d : ℕ) → i < length xs → get_or xs i d ≡ n → 1 ≤ length (copies n xs)
some_copy n [] i d short is = absurd (omega arith)
some_copy n (x ∷ xs) zero d short is = omega (arith, ap length (copies_of_it x n xs (eq-eqb x n is)))
some_copy n (x ∷ xs) (suc i) d short is =
    elim (cases_Bool (x == n)) [
      | inl on ↦ omega (arith, ap length (copies_of_it x n xs on))
      | inr off ↦ omega (arith, ap length (copies_of_other x n xs off), some_copy n xs i d (omega arith) is)
    ]

pub remove_once : (xs : List ℕ) (i n d : ℕ) → i < length xs → get_or xs i d ≡ n → length (filter (λ k. k == n) xs) ≤ 1
    → remove xs i ≡ filter (λ k. not (k == n)) xs
remove_once [] i n d short is once = absurd (omega arith)
remove_once (x ∷ xs) zero n d short is once =
    let here : (x == n) ≡ true = eq-eqb x n is in
    sym (others_of_it x n xs here ∙ all_others n xs (omega (arith, once, ap length (copies_of_it x n xs here))))
remove_once (x ∷ xs) (suc i) n d short is once =
    elim (cases_Bool (x == n)) [
      | inl on ↦ absurd (omega (arith, once, ap length (copies_of_it x n xs on), some_copy n xs i d (omega arith) is))
      | inr off ↦
          ap (λ (r : List ℕ). x ∷ r)
          (remove_once xs i n d (omega arith) is (omega (arith, once, ap length (copies_of_other x n xs off))))
          ∙ sym (others_of_other x n xs off)
    ]
