-- Lists that are cut at an item, pairs of their items, and what a test keeps of places.
use Rattle.std.proofs.Common.{◌≡◌, ℕ, zero, suc, ◌+◌, ◌<◌, ◌≤◌, ◌++◌, ◌⊎◌, ◌↔◌, Bool, true, List, [], ◌∷◌, get_or, All, AllPairs, Contains, take, refl, sym, ap, ◌∙◌, subst, inl, inr, arith}
use Rattle.std.specs.List.{filter, range_with_len}
use Rattle.std.proofs.lemmas.List.Elements.{All-append, Contains-append_right, Contains-get_or}
use Rattle.std.proofs.lemmas.List.FromFn.{get_or-range_with_len, length-range_with_len}
use Rattle.std.proofs.lemmas.List.Kept.{AllPairs-cons, AllPairs-filter}
use Rattle.std.proofs.lemmas.Option.{get_or_from_slice_get}
use Rattle.anti_kind.proofs.Finding.{filter_contains}
use Rattle.law_causal.proofs.Lists.{IsKept, kept_at}

-- ---- an item in front

pub in_front : {X : Type 0} (x : X) (xs : List X) → Contains (x ∷ xs) x
in_front x xs = (0, omega arith, refl)

pub in_rest : {X : Type 0} (x : X) (xs : List X) (y : X) → Contains xs y → Contains (x ∷ xs) y
in_rest x xs y (k, short, is) = (suc k, omega (arith, short), is)

pub front_or_rest : {X : Type 0} (x : X) (xs : List X) (y : X) → Contains (x ∷ xs) y → (x ≡ y) ⊎ Contains xs y
front_or_rest x xs y (zero, short, is) = inl is
front_or_rest x xs y (suc k, short, is) = inr (k, omega (arith, short), is)

pub in_none : {X A : Type 0} (x : X) → Contains [] x → A
in_none x (k, short, is) = absurd (omega (arith, short))

-- ---- one list behind another

-- where an item of two lists stands, with what is before it
pub data IsCut {X : Type 0} (xs ys before : List X) (x : X) (after : List X) : Type 0 where
  in_first : (rest : List X) → xs ≡ before ++ x ∷ rest → IsCut xs ys before x after
  in_second : (front : List X) → before ≡ xs ++ front → ys ≡ front ++ x ∷ after → IsCut xs ys before x after

module _ {X : Type 0} where
  further : (y : X) (xs ys before : List X) (x : X) (after : List X) → IsCut xs ys before x after → IsCut (y ∷ xs) ys (y ∷ before) x after
  further y xs ys before x after (in_first rest is) = in_first rest (ap (λ zs. y ∷ zs) is)
  further y xs ys before x after (in_second front is its) = in_second front (ap (λ zs. y ∷ zs) is) its

  pub cut_of_two : (xs ys before : List X) (x : X) (after : List X) → xs ++ ys ≡ before ++ x ∷ after → IsCut xs ys before x after
  cut_of_two [] ys before x after is = in_second before refl is
  cut_of_two (y ∷ xs) ys [] x after is = let same : y ≡ x = cc in in_first xs (ap (λ z. z ∷ xs) same)
  cut_of_two (y ∷ xs) ys (b ∷ before) x after is =
      let same : y ≡ b = cc in
      let rest : xs ++ ys ≡ before ++ x ∷ after = cc in
      let cut : IsCut xs ys before x after = cut_of_two xs ys before x after rest in
      subst (λ z. IsCut (y ∷ xs) ys (z ∷ before) x after) same (further y xs ys before x after cut)

-- ---- pairs

module _ {X : Type 0} (R : X → X → Type 0) where
  -- the first of a list with a later one, and the pairs without the first
  pub pair_first : (x : X) (xs : List X) → AllPairs R (x ∷ xs) → (y : X) → Contains xs y → R x y
  pair_first x xs pairs y (k, short, is) = subst (R x) is (pairs 0 (suc k) y (omega arith) (omega (arith, short)))

  pub pairs_rest : (x : X) (xs : List X) → AllPairs R (x ∷ xs) → AllPairs R xs
  pairs_rest x xs pairs i j d low short = pairs (suc i) (suc j) d (omega (arith, low)) (omega (arith, short))

  pub pairs_cons : (x : X) (xs : List X) → ((y : X) → Contains xs y → R x y) → AllPairs R xs → AllPairs R (x ∷ xs)
  pairs_cons x xs first pairs = AllPairs-cons R x xs (λ k d short. first (get_or xs k d) (Contains-get_or xs k d short)) pairs

  pub pairs_append : (xs ys : List X) → AllPairs R xs → AllPairs R ys → ((x y : X) → Contains xs x → Contains ys y → R x y)
      → AllPairs R (xs ++ ys)
  pairs_append [] ys one other across = other
  pairs_append (x ∷ xs) ys one other across =
      let of_xs : All (R x) xs = λ k d short. one 0 (suc k) d (omega arith) (omega (arith, short)) in
      let of_ys : All (R x) ys = λ k d short. across x (get_or ys k d) (in_front x xs) (Contains-get_or ys k d short) in
      AllPairs-cons R x (xs ++ ys) (All-append (R x) xs ys of_xs of_ys)
      (pairs_append xs ys (pairs_rest x xs one) other (λ z y in_xs in_ys. across z y (in_rest x xs z in_xs) in_ys))

  pub pairs_later : (xs ys : List X) → AllPairs R (xs ++ ys) → AllPairs R ys
  pairs_later [] ys pairs = pairs
  pairs_later (x ∷ xs) ys pairs = pairs_later xs ys (pairs_rest x (xs ++ ys) pairs)

  -- one of a list with one of a list behind it
  pub pairs_across : (xs ys : List X) → AllPairs R (xs ++ ys) → (x y : X) → Contains xs x → Contains ys y → R x y
  pairs_across [] ys pairs x y in_xs in_ys = in_none x in_xs
  pairs_across (z ∷ zs) ys pairs x y in_xs in_ys =
      elim (front_or_rest z zs x in_xs) [
        | inl same ↦ subst (λ (k : X). R k y) same (pair_first z (zs ++ ys) pairs y (Contains-append_right zs ys y in_ys))
        | inr later ↦ pairs_across zs ys (pairs_rest z (zs ++ ys) pairs) x y later in_ys
      ]

-- ---- places

front_of_places : (a n k : ℕ) → k ≤ n → take k (range_with_len a n) ≡ range_with_len a k
front_of_places a n zero low = refl
front_of_places a zero (suc k) low = absurd (omega (arith, low))
front_of_places a (suc n) (suc k) low = ap (λ zs. a ∷ zs) (front_of_places (a + 1) n k (omega (arith, low)))

pub is_place : (n x : ℕ) → Contains (range_with_len 0 n) x ↔ (x < n)
is_place n x = (
  λ in'.
      let short : in'.0 < n = omega (arith, in'.1, length-range_with_len 0 n) in
      omega (arith, short, in'.2, get_or-range_with_len 0 n in'.0 x short),
  λ low. (x, omega (arith, low, length-range_with_len 0 n), get_or-range_with_len 0 n x x low ∙ omega arith),
)

module _ (p : ℕ → Bool) (n : ℕ) where
  -- the places below n that pass ascend
  pub kept_ascend : AllPairs (λ x y. x < y) (filter p (range_with_len 0 n))
  kept_ascend = AllPairs-filter (λ x y. x < y) p (range_with_len 0 n) ascend
    where
      ascend : AllPairs (λ x y. x < y) (range_with_len 0 n)
      ascend i j d low short =
          let within : j < n = omega (arith, short, length-range_with_len 0 n) in
          let first = get_or-range_with_len 0 n i d (omega (arith, low, within)) in
          omega (arith, low, first, get_or-range_with_len 0 n j d within)

  pub is_kept : (x : ℕ) → Contains (filter p (range_with_len 0 n)) x ↔ (x < n) × (p x ≡ true)
  is_kept x =
      let both = filter_contains p (range_with_len 0 n) x in
      (λ in'. ((is_place n x).0 (both.0 in').0, (both.0 in').1), λ its. both.1 ((is_place n x).1 its.0, its.1))

-- The place x below n passes, and before it stand just those that pass and are less.
pub record IsPlace (p : ℕ → Bool) (n : ℕ) (before : List ℕ) (x : ℕ) : Type 0 where
  pub below : x < n
  pub passes : p x ≡ true
  pub earlier : (y : ℕ) → Contains before y ↔ (y < x) × (p y ≡ true)

pub place_of_cut : (p : ℕ → Bool) (n : ℕ) (before : List ℕ) (x : ℕ) (after : List ℕ)
    → filter p (range_with_len 0 n) ≡ before ++ x ∷ after → IsPlace p n before x
place_of_cut p n before x after is =
    let whole : take n (range_with_len 0 n) ≡ range_with_len 0 n = front_of_places 0 n n (omega arith) in
    let k : IsKept p (range_with_len 0 n) n before x = kept_at p (range_with_len 0 n) n before x after (ap (filter p) whole ∙ is) in
    let early : k.place < n = k.early in
    let read = get_or_from_slice_get (range_with_len 0 n) k.place x 0 k.there in
    let at : k.place ≡ x = omega (arith, get_or-range_with_len 0 n k.place 0 early, read) in
    let front : before ≡ filter p (range_with_len 0 x) =
    k.kept ∙ ap (filter p) (front_of_places 0 n k.place (omega (arith, early)) ∙ ap (range_with_len 0) at) in
    record {
      below = omega (arith, at, early);
      passes = k.passes;
      earlier = λ y. subst (λ (ys : List ℕ). Contains ys y ↔ (y < x) × (p y ≡ true)) (sym front) (is_kept p x y);
    }
