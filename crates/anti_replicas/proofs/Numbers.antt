-- Tests that agree on the elements of a list, and how many elements from the first on pass one.
use Rattle.std.proofs.Common.{◌≡◌, ℕ, zero, suc, ◌+◌, ◌<◌, ◌≤◌, Bool, true, false, cond, not, ◌&&◌, List, [], ◌∷◌, ◌++◌, length, map, get_or, set, Option, Some, None, find, refl, ap, ◌∙◌, arith}
use Rattle.std.specs.List.{list_all, range_with_len, prefix_len, flat_map}
use Rattle.std.specs.Option.{option_map, option_or}
use Rattle.std.proofs.lemmas.List.Folds.{find-append}
use Rattle.std.proofs.lemmas.List.FromFn.{get_or-range_with_len, length-range_with_len}

-- tests that agree at each place
pub all_alike : {X : Type 0} (p q : X → Bool) (xs : List X) → ((i : ℕ) (d : X) → i < length xs → p (get_or xs i d) ≡ q (get_or xs i d)) → list_all p xs ≡ list_all q xs
all_alike p q [] same = refl
all_alike p q (x ∷ xs) same =
    let first : p x ≡ q x = same 0 x (omega arith) in
    let rest : list_all p xs ≡ list_all q xs = all_alike p q xs (λ i d short. same (suc i) d (omega arith)) in
    rw (first, rest) refl

pub find_alike : {X : Type 0} (p q : X → Bool) (xs : List X) → ((i : ℕ) (d : X) → i < length xs → p (get_or xs i d) ≡ q (get_or xs i d)) → find p xs ≡ find q xs
find_alike p q [] same = refl
find_alike p q (x ∷ xs) same =
    let first : p x ≡ q x = same 0 x (omega arith) in
    let rest : find p xs ≡ find q xs = find_alike p q xs (λ i d short. same (suc i) d (omega arith)) in
    rw (first, rest) refl

pub prefix_alike : {X Y : Type 0} (p : X → Bool) (q : Y → Bool) (xs : List X) (ys : List Y) → length xs ≡ length ys
    → ((i : ℕ) (d : X) (e : Y) → i < length xs → p (get_or xs i d) ≡ q (get_or ys i e)) → prefix_len p xs ≡ prefix_len q ys
prefix_alike p q [] [] long same = refl
prefix_alike p q [] (y ∷ ys) long same = absurd (omega arith)
prefix_alike p q (x ∷ xs) [] long same = absurd (omega arith)
prefix_alike p q (x ∷ xs) (y ∷ ys) long same =
    let first : p x ≡ q y = same 0 x y (omega arith) in
    let rest : prefix_len p xs ≡ prefix_len q ys = prefix_alike p q xs ys (omega arith) (λ i d e short. same (suc i) d e (omega arith)) in
    rw (first, rest) refl

-- the numbers from 1 to n
module _ (p q : ℕ → Bool) (n : ℕ) (same : (k : ℕ) → 1 ≤ k → k ≤ n → p k ≡ q k) where
  at_number : (i d : ℕ) → i < length (range_with_len 1 n) → p (get_or (range_with_len 1 n) i d) ≡ q (get_or (range_with_len 1 n) i d)
  at_number i d short =
      let within : i < n = omega (arith, length-range_with_len 1 n) in
      let is : get_or (range_with_len 1 n) i d ≡ 1 + i = get_or-range_with_len 1 n i d within in
      same (get_or (range_with_len 1 n) i d) (omega arith) (omega arith)

  pub all_numbers : list_all p (range_with_len 1 n) ≡ list_all q (range_with_len 1 n)
  all_numbers = all_alike p q (range_with_len 1 n) at_number

  pub find_numbers : find p (range_with_len 1 n) ≡ find q (range_with_len 1 n)
  find_numbers = find_alike p q (range_with_len 1 n) at_number

-- where none passes
pub prefix_none : {X : Type 0} (p : X → Bool) (xs : List X) → ((x : X) → p x ≡ false) → prefix_len p xs ≡ 0
prefix_none p [] none = refl
prefix_none p (x ∷ xs) none = rw (none x) refl

-- a further one that fails changes nothing
pub prefix_push : {X : Type 0} (p : X → Bool) (xs : List X) (x : X) → p x ≡ false → prefix_len p (xs ++ x ∷ []) ≡ prefix_len p xs
prefix_push p [] x off = rw off refl
prefix_push p (y ∷ ys) x off = ap (λ (n : ℕ). cond (p y) (1 + n) 0) (prefix_push p ys x off)

-- nor does one that is set and passes as before
pub prefix_set_same : {X : Type 0} (p : X → Bool) (xs : List X) (i : ℕ) (x d : X) → i < length xs → p x ≡ p (get_or xs i d) → prefix_len p (set xs i x) ≡ prefix_len p xs
prefix_set_same p [] i x d short same = absurd (omega arith)
prefix_set_same p (y ∷ ys) zero x d short same = ap (λ (b : Bool). cond b (1 + prefix_len p ys) 0) same
prefix_set_same p (y ∷ ys) (suc i) x d short same = ap (λ (n : ℕ). cond (p y) (1 + n) 0) (prefix_set_same p ys i x d (omega arith) same)

-- nor one behind the first that fails
pub prefix_set_behind : {X : Type 0} (p : X → Bool) (xs : List X) (i : ℕ) (x : X) → prefix_len p xs < i → prefix_len p (set xs i x) ≡ prefix_len p xs
prefix_set_behind p [] i x behind = refl
prefix_set_behind p (y ∷ ys) zero x behind = absurd (omega arith)
prefix_set_behind p (y ∷ ys) (suc i) x behind = by_test (p y) behind (prefix_set_behind p ys i x) where
  by_test : (b : Bool) → cond b (1 + prefix_len p ys) 0 < suc i → (prefix_len p ys < i → prefix_len p (set ys i x) ≡ prefix_len p ys)
      → cond b (1 + prefix_len p (set ys i x)) 0 ≡ cond b (1 + prefix_len p ys) 0
  by_test true less rest = ap (λ (n : ℕ). 1 + n) (rest (omega arith))
  by_test false less rest = refl

-- but where that one passes now, there is one more at least
pub prefix_set_first : {X : Type 0} (p : X → Bool) (xs : List X) (i : ℕ) (x : X) → i < length xs → i ≡ prefix_len p xs → p x ≡ true → i + 1 ≤ prefix_len p (set xs i x)
prefix_set_first p [] i x short first on = absurd (omega arith)
prefix_set_first p (y ∷ ys) zero x short first on = rw on (omega arith)
prefix_set_first p (y ∷ ys) (suc i) x short first on = by_test (p y) first (λ (at : i ≡ prefix_len p ys). prefix_set_first p ys i x (omega arith) at on) where
  by_test : (b : Bool) → suc i ≡ cond b (1 + prefix_len p ys) 0 → (i ≡ prefix_len p ys → i + 1 ≤ prefix_len p (set ys i x)) → suc i + 1 ≤ cond b (1 + prefix_len p (set ys i x)) 0
  by_test true at rest = let more : i + 1 ≤ prefix_len p (set ys i x) = rest (omega arith) in omega arith
  by_test false at rest = absurd (omega arith)

-- no element fails exactly where all pass
pub none_fails : {X : Type 0} (p : X → Bool) (xs : List X) → list_all p xs ≡ true → find (λ x. not (p x)) xs ≡ None
none_fails p [] all = refl
none_fails p (x ∷ xs) all = go (p x) refl (none_fails p xs) all where
  go : (b : Bool) → p x ≡ b → (list_all p xs ≡ true → find (λ y. not (p y)) xs ≡ None) → (b && list_all p xs) ≡ true → cond (not b) (Some x) (find (λ y. not (p y)) xs) ≡ None
  go true on rest all' = rest all'
  go false off rest all' = absurd (cc)

pub some_fails : {X : Type 0} (p : X → Bool) (xs : List X) → find (λ x. not (p x)) xs ≡ None → list_all p xs ≡ true
some_fails p [] none = refl
some_fails p (x ∷ xs) none = go (p x) refl (some_fails p xs) none where
  go : (b : Bool) → p x ≡ b → (find (λ y. not (p y)) xs ≡ None → list_all p xs ≡ true) → cond (not b) (Some x) (find (λ y. not (p y)) xs) ≡ None → (b && list_all p xs) ≡ true
  go true on rest none' = rest none'
  go false off rest none' = absurd (cc)

-- the first that passes
pub find_at : {X : Type 0} (p : X → Bool) (xs : List X) (i : ℕ) (d : X) → i < length xs → ((j : ℕ) (e : X) → j < i → p (get_or xs j e) ≡ false)
    → p (get_or xs i d) ≡ true → find p xs ≡ Some (get_or xs i d)
find_at p [] i d short none is = absurd (omega arith)
find_at p (x ∷ xs) zero d short none is = rw is refl
find_at p (x ∷ xs) (suc i) d short none is = rw (none 0 x (omega arith)) (find_at p xs i d (omega arith) (λ j e less. none (suc j) e (omega arith)) is)

-- Finding in lists that are joined.

pub find_nothing : {X : Type 0} (p : X → Bool) (xs : List X) → ((x : X) → p x ≡ false) → find p xs ≡ None
find_nothing p [] none = refl
find_nothing p (x ∷ xs) none = rw (none x) (find_nothing p xs none)

pub find_map : {X Y : Type 0} (p : Y → Bool) (f : X → Y) (xs : List X) → find p (map f xs) ≡ option_map f (find (λ x. p (f x)) xs)
find_map p f [] = refl
find_map p f (x ∷ xs) = go (p (f x)) refl (find_map p f xs) where
  go : (b : Bool) → p (f x) ≡ b → find p (map f xs) ≡ option_map f (find (λ y. p (f y)) xs)
      → cond b (Some (f x)) (find p (map f xs)) ≡ option_map f (cond b (Some x) (find (λ y. p (f y)) xs))
  go true on rest = refl
  go false off rest = rest

module _ {X Y : Type 0} (p : Y → Bool) (f : X → List Y) where
  find_after : (x : X) (xs : List X) → find p (f x) ≡ None → find p (flat_map f (x ∷ xs)) ≡ find p (flat_map f xs)
  find_after x xs none = find-append p (f x) (flat_map f xs) ∙ ap (λ (o : Option Y). option_or o (find p (flat_map f xs))) none

  -- the first that is found in one of the lists, with none before
  pub find_first : (xs : List X) (i : ℕ) (e : X) (y : Y) → i < length xs → ((j : ℕ) (d : X) → j < i → find p (f (get_or xs j d)) ≡ None)
      → find p (f (get_or xs i e)) ≡ Some y → find p (flat_map f xs) ≡ Some y
  find_first [] i e y short none is = absurd (omega arith)
  find_first (x ∷ xs) zero e y short none is = find-append p (f x) (flat_map f xs) ∙ ap (λ (o : Option Y). option_or o (find p (flat_map f xs))) is
  find_first (x ∷ xs) (suc i) e y short none is =
      find_after x xs (none 0 x (omega arith)) ∙ find_first xs i e y (omega arith) (λ j d less. none (suc j) d (omega arith)) is

  pub find_nowhere : (xs : List X) → ((j : ℕ) (d : X) → j < length xs → find p (f (get_or xs j d)) ≡ None) → find p (flat_map f xs) ≡ None
  find_nowhere [] none = refl
  find_nowhere (x ∷ xs) none = find_after x xs (none 0 x (omega arith)) ∙ find_nowhere xs (λ j d less. none (suc j) d (omega arith))
