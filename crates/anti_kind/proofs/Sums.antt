-- Sums whose terms change at one place.
use Rattle.std.proofs.Common.{◌≡◌, ℕ, zero, suc, ◌+◌, ◌-◌, ◌*◌, ◌<◌, ◌≤◌, Bool, true, false, cond, List, [], ◌∷◌, ◌++◌, length, get_or, sum_by, count_by, refl, sym, ap, ◌∙◌, arith}
use Rattle.std.proofs.lemmas.List.Sums.{sum_by-cons, sum_by_push}
use Rattle.std.proofs.lemmas.List.FromFn.{get_or-range_with_len, length-range_with_len}
use Rattle.std.specs.List.{range_with_len}

module _ {X : Type 0} (f g : X → ℕ) where
  -- terms that are the same at each place
  pub sum_same : (xs : List X) → ((k : ℕ) (d : X) → k < length xs → f (get_or xs k d) ≡ g (get_or xs k d)) → sum_by f xs ≡ sum_by g xs
  sum_same [] same = refl
  sum_same (x ∷ xs) same =
      let first : f x ≡ g x = same 0 x (omega arith) in
      let rest : sum_by f xs ≡ sum_by g xs = sum_same xs (λ k d short. same (suc k) d (omega arith)) in
      sum_by-cons f x xs ∙ (omega arith) ∙ sym (sum_by-cons g x xs)

  -- terms of which one is greater by one, and the others are the same
  pub sum_one_less : (xs : List X) (i : ℕ) → i < length xs → ((d : X) → f (get_or xs i d) ≡ g (get_or xs i d) + 1)
      → ((k : ℕ) (d : X) → k < length xs → (k ≡ i → ⊥) → f (get_or xs k d) ≡ g (get_or xs k d)) → sum_by f xs ≡ sum_by g xs + 1
  sum_one_less [] i short here others = absurd (omega arith)
  sum_one_less (x ∷ xs) zero short here others =
      let first : f x ≡ g x + 1 = here x in
      let rest : sum_by f xs ≡ sum_by g xs = sum_same xs (λ k d short. others (suc k) d (omega arith) (λ is. absurd (omega (arith, is)))) in
      let left : sum_by f (x ∷ xs) ≡ f x + sum_by f xs = sum_by-cons f x xs in
      let right : sum_by g (x ∷ xs) ≡ g x + sum_by g xs = sum_by-cons g x xs in
      omega arith
  sum_one_less (x ∷ xs) (suc i) short here others =
      let first : f x ≡ g x = others 0 x (omega arith) (λ is. absurd (omega (arith, is))) in
      let rest : sum_by f xs ≡ sum_by g xs + 1 = sum_one_less xs i (omega arith) here (λ k d short differs. others (suc k) d (omega arith) (λ is. differs (omega (arith, is)))) in
      let left : sum_by f (x ∷ xs) ≡ f x + sum_by f xs = sum_by-cons f x xs in
      let right : sum_by g (x ∷ xs) ≡ g x + sum_by g xs = sum_by-cons g x xs in
      omega arith

-- the same of counts
module _ {X : Type 0} (p q : X → Bool) where
  pub count_same : (xs : List X) → ((k : ℕ) (d : X) → k < length xs → p (get_or xs k d) ≡ q (get_or xs k d)) → count_by p xs ≡ count_by q xs
  count_same xs same = sum_same (λ x. cond (p x) 1 0) (λ x. cond (q x) 1 0) xs (λ k d short. ap (λ (b : Bool). cond b 1 0) (same k d short))

  pub count_one_less : (xs : List X) (i : ℕ) → i < length xs → ((d : X) → p (get_or xs i d) ≡ true) → ((d : X) → q (get_or xs i d) ≡ false)
      → ((k : ℕ) (d : X) → k < length xs → (k ≡ i → ⊥) → p (get_or xs k d) ≡ q (get_or xs k d)) → count_by p xs ≡ count_by q xs + 1
  count_one_less xs i short passes fails others =
      sum_one_less (λ x. cond (p x) 1 0) (λ x. cond (q x) 1 0) xs i short
      (λ d. ap (λ (b : Bool). cond b 1 0) (passes d) ∙ ap (λ (b : Bool). cond b 1 0 + 1) (sym (fails d)))
      (λ k d in' differs. ap (λ (b : Bool). cond b 1 0) (others k d in' differs))

-- sums and counts of equal terms

pub sum_equal : {X : Type 0} (f : X → ℕ) (n : ℕ) (xs : List X) → ((k : ℕ) (d : X) → k < length xs → f (get_or xs k d) ≡ n) → sum_by f xs ≡ length xs * n
sum_equal f n [] all = omega arith
sum_equal f n (x ∷ xs) all =
    let first : f x ≡ n = all 0 x (omega arith) in
    let rest : sum_by f xs ≡ length xs * n = sum_equal f n xs (λ k d short. all (suc k) d (omega arith)) in
    let both : sum_by f (x ∷ xs) ≡ f x + sum_by f xs = sum_by-cons f x xs in
    omega arith

pub count_all : {X : Type 0} (p : X → Bool) (xs : List X) → ((k : ℕ) (d : X) → k < length xs → p (get_or xs k d) ≡ true) → count_by p xs ≡ length xs
count_all p [] all = refl
count_all p (x ∷ xs) all =
    let first : cond {A = ℕ} (p x) 1 0 ≡ 1 = ap (λ (b : Bool). cond {A = ℕ} b 1 0) (all 0 x (omega arith)) in
    let rest : count_by p xs ≡ length xs = count_all p xs (λ k d short. all (suc k) d (omega arith)) in
    let both : count_by p (x ∷ xs) ≡ cond (p x) 1 0 + count_by p xs = sum_by-cons (λ y. cond (p y) 1 0) x xs in
    omega arith

pub count_none : {X : Type 0} (p : X → Bool) (xs : List X) → ((k : ℕ) (d : X) → k < length xs → p (get_or xs k d) ≡ false) → count_by p xs ≡ 0
count_none p [] none = refl
count_none p (x ∷ xs) none =
    let first : cond {A = ℕ} (p x) 1 0 ≡ 0 = ap (λ (b : Bool). cond {A = ℕ} b 1 0) (none 0 x (omega arith)) in
    let rest : count_by p xs ≡ 0 = count_none p xs (λ k d short. none (suc k) d (omega arith)) in
    let both : count_by p (x ∷ xs) ≡ cond (p x) 1 0 + count_by p xs = sum_by-cons (λ y. cond (p y) 1 0) x xs in
    omega arith

-- The numbers 1, 2, .. up to n.

module _ (p q : ℕ → Bool) where
  number_at : (n k d : ℕ) → k < n → get_or (range_with_len 1 n) k d ≡ 1 + k
  number_at n k d short = get_or-range_with_len 1 n k d short

  -- two tests that agree on them
  pub count_numbers_same : (n : ℕ) → ((k : ℕ) → 1 ≤ k → k ≤ n → p k ≡ q k) → count_by p (range_with_len 1 n) ≡ count_by q (range_with_len 1 n)
  count_numbers_same n same =
      count_same p q (range_with_len 1 n) (λ k d short.
      let within : k < n = omega (arith, length-range_with_len 1 n) in
      let is : get_or (range_with_len 1 n) k d ≡ 1 + k = number_at n k d within in
      same (get_or (range_with_len 1 n) k d) (omega arith) (omega arith))

  -- two tests that agree on them but for one, which passes the first alone
  pub count_numbers_less : (n m : ℕ) → 1 ≤ m → m ≤ n → p m ≡ true → q m ≡ false → ((k : ℕ) → (k ≡ m → ⊥) → p k ≡ q k) → count_by p (range_with_len 1 n) ≡ count_by q (range_with_len 1 n) + 1
  count_numbers_less n m some within passes fails others =
      let here : (d : ℕ) → get_or (range_with_len 1 n) (m - 1) d ≡ m = λ d. number_at n (m - 1) d (omega arith) ∙ omega arith in
      count_one_less p q (range_with_len 1 n) (m - 1) (omega (arith, length-range_with_len 1 n))
      (λ d. ap p (here d) ∙ passes)
      (λ d. ap q (here d) ∙ fails)
      (λ k d short differs.
      let in' : k < n = omega (arith, length-range_with_len 1 n) in
      let is : get_or (range_with_len 1 n) k d ≡ 1 + k = number_at n k d in' in
      others (get_or (range_with_len 1 n) k d) (λ same. differs (omega (arith, same))))

range_more : (a n : ℕ) → range_with_len a (suc n) ≡ range_with_len a n ++ (a + n) ∷ []
range_more a zero = ap (λ (x : ℕ). x ∷ []) (omega arith)
range_more a (suc n) = ap (λ (xs : List ℕ). a ∷ xs) (range_more (a + 1) n ∙ ap (λ (x : ℕ). range_with_len (a + 1) n ++ x ∷ []) (omega arith))

-- one number more
pub count_numbers_more : (p : ℕ → Bool) (n m : ℕ) → m ≡ n + 1 → count_by p (range_with_len 1 m) ≡ count_by p (range_with_len 1 n) + cond (p m) 1 0
count_numbers_more p n m is =
    let next : m ≡ suc n = omega arith in
    let last : 1 + n ≡ m = omega arith in
    ap (λ (k : ℕ). count_by p (range_with_len 1 k)) next
    ∙ ap (count_by p) (range_more 1 n)
    ∙ sum_by_push (λ (k : ℕ). cond {A = ℕ} (p k) 1 0) (range_with_len 1 n) (1 + n)
    ∙ ap (λ (k : ℕ). count_by p (range_with_len 1 n) + cond (p k) 1 0) last
