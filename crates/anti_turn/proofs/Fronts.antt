-- Fronts of lists, and the entries that have one number.
use Rattle.std.proofs.Common.{◌≡◌, ◌≢◌, ◌==◌, ℕ, ◌+◌, ◌<◌, ◌≤◌, Bool, true, false, cond, nat_lt, List, [], ◌∷◌, ◌++◌, length, All, sym, refl, ap, ◌∙◌, subst, ⊎_elim, append_assoc, append-nil, length-append, eq-eqb, ne_eqb, ltb-true, ltb-false, arith}
use Rattle.std.specs.List.{AllByRecursion as ByRecursion}
use Rattle.std.proofs.lemmas.Bool.{cases_eq, cases_Bool}
use Rattle.std.proofs.lemmas.List.Elements.{filter-append, recursion_from_All, All-from_recursion}
use Rattle.anti_turn.specs.Lists.{times, IsFront, longer_of, entries_of, GoesOn, Adds}

module _ {E : Type 0} where
  pub front_self : (xs : List E) → IsFront xs xs
  front_self xs = ([], sym (append-nil xs))

  pub front_trans : (xs ys zs : List E) → IsFront xs ys → IsFront ys zs → IsFront xs zs
  front_trans xs ys zs p q = (p.0 ++ q.0, q.1 ∙ ap (λ (w : List E). w ++ q.0) p.1 ∙ append_assoc xs p.0 q.0)

  pub front_length : (xs ys : List E) → IsFront xs ys → length xs ≤ length ys
  front_length xs ys p = omega (arith, ap length p.1, length-append xs p.0)

  -- of two fronts of one list the shorter is the front of the longer
  pub front_shorter : (xs ys zs : List E) → IsFront xs zs → IsFront ys zs → length xs ≤ length ys → IsFront xs ys
  front_shorter [] ys zs p q le = (ys, refl)
  front_shorter (x ∷ xs) [] zs p q le = absurd (omega arith)
  front_shorter (x ∷ xs) (y ∷ ys) [] p q le = absurd (cc (p.1))
  front_shorter (x ∷ xs) (y ∷ ys) (z ∷ zs) p q le =
      let heads : y ≡ x = cc (p.1, q.1) in
      let rest = front_shorter xs ys zs (p.0, cc (p.1)) (q.0, cc (q.1)) (omega arith) in
      (rest.0, cc (heads, rest.1))

  -- a front as long as the list is the list
  pub front_whole : (xs ys : List E) → IsFront xs ys → length ys ≤ length xs → xs ≡ ys
  front_whole [] [] p le = refl
  front_whole [] (y ∷ ys) p le = absurd (omega arith)
  front_whole (x ∷ xs) [] p le = absurd (cc (p.1))
  front_whole (x ∷ xs) (y ∷ ys) p le = let rest = front_whole xs ys (p.0, cc (p.1)) (omega arith) in cc (p.1, rest)

  -- ---- the longer of two fronts of one list

  pub longer_first : (xs ys : List E) → nat_lt (length xs) (length ys) ≡ false → longer_of xs ys ≡ xs
  longer_first xs ys h = ap (λ (b : Bool). cond b ys xs) h

  pub longer_second : (xs ys : List E) → nat_lt (length xs) (length ys) ≡ true → longer_of xs ys ≡ ys
  longer_second xs ys h = ap (λ (b : Bool). cond b ys xs) h

  module _ (xs ys zs : List E) (p : IsFront xs zs) (q : IsFront ys zs) where
    pub longer_front : IsFront (longer_of xs ys) zs
    longer_front =
        ⊎_elim (λ (h : nat_lt (length xs) (length ys) ≡ true). subst (λ (w : List E). IsFront w zs) (sym (longer_second xs ys h)) q)
        (λ (h : nat_lt (length xs) (length ys) ≡ false). subst (λ (w : List E). IsFront w zs) (sym (longer_first xs ys h)) p)
        (cases_Bool (nat_lt (length xs) (length ys)))

    pub front_of_longer : IsFront xs (longer_of xs ys)
    front_of_longer =
        ⊎_elim (λ (h : nat_lt (length xs) (length ys) ≡ true). let below : length xs < length ys = ltb-true (length xs) (length ys) h in
        subst (IsFront xs) (sym (longer_second xs ys h)) (front_shorter xs ys zs p q (omega arith)))
        (λ (h : nat_lt (length xs) (length ys) ≡ false). subst (IsFront xs) (sym (longer_first xs ys h)) (front_self xs))
        (cases_Bool (nat_lt (length xs) (length ys)))

    pub also_front_of_longer : IsFront ys (longer_of xs ys)
    also_front_of_longer =
        ⊎_elim (λ (h : nat_lt (length xs) (length ys) ≡ true). subst (IsFront ys) (sym (longer_second xs ys h)) (front_self ys))
        (λ (h : nat_lt (length xs) (length ys) ≡ false). let above : length ys ≤ length xs = ltb-false (length xs) (length ys) h in
        subst (IsFront ys) (sym (longer_first xs ys h)) (front_shorter ys xs zs q p above))
        (cases_Bool (nat_lt (length xs) (length ys)))

    pub longer_all : xs ≡ zs → longer_of xs ys ≡ zs
    longer_all e = sym (front_whole zs (longer_of xs ys) (subst (λ (w : List E). IsFront w (longer_of xs ys)) e front_of_longer) (front_length (longer_of xs ys) zs longer_front))

    pub also_longer_all : ys ≡ zs → longer_of xs ys ≡ zs
    also_longer_all e = sym (front_whole zs (longer_of xs ys) (subst (λ (w : List E). IsFront w (longer_of xs ys)) e also_front_of_longer) (front_length (longer_of xs ys) zs longer_front))

  -- ---- the entries of one number

  no_entry : (xs : List E) → length xs ≡ 0 → xs ≡ []
  no_entry [] none = refl
  no_entry (x ∷ xs) none = absurd (omega arith)

  module _ (by : E → ℕ) where
    pub entries_of-append : (n : ℕ) (xs ys : List E) → entries_of by n (xs ++ ys) ≡ entries_of by n xs ++ entries_of by n ys
    entries_of-append n xs ys = filter-append (λ (e : E). by e == n) xs ys

    -- where a list has no entry of a number, its front has none
    pub none_in_front : (n : ℕ) (xs ys : List E) → IsFront xs ys → entries_of by n ys ≡ [] → entries_of by n xs ≡ []
    none_in_front n xs ys p none =
        let parts : entries_of by n ys ≡ entries_of by n xs ++ entries_of by n p.0 = ap (entries_of by n) p.1 ∙ entries_of-append n xs p.0 in
        let long : length (entries_of by n ys) ≡ length (entries_of by n xs) + length (entries_of by n p.0) = ap length parts ∙ length-append (entries_of by n xs) (entries_of by n p.0) in
        let short : length (entries_of by n ys) ≡ 0 = ap length none in
        no_entry (entries_of by n xs) (omega arith)

    -- where the whole has no further entry of a number, what lies between has none
    pub entries_between : (n : ℕ) (xs ys zs : List E) → IsFront xs ys → IsFront ys zs → entries_of by n zs ≡ entries_of by n xs → entries_of by n ys ≡ entries_of by n xs
    entries_between n xs ys zs p q same =
        let first : entries_of by n ys ≡ entries_of by n xs ++ entries_of by n p.0 = ap (entries_of by n) p.1 ∙ entries_of-append n xs p.0 in
        let second : entries_of by n zs ≡ entries_of by n ys ++ entries_of by n q.0 = ap (entries_of by n) q.1 ∙ entries_of-append n ys q.0 in
        let a : length (entries_of by n ys) ≡ length (entries_of by n xs) + length (entries_of by n p.0) = ap length first ∙ length-append (entries_of by n xs) (entries_of by n p.0) in
        let b : length (entries_of by n zs) ≡ length (entries_of by n ys) + length (entries_of by n q.0) = ap length second ∙ length-append (entries_of by n ys) (entries_of by n q.0) in
        let c : length (entries_of by n zs) ≡ length (entries_of by n xs) = ap length same in
        let none : entries_of by n p.0 ≡ [] = no_entry (entries_of by n p.0) (omega arith) in
        first ∙ ap (λ (w : List E). entries_of by n xs ++ w) none ∙ append-nil (entries_of by n xs)

    none_of_other : (m n : ℕ) → m ≢ n → (more : List E) → ByRecursion (λ (e : E). by e ≡ m) more → entries_of by n more ≡ []
    none_of_other m n apart [] own = refl
    none_of_other m n apart (e ∷ es) own =
        let other : by e ≢ n = λ same. apart (sym own.0 ∙ same) in
        rw (ne_eqb (by e) n other) (none_of_other m n apart es own.1)

    -- what is added under one number adds nothing to another
    pub entries_of_others : (m n : ℕ) → m ≢ n → (old new : List E) → Adds by m old new → entries_of by n new ≡ entries_of by n old
    entries_of_others m n apart old new added =
        ap (entries_of by n) added.whole ∙ entries_of-append n old added.more
        ∙ ap (λ (w : List E). entries_of by n old ++ w) (none_of_other m n apart added.more (recursion_from_All (λ (e : E). by e ≡ m) added.more added.own))
        ∙ append-nil (entries_of by n old)

    pub front_of_added : (m : ℕ) (old new : List E) → Adds by m old new → IsFront old new
    front_of_added m old new added = (added.more, added.whole)

    -- ---- lists that go on

    pub goes_self : (ns : List ℕ) (xs : List E) → GoesOn by ns xs xs
    goes_self ns xs = record { front = front_self xs; own = λ n stands. refl }

    pub goes_nothing : (ys : List E) → GoesOn by [] [] ys
    goes_nothing ys = record { front = (ys, refl); own = λ n stands. absurd (omega arith) }

    pub goes_between : (ns : List ℕ) (xs ys zs : List E) → GoesOn by ns xs zs → IsFront xs ys → IsFront ys zs → GoesOn by ns xs ys
    goes_between ns xs ys zs goes p q = record { front = p; own = λ n stands. entries_between n xs ys zs p q (goes.own n stands) }

    -- ---- whose entries a list has

    claimed_each : (ns : List ℕ) (entries : List E) → ((n : ℕ) → times n ns ≡ 0 → entries_of by n entries ≡ []) → ByRecursion (λ (e : E). 0 < times (by e) ns) entries
    claimed_each ns [] none = tt
    claimed_each ns (e ∷ es) none =
        let n = by e in
        let own = entries_of by n es in
        let here : 0 < times n ns = ⊎_elim
        (λ (zero_times : times n ns ≡ 0). absurd (
        let gone : cond (n == n) (e ∷ own) own ≡ [] = none n zero_times in
        let kept : e ∷ own ≡ [] = rw (eq-eqb n n refl) at gone in cc))
        (λ (stands : times n ns ≢ 0). omega arith)
        (cases_eq (times n ns) 0) in
        (here, claimed_each ns es (λ n zero_times. none_left (by e == n) e (entries_of by n es) (none n zero_times)))
      where
        none_left : (b : Bool) (x : E) (rest : List E) → cond b (x ∷ rest) rest ≡ [] → rest ≡ []
        none_left true x rest h = absurd (cc)
        none_left false x rest h = h

    -- where numbers that are not among these have no entry, each entry's number is
    pub all_claimed : (ns : List ℕ) (entries : List E) → ((n : ℕ) → times n ns ≡ 0 → entries_of by n entries ≡ []) → All (λ e. 0 < times (by e) ns) entries
    all_claimed ns entries none = All-from_recursion (λ (e : E). 0 < times (by e) ns) entries (claimed_each ns entries none)
