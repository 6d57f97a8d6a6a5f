-- The heads of histories: what a push or a pop makes of them, and that the greatest is of the last entry of all.
use Rattle.std.proofs.Common.{ℕ, ◌==◌, ◌+◌, ◌<◌, ◌≤◌, ◌≡◌, ◌⊎◌, ◌∙◌, false, cond, List, [], ◌∷◌, ◌++◌, length, get_or, set, take, refl, ap, sym, subst, inl, inr, arith}
use Rattle.std.specs.Prelude.{IsPermutation}
use Rattle.std.specs.BinaryHeap.{IsUpperBound, lt_by_cmp}
use Rattle.std.specs.List.{All}
use Rattle.std.proofs.lemmas.Bool.{cases_lt, cases_eq, eq-eqb, ne_eqb, cond-true, cond-false}
use Rattle.std.proofs.lemmas.Bool.Decides.{nat_tests}
use Rattle.std.proofs.lemmas.List.{get_or_append_left, get_or_past, get_or_push, get_or_default, get_or-set_same, get_or-set_other, length_push, length-take-le, take_more}
use Rattle.std.proofs.lemmas.List.Elements.{All-nil, All-cons, All-head, All-tail, All-from_recursion}
use Rattle.std.proofs.lemmas.List.Sorted.{All-permutation, sum_by-IsPermutation}
use Rattle.std.proofs.lemmas.List.Sums.{sum_by-cons}
use Rattle.anti_ids.specs.List.{Listed, empty}
use Rattle.anti_kind.specs.declared.entry.Entry.{Entry}
use Rattle.anti_trace.specs.declared.heads.Head.{Head}
use Rattle.anti_trace.specs.inner.Heads.{AreHeads, IsAdded, IsHeadOf, IsRenewed, end_object, end_stamp, head_cmp, heads_at, history_at, one_if_some}

-- a head of these histories
abbrev pub IsHeadIn : List (Listed Entry) → Head → Type 0
IsHeadIn hs head = IsHeadOf (history_at hs head.history) head

-- How many heads are of a history.

count_head : (k : ℕ) (head : Head) (heads : List Head) → heads_at k (head ∷ heads) ≡ cond (head.history == k) 1 0 + heads_at k heads
count_head k head heads = sum_by-cons (λ (x : Head). cond (x.history == k) 1 0) head heads

count_here : (k : ℕ) (head : Head) (heads : List Head) → head.history ≡ k → heads_at k (head ∷ heads) ≡ 1 + heads_at k heads
count_here k head heads at =
    count_head k head heads ∙ ap (λ (n : ℕ). n + heads_at k heads) (cond-true _ 1 0 (eq-eqb head.history k at))

count_other : (k : ℕ) (head : Head) (heads : List Head) → (head.history ≡ k → ⊥) → heads_at k (head ∷ heads) ≡ heads_at k heads
count_other k head heads ne =
    let n = count_head k head heads in
    let none : cond {A = ℕ} (head.history == k) 1 0 ≡ 0 = cond-false (head.history == k) 1 0 (ne_eqb head.history k ne) in
    omega arith

count_permuted : (k : ℕ) (old new : List Head) → IsPermutation old new → heads_at k new ≡ heads_at k old
count_permuted k old new p = sum_by-IsPermutation (λ (x : Head). cond (x.history == k) 1 0) old new p

-- where there is none, each head is of another history
none_at : (k : ℕ) (heads : List Head) → heads_at k heads ≡ 0 → All (λ head. head.history ≡ k → ⊥) heads
none_at k [] none = All-nil (λ (x : Head). x.history ≡ k → ⊥)
none_at k (head ∷ heads) none =
    let n = count_head k head heads in
    All-cons (λ (x : Head). x.history ≡ k → ⊥) head heads
    (λ at. let m = count_here k head heads at in omega arith)
    (none_at k heads (omega arith))

-- where there is one, what holds of each holds of one of that history
some_at : (P : Head → Type 0) (k : ℕ) (heads : List Head) → 0 < heads_at k heads → All P heads → (head : Head) × (head.history ≡ k) × P head
some_at P k [] some all = absurd (omega arith)
some_at P k (head ∷ heads) some all =
    elim (cases_eq head.history k) [
      | inl at ↦ (head, at, All-head P head heads all)
      | inr ne ↦ let n = count_other k head heads ne in some_at P k heads (omega arith) (All-tail P head heads all)
    ]

one_of : (h : List Entry) → 0 < length h → one_if_some h ≡ 1
one_of [] some = absurd (omega arith)
one_of (e ∷ es) some = refl

none_of : (h : List Entry) → one_if_some h ≡ 0 → h ≡ []
none_of [] none = refl
none_of (e ∷ es) none = absurd (omega arith)

-- a history that is not empty is among those that there are
pub some_inside : (hs : List (Listed Entry)) (k : ℕ) → 0 < length (history_at hs k) → k < length hs
some_inside hs k some =
    elim (cases_lt k (length hs)) [
      | inl l ↦ l
      | inr past ↦ let n = ap (λ (h : Listed Entry). length h.items) (get_or_past hs k empty past) in absurd (omega arith)
    ]

-- The heads of all histories but one.
pub record AreHeadsBut (k : ℕ) (hs : List (Listed Entry)) (heads : List Head) : Type 0 where
  pub own : All (IsHeadIn hs) heads
  pub none : heads_at k heads ≡ 0
  pub each : (j : ℕ) → (j ≡ k → ⊥) → heads_at j heads ≡ one_if_some (history_at hs j)

-- with the head of that one they are the heads of all
pub heads_added : (k : ℕ) (hs : List (Listed Entry)) (old new : List Head) → AreHeadsBut k hs old → IsAdded k (history_at hs k) old new → AreHeads hs new
heads_added k hs old new but (inl (no_entry, same)) = record {
  own = subst (All (IsHeadIn hs)) (sym same) but.own;
  each = λ j. ap (heads_at j) same ∙ elim (cases_eq j k) [
    | inl at ↦ subst (λ (i : ℕ). heads_at i old ≡ one_if_some (history_at hs i)) (sym at) (but.none ∙ sym (ap one_if_some no_entry))
    | inr ne ↦ but.each j ne
  ];
}
heads_added k hs old new but (inr (head, at, is, moved)) = record {
  own = All-permutation (IsHeadIn hs) (head ∷ old) new moved
      (All-cons (IsHeadIn hs) head old (subst (λ (i : ℕ). IsHeadOf (history_at hs i) head) (sym at) is) but.own);
  each = λ j. count_permuted j (head ∷ old) new moved ∙ elim (cases_eq j k) [
    | inl here ↦
        let n = count_here k head old at in
        let z = but.none in
        let o = one_of (history_at hs k) is.some in
        subst (λ (i : ℕ). heads_at i (head ∷ old) ≡ one_if_some (history_at hs i)) (sym here) (omega arith)
    | inr ne ↦ count_other j head old (λ there. ne (sym there ∙ at)) ∙ but.each j ne
  ];
}

-- one more history behind the others, whose head is not yet there
heads_behind : (hs : List (Listed Entry)) (h : Listed Entry) (heads : List Head) → AreHeads hs heads → AreHeadsBut (length hs) (hs ++ h ∷ []) heads
heads_behind hs h heads are = record {
  own = λ i d short.
      let head : Head = get_or heads i d in
      let is : IsHeadIn hs head = are.own i d short in
      subst (λ (x : Listed Entry). IsHeadOf x.items head) (sym (get_or_append_left hs (h ∷ []) empty head.history (some_inside hs head.history is.some))) is;
  none = are.each (length hs) ∙ ap (λ (x : Listed Entry). one_if_some x.items) (get_or_past hs (length hs) empty (omega arith));
  each = λ j ne. are.each j ∙ ap (λ (x : Listed Entry). one_if_some x.items) (elim (cases_lt j (length hs)) [
    | inl l ↦ sym (get_or_append_left hs (h ∷ []) empty j l)
    | inr past ↦
        let n = length_push hs h in
        get_or_past hs j empty past ∙ sym (get_or_past (hs ++ h ∷ []) j empty (omega arith))
  ]);
}

-- the heads of one history more
pub heads_more : (hs : List (Listed Entry)) (n : ℕ) (h : Listed Entry) (old new : List Head) → n < length hs → h ≡ get_or hs n h → AreHeads (take n hs) old → IsAdded n h.items old new → AreHeads (take (n + 1) hs) new
heads_more hs n h old new short read are added =
    let front : List (Listed Entry) = take n hs in
    let long : length front ≡ n = length-take-le n hs (omega arith) in
    let whole : take (n + 1) hs ≡ front ++ h ∷ [] = take_more hs n h short ∙ ap (λ (x : Listed Entry). front ++ x ∷ []) (sym read) in
    let but : AreHeadsBut n (front ++ h ∷ []) old = subst (λ (i : ℕ). AreHeadsBut i (front ++ h ∷ []) old) long (heads_behind front h old are) in
    let last : h.items ≡ history_at (front ++ h ∷ []) n = sym (ap (λ (x : Listed Entry). x.items) (get_or_push front h empty n long)) in
    subst (λ (xs : List (Listed Entry)). AreHeads xs new) (sym whole)
    (heads_added n (front ++ h ∷ []) old new but (subst (λ (items : List Entry). IsAdded n items old new) last added))

-- The head that is taken from the heap.
module _ (hs : List (Listed Entry)) (heads : List Head) (head : Head) (rest : List Head) (are : AreHeads hs heads) (moved : IsPermutation heads (head ∷ rest)) where
  all_own : All (IsHeadIn hs) (head ∷ rest)
  all_own = All-permutation (IsHeadIn hs) heads (head ∷ rest) moved are.own

  pub taken_is_head : IsHeadIn hs head
  taken_is_head = All-head (IsHeadIn hs) head rest all_own

  none_more : heads_at head.history rest ≡ 0
  none_more =
      let one = one_of (history_at hs head.history) taken_is_head.some in
      let e = are.each head.history in
      let p = count_permuted head.history heads (head ∷ rest) moved in
      let n = count_here head.history head rest refl in omega arith

  -- the others are those of the other histories, whatever becomes of its own
  pub heads_taken : (h : Listed Entry) → AreHeadsBut head.history (set hs head.history h) rest
  heads_taken h = record {
    own = λ i d short.
        let x : Head = get_or rest i d in
        subst (λ (y : Listed Entry). IsHeadOf y.items x)
        (sym (get_or-set_other hs head.history x.history h empty (none_at head.history rest none_more i d short)))
        (All-tail (IsHeadIn hs) head rest all_own i d short);
    none = none_more;
    each = λ j ne. sym (count_other j head rest (λ at. ne (sym at)))
        ∙ count_permuted j heads (head ∷ rest) moved
        ∙ are.each j
        ∙ sym (ap (λ (y : Listed Entry). one_if_some y.items) (get_or-set_other hs head.history j h empty ne));
  }

-- Of the histories that are not empty, the one whose last entry comes after the last entries of all others.
pub record IsLast (hs : List (Listed Entry)) (k : ℕ) : Type 0 where
  pub inside : k < length hs
  pub some : 0 < length (history_at hs k)
  pub others : (j : ℕ) → 0 < length (history_at hs j)
      → (end_stamp (history_at hs j) < end_stamp (history_at hs k))
      ⊎ ((end_stamp (history_at hs j) ≡ end_stamp (history_at hs k)) × (end_object (history_at hs j) ≤ end_object (history_at hs k)))

not_over : (a b : Head) → lt_by_cmp head_cmp a b ≡ false → (b.stamp < a.stamp) ⊎ ((b.stamp ≡ a.stamp) × (b.object ≤ a.object))
not_over a b low = grind (arith, nat_tests)

-- the first of a heap's heads is of that one
pub first_is_last : (hs : List (Listed Entry)) (heads : List Head) (head : Head) → AreHeads hs heads → 0 < length heads → head ≡ get_or heads 0 head → IsUpperBound head_cmp head heads → IsLast hs head.history
first_is_last hs heads head are many first upper =
    let here : IsHeadIn hs head = subst (IsHeadIn hs) (sym first) (are.own 0 head many) in
    let Low : Head → Type 0 = λ x. IsHeadIn hs x × (lt_by_cmp head_cmp head x ≡ false) in
    let low : All (λ x. lt_by_cmp head_cmp head x ≡ false) heads = All-from_recursion (λ x. lt_by_cmp head_cmp head x ≡ false) heads upper in
    record {
      inside = some_inside hs head.history here.some;
      some = here.some;
      others = λ j more.
          let one = one_of (history_at hs j) more in
          let e = are.each j in
          let found : (x : Head) × (x.history ≡ j) × Low x = some_at Low j heads (omega arith) (λ i d short. (are.own i d short, low i d short)) in
          let its : IsHeadOf (history_at hs j) found.0 = subst (λ (i : ℕ). IsHeadOf (history_at hs i) found.0) found.1 found.2.0 in
          let s = its.stamp in
          let o = its.object in
          let s' = here.stamp in
          let o' = here.object in
          elim (not_over head found.0 found.2.1) [
            | inl l ↦ inl (omega arith)
            | inr p ↦ inr (omega arith, omega arith)
          ];
    }

-- once the first is renewed, they are the heads of what its history is now
pub heads_renewed : (hs : List (Listed Entry)) (heads new : List Head) (head : Head) (h : Listed Entry) → AreHeads hs heads → 0 < length heads → head ≡ get_or heads 0 head → IsRenewed head.history h.items heads new → AreHeads (set hs head.history h) new
heads_renewed hs heads new head h are many read (first, rest, at, moved, added) =
    let same : first ≡ head = at ∙ get_or_default heads 0 first head many ∙ sym read in
    let out : IsPermutation heads (head ∷ rest) = subst (λ (x : Head). IsPermutation heads (x ∷ rest)) same moved in
    let here : IsHeadIn hs head = taken_is_head hs heads head rest are out in
    let now : h.items ≡ history_at (set hs head.history h) head.history =
    sym (ap (λ (x : Listed Entry). x.items) (get_or-set_same hs head.history h empty (some_inside hs head.history here.some))) in
    heads_added head.history (set hs head.history h) rest new (heads_taken hs heads head rest are out h)
    (subst (λ (items : List Entry). IsAdded head.history items rest new) now added)

-- where there is no head, each history is empty
pub no_heads : (hs : List (Listed Entry)) (heads : List Head) → AreHeads hs heads → (0 < length heads → ⊥) → (k : ℕ) → history_at hs k ≡ []
no_heads hs [] are none k = none_of (history_at hs k) (sym (are.each k))
no_heads hs (head ∷ heads) are none k = absurd (none (omega arith))
