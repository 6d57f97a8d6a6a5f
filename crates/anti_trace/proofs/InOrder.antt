-- The processes of an object stand in the order of the places of their births, so that each is found by bisection.
use Rattle.std.proofs.Common.{◌≡◌, ℕ, ◌+◌, ◌<◌, ◌≤◌, inl, inr, List, [], ◌∷◌, Bool, true, false, cond, nat_eq, ◌&&◌, length, get_or, refl, sym, ap, ◌∙◌, subst, arith}
use Rattle.std.specs.Prelude.{All, AllPairs, None, Some, position}
use Rattle.std.specs.List.{position_or_len}
use Rattle.std.proofs.lemmas.Bool.{and_from, and_parts, cases_lt, cases_eq, eq-eqb, eqb-true, false_from_ne_true, false≢true, le-ltb}
use Rattle.std.proofs.lemmas.List.{get_or-map, length-map}
use Rattle.std.proofs.lemmas.List.Elements.{All-filter, filter_passes}
use Rattle.std.proofs.lemmas.List.Kept.{AllPairs-filter}
use Rattle.std.proofs.lemmas.List.Sums.{position_or_len_is}
use Rattle.std.proofs.lemmas.Option.{slice_get-get_or, get_or_from_slice_get}
use Rattle.anti_kind.specs.declared.actor.Actor.TheVariants.{Process as Acting}
use Rattle.anti_kind.specs.declared.actor.Birth.{Birth}
use Rattle.anti_kind.specs.declared.entry.Entry.{Entry}
use Rattle.anti_kind.specs.Objects.{Start}
use Rattle.anti_kind.proofs.Histories.{Placed, placed}
use Rattle.anti_app.specs.declared.app.App.{App}
use Rattle.anti_app.specs.Objects.{object_count}
use Rattle.anti_object.specs.Starts.{start_of}
use Rattle.anti_object.proofs.Starts.{start_there}
use Rattle.anti_proc.specs.declared.process.Process.{Process}
use Rattle.anti_proc.specs.Births.{birth_at, births, is_birth}
use Rattle.anti_proc.specs.inner.Standing.{birth_of}
use Rattle.anti_trace.specs.Traces.{entries_on, is_on, same_actor}
use Rattle.anti_trace.specs.Legal.{IsLegalTrace}
use Rattle.anti_trace.specs.declared.processes.AtObject.{AtObject}
use Rattle.anti_trace.specs.inner.Living.{AreBorn, AreInOrder, IsCountBefore, born_at, is_named}
use Rattle.anti_trace.proofs.AllLive.{found_at}
use Rattle.anti_trace.proofs.Puts.{same_actor_itself, same_actor_true, same_birth}

-- ---- the births on an object

-- an item of a list that has one
pub an_item : {X : Type 0} (xs : List X) → 0 < length xs → X
an_item [] some = absurd (omega arith)
an_item (x ∷ xs) some = x

module _ (trace : List Entry) (o : ℕ) where
  births_here : All (λ e. e.object ≡ o) (births (entries_on o trace))
  births_here = All-filter is_birth (λ (e : Entry). e.object ≡ o) (entries_on o trace)
      (λ i d lt. eqb-true (get_or (entries_on o trace) i d).object o (filter_passes (is_on o) trace i d lt))

  module _ (all : List AtObject) (born : AreBorn all trace) where
    abbrev ps : List Process
    ps = born_at all o

    abbrev es : List Entry
    es = births (entries_on o trace)

    pub as_many : length es ≡ length ps
    as_many = sym (length-map es birth_at) ∙ sym (ap length (born o)) ∙ length-map ps birth_of

    pub birth_is : (i : ℕ) (p : Process) (e : Entry) → i < length ps → birth_of (get_or ps i p) ≡ birth_at (get_or es i e)
    birth_is i p e lt =
        let count = as_many in
        sym (get_or-map birth_of ps i p (birth_of p) lt) ∙ ap (λ (bs : List Birth). get_or bs i (birth_of p)) (born o)
        ∙ get_or-map birth_at es i e (birth_of p) (omega (arith, count))

    -- where the places of the entries ascend, those of the births of the processes that were born there do
    pub order_by_places : AllPairs (λ d e. d.place < e.place) (entries_on o trace) → AreInOrder o ps
    order_by_places ascend = record {
      here = λ i p lt.
          let count = as_many in
          let e : Entry = an_item es (omega (arith, count, lt)) in
          ap (λ (b : Birth). b.object) (birth_is i p e lt) ∙ births_here i e (omega (arith, count));
      ascend = λ i j p less short.
          let count = as_many in
          let e : Entry = an_item es (omega (arith, count, short)) in
          let one : (birth_of (get_or ps i p)).place ≡ (get_or es i e).place = ap (λ (b : Birth). b.place) (birth_is i p e (omega (arith, less, short))) in
          let two : (birth_of (get_or ps j p)).place ≡ (get_or es j e).place = ap (λ (b : Birth). b.place) (birth_is j p e short) in
          let less : (get_or es i e).place < (get_or es j e).place =
          AllPairs-filter (λ (c d : Entry). c.place < d.place) is_birth (entries_on o trace) ascend i j e less (omega (arith, count)) in
          omega arith;
    }

-- in a legal trace they do
module _ (app : App) (trace : List Entry) (legal : IsLegalTrace app trace) (o : ℕ) where
  -- the entries on an object have the places 1, 2, ..
  pub placed_on : Placed (entries_on o trace)
  placed_on i d lt =
      let it : Entry = get_or (entries_on o trace) i d in
      let here : it.object ≡ o = eqb-true it.object o (filter_passes (is_on o) trace i d lt) in
      let low : it.object < object_count app = All-filter (is_on o) (λ e. e.object < object_count app) trace legal.there i d lt in
      let there : (start : Start) × (start_of app o ≡ Some start) = start_there app o (omega (arith, low, here)) in
      placed there.0 (entries_on o trace) (legal.histories o there.0 there.1) i d lt

  pub in_order : (all : List AtObject) → AreBorn all trace → AreInOrder o (born_at all o)
  in_order all born = order_by_places trace o all born
      (λ i j d less short. let one = placed_on i d (omega arith) in let two = placed_on j d short in omega arith)

-- ---- the process of a birth

module _ (o : ℕ) (ps : List Process) (order : AreInOrder o ps) where
  -- one that was read
  read_at : (m : ℕ) (p d : Process) → p ≡ get_or ps m p → m < length ps → get_or ps m d ≡ p
  read_at m p d is lt = get_or_from_slice_get ps m p d (slice_get-get_or ps m p lt ∙ ap Some (sym is))

  module _ (place m : ℕ) (p : Process) (is : p ≡ get_or ps m p) (lt : m < length ps) where
    pub below_up_to : (birth_of p).place < place → (i : ℕ) (d : Process) → i < m + 1 → (birth_of (get_or ps i d)).place < place
    below_up_to low i d before =
        elim (cases_lt i m) as (λ _. (birth_of (get_or ps i d)).place < place) [
          | inl less ↦
              let here : (birth_of (get_or ps m d)).place ≡ (birth_of p).place = ap (λ (x : Process). (birth_of x).place) (read_at m p d is lt) in
              let up : (birth_of (get_or ps i d)).place < (birth_of (get_or ps m d)).place = order.ascend i m d less lt in
              omega arith
          | inr last ↦
              let same : m ≡ i = omega arith in
              let here : (birth_of (get_or ps i d)).place ≡ (birth_of p).place =
              ap (λ (k : ℕ). (birth_of (get_or ps k d)).place) (sym same) ∙ ap (λ (x : Process). (birth_of x).place) (read_at m p d is lt) in
              omega arith
        ]

    pub above_from : place ≤ (birth_of p).place → (i : ℕ) (d : Process) → m ≤ i → i < length ps → place ≤ (birth_of (get_or ps i d)).place
    above_from high i d from short =
        let here : (birth_of (get_or ps m d)).place ≡ (birth_of p).place = ap (λ (x : Process). (birth_of x).place) (read_at m p d is lt) in
        elim (cases_lt m i) as (λ _. place ≤ (birth_of (get_or ps i d)).place) [
          | inl less ↦
              let up : (birth_of (get_or ps m d)).place < (birth_of (get_or ps i d)).place = order.ascend m i d less short in
              omega arith
          | inr first ↦
              let same : m ≡ i = omega arith in
              let there : (birth_of (get_or ps m d)).place ≡ (birth_of (get_or ps i d)).place = ap (λ (k : ℕ). (birth_of (get_or ps k d)).place) same in
              omega arith
        ]

-- the name of a process
named_is : (b : Birth) (p : Process) → is_named b p ≡ true → birth_of p ≡ b
named_is b p is = let same : Acting b ≡ Acting (birth_of p) = same_actor_true (Acting b) (Acting (birth_of p)) is in cc

pub is_named_so : (b : Birth) (p : Process) → birth_of p ≡ b → is_named b p ≡ true
is_named_so b p is = ap (λ (x : Birth). same_actor (Acting b) (Acting x)) is ∙ same_actor_itself (Acting b)

pub other_name : (b : Birth) (p : Process) → ((birth_of p).place ≡ b.place → ⊥) → is_named b p ≡ false
other_name b p other = false_from_ne_true (is_named b p) (λ is. other (ap (λ (x : Birth). x.place) (named_is b p is)))

module _ (b : Birth) (ps : List Process) where
  -- the first of the name
  pub stands_at : (i : ℕ) (d : Process) → i < length ps → ((k : ℕ) → k < i → is_named b (get_or ps k d) ≡ false) → is_named b (get_or ps i d) ≡ true
      → position (is_named b) ps ≡ Some i
  stands_at i d lt before here =
      let at : position_or_len (is_named b) ps ≡ i = position_or_len_is (is_named b) ps i d (omega arith) before (λ _. here) in
      found_at (is_named b) (position_or_len (is_named b) ps) (length ps) (omega (arith, at, lt)) ∙ ap Some at

  pub stands_nowhere : (d : Process) → ((k : ℕ) → k < length ps → is_named b (get_or ps k d) ≡ false) → position (is_named b) ps ≡ None
  stands_nowhere d none =
      let at : position_or_len (is_named b) ps ≡ length ps =
      position_or_len_is (is_named b) ps (length ps) d (omega arith) none (λ lt. absurd (omega arith)) in
      ap (λ (t : Bool). cond t (Some (position_or_len (is_named b) ps)) None) (le-ltb (position_or_len (is_named b) ps) (length ps) (omega (arith, at)))

-- ---- by the count of those before it

module _ (b : Birth) (ps : List Process) (order : AreInOrder b.object ps) (n : ℕ) (count : IsCountBefore b.place ps n) where
  before_count : (d : Process) (k : ℕ) → k < n → is_named b (get_or ps k d) ≡ false
  before_count d k low = other_name b (get_or ps k d) (λ same. let less = count.below k d low in omega arith)

  pub count_found : (p : Process) → n < length ps → p ≡ get_or ps n p → birth_of p ≡ b → position (is_named b) ps ≡ Some n
  count_found p lt is named = stands_at b ps n p lt (before_count p) (ap (is_named b) (sym is) ∙ is_named_so b p named)

  pub count_past : length ps ≤ n → position (is_named b) ps ≡ None
  count_past past = by_items ps refl
    where
      by_items : (xs : List Process) → ps ≡ xs → position (is_named b) ps ≡ None
      by_items [] is = ap (position (is_named b)) is
      by_items (d ∷ xs) is = stands_nowhere b ps d (λ k lt. before_count d k (omega (arith, lt, past)))

  -- the one that stands there has another name, and then none has this one
  pub count_missed : (p : Process) → n < length ps → p ≡ get_or ps n p → (birth_of p ≡ b → ⊥) → position (is_named b) ps ≡ None
  count_missed p lt is other = stands_nowhere b ps p (λ k short. elim (cases_lt k n) as (λ _. is_named b (get_or ps k p) ≡ false) [
    | inl low ↦ before_count p k low
    | inr from ↦ elim (cases_eq n k) as (λ _. is_named b (get_or ps k p) ≡ false) [
      | inl same ↦ ap (λ (m : ℕ). is_named b (get_or ps m p)) (sym same) ∙ ap (is_named b) (sym is)
          ∙ false_from_ne_true (is_named b p) (λ named. other (named_is b p named))
      | inr differs ↦ other_name b (get_or ps k p) (λ same.
          let first : b.place ≤ (birth_of (get_or ps n p)).place = count.above n p (omega arith) lt in
          let up : (birth_of (get_or ps n p)).place < (birth_of (get_or ps k p)).place = order.ascend n k p (omega (arith, from, differs)) short in
          omega arith)
    ]
  ])

-- each stands where its birth is found
pub found_itself : (o : ℕ) (ps : List Process) → AreInOrder o ps → (i : ℕ) (d : Process) → i < length ps
    → position (is_named (birth_of (get_or ps i d))) ps ≡ Some i
found_itself o ps order i d lt =
    let b : Birth = birth_of (get_or ps i d) in
    stands_at b ps i d lt
    (λ k low. other_name b (get_or ps k d) (λ same. let up : (birth_of (get_or ps k d)).place < (birth_of (get_or ps i d)).place = order.ascend k i d low lt in omega arith))
    (is_named_so b (get_or ps i d) refl)

-- two births that were compared
pub birth_equal : (a b : Birth) → (nat_eq a.object b.object && nat_eq a.place b.place) ≡ true → a ≡ b
birth_equal a b is = let parts = and_parts (nat_eq a.object b.object) (nat_eq a.place b.place) is in same_birth a b (eqb-true a.object b.object parts.0) (eqb-true a.place b.place parts.1)

pub birth_differs : (a b : Birth) → (nat_eq a.object b.object && nat_eq a.place b.place) ≡ false → a ≡ b → ⊥
birth_differs a b off same =
    let is : (nat_eq b.object b.object && nat_eq b.place b.place) ≡ false = subst (λ (x : Birth). (nat_eq x.object b.object && nat_eq x.place b.place) ≡ false) same off in
    false≢true (sym is ∙ and_from _ _ (eq-eqb b.object b.object refl) (eq-eqb b.place b.place refl))
