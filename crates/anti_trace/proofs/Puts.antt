-- An entry put into a trace: the trace stays one, and what each test keeps of it gets the entry at its end.
use Rattle.std.proofs.Common.{ℕ, ◌+◌, ◌<◌, ◌≤◌, ◌≡◌, ◌⊎◌, Bool, true, false, cond, List, [], ◌∷◌, ◌++◌, length, refl, ap, sym, ◌∙◌, subst, inl, inr, arith}
use Rattle.std.specs.Prelude.{IsTrue}
use Rattle.std.specs.List.{All, Contains, filter}
use Rattle.std.proofs.lemmas.Bool.{cond-true, cond-false, cases_Bool, false≢true, eq-eqb, ne_eqb, eqb-true, and_from, and_parts, false_from_ne_true}
use Rattle.std.proofs.lemmas.List.Elements.{All-nil, All-cons, All-head, All-tail, All-weaker, All-filter, All-contains, All-contains_itself}
use Rattle.anti_kind.specs.declared.actor.Actor.{Actor}
use Rattle.anti_kind.specs.declared.actor.Actor.TheVariants.{Carrier, Process, Newborn}
use Rattle.anti_kind.specs.declared.actor.Birth.{Birth}
use Rattle.anti_kind.specs.declared.entry.Entry.{Entry}
use Rattle.anti_trace.specs.Traces.{comes_before, IsTrace, put, is_on, entries_on, same_actor, is_by, entries_by}
use Rattle.anti_trace.proofs.Orders.{stamp_le, before_trans, before_other, not_before_le}

-- no entry of the list has the object and the stamp of e
abbrev pub IsNew : Entry → List Entry → Type 0
IsNew e t = All (λ d. d.object ≡ e.object → d.stamp ≡ e.stamp → ⊥) t

pub put-later : (e d : Entry) (t : List Entry) → IsTrue (comes_before d e) → put e (d ∷ t) ≡ d ∷ put e t
put-later e d t b = cond-true _ _ _ b

pub put-here : (e d : Entry) (t : List Entry) → comes_before d e ≡ false → put e (d ∷ t) ≡ e ∷ d ∷ t
put-here e d t b = cond-false _ _ _ b

pub filter-yes : {X : Type 0} (p : X → Bool) (x : X) (xs : List X) → p x ≡ true → filter p (x ∷ xs) ≡ x ∷ filter p xs
filter-yes p x xs b = cond-true _ _ _ b

pub filter-no : {X : Type 0} (p : X → Bool) (x : X) (xs : List X) → p x ≡ false → filter p (x ∷ xs) ≡ filter p xs
filter-no p x xs b = cond-false _ _ _ b

-- what holds of the entry and of all others holds of all
pub All-put : (P : Entry → Type 0) (e : Entry) (t : List Entry) → P e → All P t → All P (put e t)
All-put P e [] h a = All-cons P e [] h a
All-put P e (d ∷ t) h a =
    elim (cases_Bool (comes_before d e)) [
      | inl b ↦ subst (All P) (sym (put-later e d t b)) (All-cons P d (put e t) (All-head P d t a) (All-put P e t h (All-tail P d t a)))
      | inr b ↦ subst (All P) (sym (put-here e d t b)) (All-cons P e (d ∷ t) h a)
    ]

-- and the other way round
pub All-put_parts : (P : Entry → Type 0) (e : Entry) (t : List Entry) → All P (put e t) → P e × All P t
All-put_parts P e [] a = (All-head P e [] a, All-nil P)
All-put_parts P e (d ∷ t) a =
    elim (cases_Bool (comes_before d e)) [
      | inl b ↦
          let h : All P (d ∷ put e t) = subst (All P) (put-later e d t b) a in
          let r : P e × All P t = All-put_parts P e t (All-tail P d (put e t) h) in
          (r.0, All-cons P d t (All-head P d (put e t) h) r.1)
      | inr b ↦
          let h : All P (e ∷ d ∷ t) = subst (All P) (put-here e d t b) a in
          (All-head P e (d ∷ t) h, All-tail P e (d ∷ t) h)
    ]

pub length-put : (e : Entry) (t : List Entry) → length (put e t) ≡ length t + 1
length-put e [] = refl
length-put e (d ∷ t) =
    elim (cases_Bool (comes_before d e)) [
      | inl b ↦ let h = length-put e t in let l = ap length (put-later e d t b) in omega arith
      | inr b ↦ let l = ap length (put-here e d t b) in omega arith
    ]

-- a trace into which a new entry was put is a trace
pub put_is_trace : (e : Entry) (t : List Entry) → IsTrace t → IsNew e t → IsTrace (put e t)
put_is_trace e [] is new = (All-nil (λ d. IsTrue (comes_before e d)), tt)
put_is_trace e (d ∷ t) is new =
    let Differs : Entry → Type 0 = λ x. x.object ≡ e.object → x.stamp ≡ e.stamp → ⊥ in
    elim (cases_Bool (comes_before d e)) [
      | inl b ↦ subst IsTrace (sym (put-later e d t b))
          (All-put (λ x. IsTrue (comes_before d x)) e t b is.0, put_is_trace e t is.1 (All-tail Differs d t new))
      | inr b ↦
          let first : IsTrue (comes_before e d) = before_other d e b (All-head Differs d t new) in
          subst IsTrace (sym (put-here e d t b)) (
            All-cons (λ x. IsTrue (comes_before e x)) d t first
                (All-weaker (λ x. IsTrue (comes_before d x)) (λ x. IsTrue (comes_before e x)) (λ x after. before_trans e d x first after) t is.0),
            is,
          )
    ]

-- a list whose stamps are both at least n and below n is empty
pub none_between : (n : ℕ) (t : List Entry) → All (λ d. n ≤ d.stamp) t → All (λ d. d.stamp < n) t → t ≡ []
none_between n [] low high = refl
none_between n (d ∷ t) low high =
    let a : n ≤ d.stamp = All-head (λ x. n ≤ x.stamp) d t low in
    let b : d.stamp < n = All-head (λ x. x.stamp < n) d t high in
    absurd (omega arith)

module _ (p : Entry → Bool) where
  -- an entry that a test does not keep changes nothing of what it keeps
  pub filter-put_other : (e : Entry) (t : List Entry) → p e ≡ false → filter p (put e t) ≡ filter p t
  filter-put_other e [] b = filter-no p e [] b
  filter-put_other e (d ∷ t) b =
      elim (cases_Bool (comes_before d e)) [
        | inl l ↦ ap (filter p) (put-later e d t l) ∙ ap (λ (r : List Entry). cond (p d) (d ∷ r) r) (filter-put_other e t b)
        | inr l ↦ ap (filter p) (put-here e d t l) ∙ filter-no p e (d ∷ t) b
      ]

  -- an entry later than all that a test keeps becomes the last of them
  pub filter-put_last : (e : Entry) (t : List Entry) → p e ≡ true → IsTrace t → All (λ d. d.stamp < e.stamp) (filter p t) → filter p (put e t) ≡ filter p t ++ e ∷ []
  filter-put_last e [] b is last = filter-yes p e [] b
  filter-put_last e (d ∷ t) b is last =
      elim (cases_Bool (comes_before d e)) [
        | inl l ↦ ap (filter p) (put-later e d t l) ∙ elim (cases_Bool (p d)) [
          | inl k ↦
              let tail : All (λ x. x.stamp < e.stamp) (filter p t) = All-tail (λ x. x.stamp < e.stamp) d (filter p t) (subst (All (λ x. x.stamp < e.stamp)) (filter-yes p d t k) last) in
              filter-yes p d (put e t) k ∙ ap (λ (r : List Entry). d ∷ r) (filter-put_last e t b is.1 tail) ∙ ap (λ (r : List Entry). r ++ e ∷ []) (sym (filter-yes p d t k))
          | inr k ↦
              let tail : All (λ x. x.stamp < e.stamp) (filter p t) = subst (All (λ x. x.stamp < e.stamp)) (filter-no p d t k) last in
              filter-no p d (put e t) k ∙ filter-put_last e t b is.1 tail ∙ ap (λ (r : List Entry). r ++ e ∷ []) (sym (filter-no p d t k))
        ]
        | inr l ↦
            let first : e.stamp ≤ d.stamp = not_before_le d e l in
            let low : All (λ x. e.stamp ≤ x.stamp) (d ∷ t) = All-cons (λ x. e.stamp ≤ x.stamp) d t first
            (All-weaker (λ x. IsTrue (comes_before d x)) (λ x. e.stamp ≤ x.stamp) (λ x after. let m : d.stamp ≤ x.stamp = stamp_le d x after in omega arith) t is.0) in
            let none : filter p (d ∷ t) ≡ [] = none_between e.stamp (filter p (d ∷ t)) (All-filter p (λ x. e.stamp ≤ x.stamp) (d ∷ t) low) last in
            ap (filter p) (put-here e d t l) ∙ filter-yes p e (d ∷ t) b ∙ ap (λ (r : List Entry). e ∷ r) none ∙ ap (λ (r : List Entry). r ++ e ∷ []) (sym none)
      ]

pub Contains-put_new : (e : Entry) (t : List Entry) → Contains (put e t) e
Contains-put_new e t = (All-put_parts (Contains (put e t)) e t (All-contains_itself (put e t))).0

pub Contains-put_old : (e d : Entry) (t : List Entry) → Contains t d → Contains (put e t) d
Contains-put_old e d t h = All-contains (Contains (put e t)) t d ((All-put_parts (Contains (put e t)) e t (All-contains_itself (put e t))).1) h

pub Contains-put_cases : (e d : Entry) (t : List Entry) → Contains (put e t) d → (d ≡ e) ⊎ Contains t d
Contains-put_cases e d t h =
    let Known : Entry → Type 0 = λ x. (x ≡ e) ⊎ Contains t x in
    All-contains Known (put e t) d (All-put Known e t (inl refl) (All-weaker (Contains t) Known (λ x k. inr k) t (All-contains_itself t))) h

-- what holds of all that a test keeps holds of all that pass it
pub All-from_filter : (P : Entry → Type 0) (p : Entry → Bool) (t : List Entry) → All P (filter p t) → All (λ x. p x ≡ true → P x) t
All-from_filter P p [] a = All-nil (λ x. p x ≡ true → P x)
All-from_filter P p (d ∷ t) a =
    elim (cases_Bool (p d)) [
      | inl k ↦
          let h : All P (d ∷ filter p t) = subst (All P) (filter-yes p d t k) a in
          All-cons (λ x. p x ≡ true → P x) d t (λ _. All-head P d (filter p t) h) (All-from_filter P p t (All-tail P d (filter p t) h))
      | inr k ↦
          let h : All P (filter p t) = subst (All P) (filter-no p d t k) a in
          All-cons (λ x. p x ≡ true → P x) d t (λ yes_too. absurd (false≢true (sym k ∙ yes_too))) (All-from_filter P p t h)
    ]

-- an entry later than all of its object is new
pub last_is_new : (e : Entry) (t : List Entry) → All (λ d. d.stamp < e.stamp) (entries_on e.object t) → IsNew e t
last_is_new e t last =
    All-weaker (λ d. is_on e.object d ≡ true → d.stamp < e.stamp) (λ d. d.object ≡ e.object → d.stamp ≡ e.stamp → ⊥)
    (λ d below o s. let l : d.stamp < e.stamp = below (eq-eqb d.object e.object o) in omega arith)
    t (All-from_filter (λ d. d.stamp < e.stamp) (is_on e.object) t last)

-- a trace into which the next entry of an object was put is a trace
pub put_next_is_trace : (e : Entry) (t : List Entry) → IsTrace t → All (λ d. d.stamp < e.stamp) (entries_on e.object t) → IsTrace (put e t)
put_next_is_trace e t is last = put_is_trace e t is (last_is_new e t last)

pub same_actor_itself : (a : Actor) → same_actor a a ≡ true
same_actor_itself (Carrier n) = eq-eqb n n refl
same_actor_itself (Process b) = and_from _ _ (eq-eqb b.object b.object refl) (eq-eqb b.place b.place refl)
same_actor_itself Newborn = refl

pub same_birth : (b c : Birth) → b.object ≡ c.object → b.place ≡ c.place → b ≡ c
same_birth b c o p =
    let make : ℕ → ℕ → Birth = λ x y. record { object = x; place = y } in
    ap (λ (x : ℕ). make x b.place) o ∙ ap (make c.object) p

pub same_actor_true : (a b : Actor) → same_actor a b ≡ true → a ≡ b
same_actor_true (Carrier n) (Carrier m) h = ap Carrier (eqb-true n m h)
same_actor_true (Process b) (Process c) h = let p = and_parts _ _ h in ap Process (same_birth b c (eqb-true _ _ p.0) (eqb-true _ _ p.1))
same_actor_true Newborn Newborn h = refl
same_actor_true (Carrier n) (Process c) h = absurd (false≢true h)
same_actor_true (Carrier n) Newborn h = absurd (false≢true h)
same_actor_true (Process b) (Carrier m) h = absurd (false≢true h)
same_actor_true (Process b) Newborn h = absurd (false≢true h)
same_actor_true Newborn (Carrier m) h = absurd (false≢true h)
same_actor_true Newborn (Process c) h = absurd (false≢true h)

-- the history of the entry's object gets it at its end
pub entries_on-put_same : (e : Entry) (t : List Entry) → IsTrace t → All (λ d. d.stamp < e.stamp) (entries_on e.object t) → entries_on e.object (put e t) ≡ entries_on e.object t ++ e ∷ []
entries_on-put_same e t is last = filter-put_last (is_on e.object) e t (eq-eqb e.object e.object refl) is last

-- the histories of the others stay
pub entries_on-put_other : (o : ℕ) (e : Entry) (t : List Entry) → (e.object ≡ o → ⊥) → entries_on o (put e t) ≡ entries_on o t
entries_on-put_other o e t other = filter-put_other (is_on o) e t (ne_eqb e.object o other)

-- what the entry's actor did gets it at its end
pub entries_by-put_same : (e : Entry) (t : List Entry) → IsTrace t → All (λ d. d.stamp < e.stamp) (entries_by e.actor t) → entries_by e.actor (put e t) ≡ entries_by e.actor t ++ e ∷ []
entries_by-put_same e t is last = filter-put_last (is_by e.actor) e t (same_actor_itself e.actor) is last

-- what the others did stays
pub entries_by-put_other : (a : Actor) (e : Entry) (t : List Entry) → (e.actor ≡ a → ⊥) → entries_by a (put e t) ≡ entries_by a t
entries_by-put_other a e t other = filter-put_other (is_by a) e t (false_from_ne_true _ (λ same. other (sym (same_actor_true a e.actor same))))
