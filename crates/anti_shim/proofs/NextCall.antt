-- A call as a step, and a step with one call more.
use Rattle.std.proofs.Common.{◌≡◌, ⊎_elim, inl, inr, ℕ, ◌+◌, ◌<◌, ◌≤◌, List, [], ◌∷◌, ◌++◌, length, refl, ap, sym, ◌∙◌, subst, arith}
use Rattle.std.specs.Prelude.{Option, None, Some, Result, Ok, Err, IsErrAnd}
use Rattle.std.proofs.lemmas.Bool.{cases_eq}
use Rattle.std.proofs.lemmas.List.{length_push, same_from_push}
use Rattle.std.proofs.lemmas.Result.{err_from_is_err_and}
use Rattle.anti_kind.specs.declared.asking.Asking.{Asking}
use Rattle.anti_kind.specs.declared.call.Call.{Call}
use Rattle.anti_kind.specs.declared.entry.Entry.{Entry}
use Rattle.anti_kind.specs.declared.port.Answer.{Answer}
use Rattle.anti_kind.specs.declared.port.Answer.TheVariants as port
use Rattle.anti_kind.specs.declared.refusal.Refusal.TheVariants.{NotYet}
use Rattle.anti_kind.specs.Inbox.{numbered}
use Rattle.anti_kind.specs.Objects.{Start}
use Rattle.anti_kind.specs.Ports.{View, Answered, IsMade}
use Rattle.anti_kind.specs.Entries.{entry_of, named}
use Rattle.anti_kind.proofs.Deliveries.{numbered_new}
use Rattle.anti_shim.specs.declared.caller.Caller.{Caller}
use Rattle.anti_shim.specs.declared.caller.Made.{Made}
use Rattle.anti_shim.specs.declared.fault.ShimFault.{ShimFault}
use Rattle.anti_shim.specs.declared.fault.ShimFault.TheVariants.{NoMemory}
use Rattle.anti_shim.specs.Steps.{Step, IsIdle, asking, outcome_of, IsAsked, MayAsk, IsAdded, CallerAfter}

-- What an answer adds.

abbrev pub Adds : View → View → Result Made ShimFault → Type 0
Adds old new (Ok made) = (e : Entry) × (new.made ≡ old.made ++ e ∷ [])
Adds old new (Err fault) = new.made ≡ old.made

pub adds : (start : Option Start) (q : Asking) (old new : View) (a : Answer) → Answered start q old new a → Adds old new (outcome_of a)
adds None q old new a answered = let is : a ≡ port.Refused NotYet = answered.0 in let same : new ≡ old = answered.1 in
    subst (λ (x : Answer). Adds old new (outcome_of x)) (sym is) (ap (λ (v : View). v.made) same)
adds (Some start) q old new (port.Made place stamp reply) answered = (entry_of q answered.0.1.0 place stamp reply, answered.0.1.1.made)
adds (Some start) q old new (port.Refused refusal) answered = answered.0.0.made
adds (Some start) q old new port.NoMemory answered = answered.0.made

adds_one : (old new : View) (outcome : Result Made ShimFault) → Adds old new outcome → length new.made ≤ length old.made + 1
adds_one old new (Ok made) a =
    let more : length new.made ≡ length (old.made ++ a.0 ∷ []) = ap (λ (es : List Entry). length es) a.1 in
    omega (arith, length_push old.made a.0)
adds_one old new (Err fault) a = let same : length new.made ≡ length old.made = ap (λ (es : List Entry). length es) a in omega arith

pub one_answer : (start : Option Start) (q : Asking) (old new : View) (a : Answer) → Answered start q old new a → length new.made ≤ length old.made + 1
one_answer start q old new a answered = adds_one old new (outcome_of a) (adds start q old new a answered)

-- A call that was made.

pub record Entered (s : Step) (object : ℕ) (asked : Call) (made : Made) : Type 0 where
  pub entry : Entry
  pub added : IsAdded s object entry
  pub stands : numbered (s.new object).seen made.place ≡ Some entry
  pub place : entry.place ≡ made.place
  pub stamp : entry.stamp ≡ made.stamp
  pub actor : entry.actor ≡ named s.before.actor object made.place
  pub span : entry.span ≡ s.before.span
  pub call : entry.call ≡ asked
  pub reply : entry.reply ≡ made.reply
  pub later : s.before.clock < made.stamp

pub made_answer : (a : Answer) (made : Made) → ◌≡◌ {A = Result Made ShimFault} (Ok made) (outcome_of a) → a ≡ port.Made made.place made.stamp made.reply
made_answer (port.Made place stamp reply) made is =
    let same : made ≡ record { place = place; stamp = stamp; reply = reply } = cc in
    ap (λ (m : Made). port.Made m.place m.stamp m.reply) (sym same)
made_answer (port.Refused refusal) made is = absurd (cc)
made_answer port.NoMemory made is = absurd (cc)

module _ (s : Step) (object : ℕ) (call : Call) where
  -- the answer of a call that was made
  pub answered_made : (made : Made) → IsAsked s object call (Ok made)
      → Answered (s.starts object) (asking s.before object call) (s.old object) (s.new object) (port.Made made.place made.stamp made.reply)
  answered_made made a =
      subst (λ (x : Answer). Answered (s.starts object) (asking s.before object call) (s.old object) (s.new object) x) (made_answer a.answer made a.outcome_is) a.answered

  entered_at : (start : Option Start) (made : Made) → Answered start (asking s.before object call) (s.old object) (s.new object) (port.Made made.place made.stamp made.reply)
      → Entered s object call made
  entered_at None made a = let no : port.Made made.place made.stamp made.reply ≡ port.Refused NotYet = a.0 in absurd (cc)
  entered_at (Some start) made a =
      let q = asking s.before object call in
      let h = a.0.0 in
      let e = entry_of q a.0.1.0 made.place made.stamp made.reply in
      let m : IsMade start q.clock (s.old object) (s.new object) h e = a.0.1.1 in
      record {
        entry = e;
        added = m.made;
        stands = rw m.seen (numbered_new h e made.place m.follows.place);
        place = refl;
        stamp = refl;
        actor = refl;
        span = refl;
        call = refl;
        reply = refl;
        later = omega (arith, m.stamp);
      }

  pub entered : (made : Made) → IsAsked s object call (Ok made) → Entered s object call made
  entered made a = entered_at (s.starts object) made (answered_made made a)

  -- a call that was refused adds nothing anywhere
  pub none_added : (fault : ShimFault) → IsAsked s object call (Err fault) → (o : ℕ) → (s.new o).made ≡ (s.old o).made
  none_added fault a o =
      ⊎_elim (λ (here : o ≡ object). subst (λ (n : ℕ). (s.new n).made ≡ (s.old n).made) (sym here) at_object)
      (λ (off : o ≡ object → ⊥). ap (λ (v : View). v.made) (a.others o off))
      (cases_eq o object)
    where
      at_object : (s.new object).made ≡ (s.old object).made
      at_object =
          subst (λ (r : Result Made ShimFault). Adds (s.old object) (s.new object) r) (sym a.outcome_is)
          (adds (s.starts object) (asking s.before object call) (s.old object) (s.new object) a.answer a.answered)

-- Without memory nothing is asked.

pub unasked : (starts : ℕ → Option Start) (views : ℕ → View) (who : Caller) (object : ℕ) (call : Call)
    → MayAsk (record { starts = starts; old = views; new = views; before = who; after = who }) object call (Err NoMemory)
unasked starts views who object call = inr (record { views = λ o. refl; caller = refl }, refl)

-- what a `?` gives without memory
pub no_memory_of : {A : Type 0} (result : Result A ShimFault) → IsErrAnd result (λ fault. fault ≡ NoMemory) → result ≡ Err NoMemory
no_memory_of result is = let e = err_from_is_err_and result is in e.1 ∙ ap Err e.2

-- Before the first call.

pub none_more : (es : List Entry) (e : Entry) → es ≡ es ++ e ∷ [] → ⊥
none_more es e is = let longer : length es ≡ length (es ++ e ∷ []) = ap (λ (xs : List Entry). length xs) is in omega (arith, length_push es e)

abbrev pub nothing : (ℕ → Option Start) → (ℕ → View) → Caller → Step
nothing starts views who = record { starts = starts; old = views; new = views; before = who; after = who }

pub after_nothing : (starts : ℕ → Option Start) (views : ℕ → View) (who : Caller) → CallerAfter (nothing starts views who)
after_nothing starts views who =
    record {
      actor = refl;
      span = refl;
      since = omega arith;
      stamps = λ o e added. absurd (none_more (views o).made e added);
      reached = inl refl;
    }

-- One call more.

-- the call behind a step, as a step, and the step with it
abbrev pub last : Step → (ℕ → View) → Caller → Step
last s new next = record { starts = s.starts; old = s.new; new = new; before = s.after; after = next }

abbrev pub whole : Step → (ℕ → View) → Caller → Step
whole s new next = record s { new = new; after = next }

module _ (s : Step) (new : ℕ → View) (next : Caller) where
  pub added_before : (o : ℕ) (e : Entry) → (new o).made ≡ (s.new o).made → IsAdded (whole s new next) o e → IsAdded s o e
  added_before o e same added = sym same ∙ added

  -- what holds of a step holds of it with a call that was not made
  pub idle_more : IsIdle (last s new next) → (P : Step → Type 0) → P s → P (whole s new next)
  idle_more idle P holds =
      let views : s.new ≡ new = λ i o. sym (idle.views o) i in
      subst (λ (c : Caller). P (whole s new c)) (sym idle.caller) (subst (λ (v : ℕ → View). P (record s { new = v })) views holds)

  module _ (object : ℕ) (call : Call) (same : s.new object ≡ s.old object) (a : CallerAfter s) where
    -- an entry that was added at the object is the last
    pub added_once : (e other : Entry) → IsAdded (last s new next) object e → IsAdded (whole s new next) object other → e ≡ other
    added_once e other added also = (same_from_push (s.new object).made (s.old object).made e other (sym added ∙ also)).1

    caller_same : (fault : ShimFault) → IsAsked (last s new next) object call (Err fault) → CallerAfter (whole s new next)
    caller_same fault asked =
        let none = none_added (last s new next) object call fault asked in
        subst (λ (c : Caller). CallerAfter (whole s new c)) (sym asked.caller) (record {
          actor = a.actor;
          span = a.span;
          since = a.since;
          stamps = λ o e added. a.stamps o e (added_before o e (none o) added);
          reached = ⊎_elim (λ (stays : s.after.clock ≡ s.before.clock). inl stays)
              (λ (r : (o : ℕ) × (e : Entry) × IsAdded s o e × (s.after.clock ≡ e.stamp)). inr (r.0, r.1, none r.0 ∙ r.2, r.3))
              a.reached;
        })

    caller_made : (made : Made) → IsAsked (last s new next) object call (Ok made) → CallerAfter (whole s new next)
    caller_made made asked =
        let e = entered (last s new next) object call made asked in
        let stamp : e.entry.stamp ≡ made.stamp = e.stamp in
        let later : s.after.clock < made.stamp = e.later in
        subst (λ (c : Caller). CallerAfter (whole s new c)) (sym asked.caller) (record {
          actor = a.actor;
          span = a.span;
          since = let first : s.before.clock ≤ s.after.clock = a.since in omega arith;
          stamps = λ o x is_added. ⊎_elim
              (λ (here : o ≡ object).
              let at_object : IsAdded (whole s new next) object x = subst (λ (n : ℕ). IsAdded (whole s new next) n x) here is_added in
              let is : e.entry.stamp ≡ x.stamp = ap (λ (y : Entry). y.stamp) (added_once e.entry x e.added at_object) in
              omega arith)
              (λ (off : o ≡ object → ⊥).
              let first : x.stamp ≤ s.after.clock = a.stamps o x (added_before o x (ap (λ (v : View). v.made) (asked.others o off)) is_added) in
              omega arith)
              (cases_eq o object);
          reached = inr (object, e.entry, e.added ∙ ap (λ (v : View). v.made ++ e.entry ∷ []) same, sym stamp);
        })

    -- the caller after one call more, at an object that was as it was
    pub caller_more : (outcome : Result Made ShimFault) → MayAsk (last s new next) object call outcome → CallerAfter (whole s new next)
    caller_more (Ok made) (inl asked) = caller_made made asked
    caller_more (Err fault) (inl asked) = caller_same fault asked
    caller_more outcome (inr idle) = idle_more idle.0 CallerAfter a
