-- The passes of a worker behind a use of one of them, as for a call that was asked.
use Rattle.std.proofs.Common.{◌≡◌, ℕ, ◌<◌, List, [], length, refl, sym, ap, ◌∙◌, subst, inl, inr, arith, append-nil}
use Rattle.std.specs.Prelude.{Option, None, Some, slice_get, slice_set}
use Rattle.std.proofs.lemmas.List.{length-set}
use Rattle.std.proofs.lemmas.Option.{slice_get_within}
use Rattle.anti_turn.specs.Lists.{IsFront}
use Rattle.anti_turn.proofs.Fronts.{front_self, front_trans}
use Rattle.anti_kind.specs.declared.asking.Asking.{Asking}
use Rattle.anti_kind.specs.declared.entry.Entry.{Entry}
use Rattle.anti_kind.specs.declared.port.Answer.{Answer}
use Rattle.anti_kind.specs.declared.port.Answer.TheVariants.{Made, Refused, NoMemory}
use Rattle.anti_kind.specs.Objects.{Start}
use Rattle.anti_kind.specs.Ports.{Answered, Answers, View}
use Rattle.anti_app.specs.declared.app.App.{App}
use Rattle.anti_object.specs.declared.object.Object.{Object}
use Rattle.anti_object.specs.Standing.{object_start}
use Rattle.anti_object.specs.Starts.{start_of}
use Rattle.anti_object.proofs.Starts.{start_there}
use Rattle.anti_shared.specs.Passes.{Identity, IsPass, PassView, SharedView, after_call, view_of}
use Rattle.anti_shared.specs.Passes as passes
use Rattle.anti_trace.proofs.Changed.{set_here, set_other}
use Rattle.anti_trace.proofs.Living.{decide}
use Rattle.anti_work.specs.inner.Knowing.{AreOf, ArePasses, IsAskedBy, IsPassAt, IsUsedAt, mine_at, mine_of, number_at, number_of, seen_at, seen_by}

-- ---- what is seen goes on, whatever is answered

front_of : (start : Start) (q : Asking) (old new : View) (answer : Answer) → Answers start q old new answer → IsFront old.seen new.seen
front_of start q old new (Made place stamp reply) made = front_trans old.seen made.0 new.seen made.1.1.front (_, made.1.1.seen)
front_of start q old new (Refused refusal) refused = refused.0.front
front_of start q old new NoMemory wanting = wanting.front

front_answered : (start : Option Start) (q : Asking) (old new : View) (answer : Answer) → Answered start q old new answer → IsFront old.seen new.seen
front_answered None q old new answer same = ([], ap (λ (v : View). v.seen) same.1 ∙ sym (append-nil old.seen))
front_answered (Some start) q old new answer both = front_of start q old new answer both.0

-- one call, by the pass of the object that it is at
pub asked_by : (shared : List (SharedView Object)) (old : List (PassView Object)) (q : Asking) (pass after : PassView Object) (answer : Answer) → AreOf shared old
    → slice_get old q.object ≡ Some pass → after ≡ after_call pass after.seen after.mine after.raised
    → Answered (passes.start_of object_start pass.id)
    (record { object = pass.id.object; actor = q.actor; span = q.span; clock = q.clock; call = q.call }) (view_of pass) (view_of after) answer
    → IsPass object_start after → IsAskedBy old (slice_set old q.object after) q answer
asked_by shared old q pass after answer of was after_is answered knows =
    let told : Answered (passes.start_of object_start pass.id) q (view_of pass) (view_of after) answer = subst
    (λ (o : ℕ). Answered (passes.start_of object_start pass.id)
    (record { object = o; actor = q.actor; span = q.span; clock = q.clock; call = q.call }) (view_of pass) (view_of after) answer)
    (of.numbered q.object pass was) answered in
    record {
      used = record {
        pass = pass;
        after = after;
        was = was;
        is = refl;
        id_is = ap (λ (p : PassView Object). p.id) after_is;
        number_is = ap (λ (p : PassView Object). p.number) after_is;
        ended_is = ap (λ (p : PassView Object). p.ended) after_is;
        front = front_answered (passes.start_of object_start pass.id) q (view_of pass) (view_of after) answer told;
        knows = knows;
      };
      answered = told;
    }

module _ (old new : List (PassView Object)) (object : ℕ) (used : IsUsedAt old new object) where
  -- ---- the pass of the object

  within : object < length old
  within = slice_get_within old object used.pass used.was

  here : slice_get new object ≡ Some used.after
  here = subst (λ (all : List (PassView Object)). slice_get all object ≡ Some used.after) (sym used.is) (set_here old object used.after within)

  pub seen_here : seen_at new object ≡ used.after.seen
  seen_here = ap seen_by here

  pub seen_was : seen_at old object ≡ used.pass.seen
  seen_was = ap seen_by used.was

  pub mine_here : mine_at new object ≡ used.after.mine
  mine_here = ap mine_of here

  pub mine_was : mine_at old object ≡ used.pass.mine
  mine_was = ap mine_of used.was

  pub number_here : number_at new object ≡ used.after.number
  number_here = ap number_of here

  -- ---- the passes of all objects

  pub many : length new ≡ length old
  many = ap length used.is ∙ length-set old object used.after

  others : (o : ℕ) → (object ≡ o → ⊥) → slice_get new o ≡ slice_get old o
  others o other = ap (λ (all : List (PassView Object)). slice_get all o) used.is ∙ set_other old object used.after o other

  pub mine_others : (o : ℕ) → (object ≡ o → ⊥) → mine_at new o ≡ mine_at old o
  mine_others o other = ap mine_of (others o other)

  -- each keeps its number
  pub numbers : (o : ℕ) → number_at new o ≡ number_at old o
  numbers o =
      elim (decide object o) as (λ _. number_at new o ≡ number_at old o) [
        | inl same ↦ subst (λ (k : ℕ). number_at new k ≡ number_at old k) same
            (number_here ∙ used.number_is ∙ sym (ap number_of used.was))
        | inr other ↦ ap number_of (others o other)
      ]

  -- and has seen what it had
  pub fronts : (o : ℕ) → IsFront (seen_at old o) (seen_at new o)
  fronts o =
      elim (decide object o) as (λ _. IsFront (seen_at old o) (seen_at new o)) [
        | inl same ↦
            subst (λ (k : ℕ). IsFront (seen_at old k) (seen_at new k)) same
            (subst (λ (h : List Entry). IsFront h (seen_at new object)) (sym seen_was) (subst (IsFront used.pass.seen) (sym seen_here) used.front))
        | inr other ↦ subst (IsFront (seen_at old o)) (sym (ap seen_by (others o other))) (front_self (seen_at old o))
      ]

  -- what holds of each pass that was not used, and of the one that was, holds of each
  each_of : (P : ℕ → PassView Object → Type 0) → ((o : ℕ) (pass : PassView Object) → slice_get old o ≡ Some pass → P o pass) → P object used.after
      → (o : ℕ) (pass : PassView Object) → slice_get new o ≡ Some pass → P o pass
  each_of P all then o pass at =
      elim (decide object o) as (λ _. P o pass) [
        | inl same ↦
            let at_object : slice_get new object ≡ Some pass = subst (λ (k : ℕ). slice_get new k ≡ Some pass) (sym same) at in
            let is : used.after ≡ pass = (let both : Some used.after ≡ Some pass = sym here ∙ at_object in cc) in
            subst (λ (k : ℕ). P k pass) same (subst (P object) is then)
        | inr other ↦ all o pass (sym (others o other) ∙ at)
      ]

  -- they are of the same shared objects
  pub still_of : (shared : List (SharedView Object)) → AreOf shared old → AreOf shared new
  still_of shared of = record {
    count = many ∙ of.count;
    each = λ o s pass is at.
        each_of (λ k p. (x : SharedView Object) → slice_get shared k ≡ Some x → p.id ≡ x.id) (λ k p was x stands. of.each k x p stands was)
        (λ x stands. used.id_is ∙ of.each object x used.pass stands used.was) o pass at s is;
    numbered = each_of (λ k p. p.id.object ≡ k) of.numbered (ap (λ (id : Identity Object). id.object) used.id_is ∙ of.numbered object used.pass used.was);
  }

  -- ---- of an application

  module _ (app : App) (are : ArePasses app old) where
    its : IsPassAt app object used.pass
    its = are.each object used.pass used.was

    pub passes_are : ArePasses app new
    passes_are = record {
      count = many ∙ are.count;
      each = each_of (IsPassAt app) are.each (record {
        object = ap (λ (id : Identity Object). id.object) used.id_is ∙ its.object;
        start = ap (passes.start_of object_start) used.id_is ∙ its.start;
        single = used.ended_is ∙ its.single;
        knows = used.knows;
      });
    }

    pub object_there : (start : Start) × (start_of app object ≡ Some start)
    object_there = start_there app object (omega (arith, within, are.count))

-- what was answered, from the start that there is
pub answered_from : (old new : List (PassView Object)) (q : Asking) (answer : Answer) (asked : IsAskedBy old new q answer) (app : App) (are : ArePasses app old)
    → Answers (object_there old new q.object asked.used app are).0 q (view_of asked.used.pass) (view_of asked.used.after) answer
answered_from old new q answer asked app are =
    let there = object_there old new q.object asked.used app are in
    let at : passes.start_of object_start asked.used.pass.id ≡ Some there.0 = (its old new q.object asked.used app are).start ∙ there.1 in
    (subst (λ (s : Option Start). Answered s q (view_of asked.used.pass) (view_of asked.used.after) answer) at asked.answered).0
