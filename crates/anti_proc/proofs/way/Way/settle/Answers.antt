use Rattle.std.proofs.Common.{◌≡◌, ◌<◌, ◌∙◌, sym, ap, subst, arith}
use Rattle.std.specs.Prelude.{ℕ, Option, None}
use Rattle.anti_lang.specs.Bodies.{step_of}
use Rattle.anti_lang.specs.Steps.{steps_of}
use Rattle.anti_proc.specs.declared.cursor.Cursor.{Cursor}
use Rattle.anti_proc.specs.declared.next.Stage.{Stage}
use Rattle.anti_proc.specs.declared.way.Way.{Way}
use Rattle.anti_proc.specs.Local.{Setting}
use Rattle.anti_proc.specs.Meaning.{Go, step_tree}
use Rattle.anti_proc.specs.inner.Cursors.{Enters, weight}
use Rattle.anti_proc.specs.inner.Running.{HasSpans}
use Rattle.anti_proc.specs.inner.Standing.{going, left_to_run, local_in, setting, setting_in, stage_or}
use Rattle.anti_proc.specs.inner.Statements.{ComesTo, turns_of, with_block}
use Rattle.anti_proc.proofs.NoneHere.{comes_to_none, none_still}
use Rattle.anti_proc.proofs.Settling.{passed_goes, passed_lighter, passed_spans}
use Rattle.anti_proc.proofs.way.Way.settle.Goals as goal
use Rattle.anti_proc.proofs.way.Way.settle.Goals.{In_ok-enter, In_ok-stage}

-- the block was entered as often as it is run
enters : (c : In_ok-enter) → Enters (turns_of (step_of c.in-Some.statement.now) (local_in c.loop-statement.self)) c.next_line.new.self c.enter.new.self
enters c = subst (λ (n : ℕ). Enters n c.next_line.new.self c.enter.new.self) c.turns_of-turns.ensures c.in_ok-enter.ensures

-- and the cursor is as it was then
cursor : (c : In_ok-stage) → c.run.new.self.cursor ≡ c.enter.new.self
cursor c = ap (λ (way : Way). way.cursor) c.run.ensures.same

abbrev Entered : In_ok-stage → Type 0
Entered c = Enters (turns_of (step_of c.in-Some.statement.now) (local_in c.loop-statement.self)) c.next_line.new.self c.enter.new.self

-- what the statement came to, and what is left
goes : (c : In_ok-stage) → Entered c
    → let app = c.args.self.now.app.now in let given = c.args.self.now.given.now in
    stage_or c.in_ok-stage.field-0 (setting app given) (local_in c.run.new.self) (going app given c.run.new.self.cursor)
    ≡ going app given c.args.self.now.cursor (local_in c.args.self.now)
goes c entered =
    let app = c.args.self.now.app.now in
    let given = c.args.self.now.given.now in
    let step = step_of c.in-Some.statement.now in
    let old = local_in c.loop-statement.self in
    let new = local_in c.run.new.self in
    let comes = c.in_ok-stage.field-0 in
    ap (λ (at : Cursor). stage_or comes (setting app given) new (going app given at)) (cursor c)
    ∙ passed_goes app given step c.loop-statement.self.cursor c.next_line.new.self c.enter.new.self old (steps_of c.body_of-body.result.now)
    c.body_of-body.ensures c.in-Some.ensures.0 c.in-Some.ensures.1 entered new comes
    (subst (λ (s : Setting). (go : Go) → stage_or comes s new (with_block step s old go) ≡ step_tree step s old go)
    (ap setting_in c.loop-statement.invariant.same) c.in_ok-stage.ensures.goes)
    ∙ c.loop-statement.invariant.goes

spans : (c : In_ok-stage) → Entered c → HasSpans c.args.self.now.app.now c.args.self.now.given.now.role c.run.new.self.cursor c.run.new.self.changes.span
spans c entered =
    let app = c.args.self.now.app.now in
    let given = c.args.self.now.given.now in
    subst (λ (at : Cursor). HasSpans app given.role at c.run.new.self.changes.span) (sym (cursor c))
    (passed_spans app given (step_of c.in-Some.statement.now) c.loop-statement.self.cursor c.next_line.new.self c.enter.new.self (local_in c.loop-statement.self)
    (steps_of c.body_of-body.result.now) c.body_of-body.ensures c.in-Some.ensures.0 c.in-Some.ensures.1 entered
    c.run.new.self.changes.span c.in_ok-stage.ensures.spans c.loop-statement.invariant.spans)

pub returns-in-Some-3-clause-goes : goal.returns-in-Some-3-clause-goes
returns-in-Some-3-clause-goes c =
    let app = c.args.self.now.app.now in
    let given = c.args.self.now.given.now in
    ap (λ (comes : Option Stage). stage_or comes (setting app given) (local_in c.run.new.self) (going app given c.run.new.self.cursor)) (sym c.in-Some-3.is)
    ∙ goes (goal.at.returns-in-Some-3-clause-goes c).In_ok-stage (enters (goal.at.returns-in-Some-3-clause-goes c).In_ok-enter)

pub returns-in-Some-3-clause-spans : goal.returns-in-Some-3-clause-spans
returns-in-Some-3-clause-spans c =
    spans (goal.at.returns-in-Some-3-clause-spans c).In_ok-stage (enters (goal.at.returns-in-Some-3-clause-spans c).In_ok-enter)

pub loop-statement-smaller : goal.loop-statement-smaller
loop-statement-smaller c =
    let app = c.args.self.now.app.now in
    let given = c.args.self.now.given.now in
    let at = (goal.at.loop-statement-smaller c).In_ok-stage in
    subst (λ (n : Cursor). weight (left_to_run app given.role n) < weight (left_to_run app given.role c.loop-statement.self.cursor)) (sym (cursor at))
    (passed_lighter app given (step_of c.in-Some.statement.now) c.loop-statement.self.cursor c.next_line.new.self c.enter.new.self (local_in c.loop-statement.self)
    (steps_of c.body_of-body.result.now) c.body_of-body.ensures c.in-Some.ensures.0 c.in-Some.ensures.1 (enters (goal.at.loop-statement-smaller c).In_ok-enter))

pub loop-statement-preserved : goal.loop-statement-preserved
loop-statement-preserved c =
    let app = c.args.self.now.app.now in
    let given = c.args.self.now.given.now in
    let at = (goal.at.loop-statement-preserved c).In_ok-stage in
    let entered = enters (goal.at.loop-statement-preserved c).In_ok-enter in
    let step = step_of c.in-Some.statement.now in
    let old = c.loop-statement.self in
    let first = c.args.self.now in
    let new = c.run.new.self in
    record {
      same =
          c.run.ensures.same
          ∙ ap (λ (way : Way). record way { cursor = c.enter.new.self; changes = new.changes }) c.loop-statement.invariant.same
          ∙ ap (λ (n : Cursor). record first { cursor = n; changes = new.changes }) (sym (cursor at));
      goes =
          ap (λ (comes : Option Stage). stage_or comes (setting app given) (local_in new) (going app given new.cursor)) (sym c.in-None.is)
          ∙ goes at entered;
      spans = spans at entered;
      none = λ none.
          none_still old new c.loop-statement.none_here (ap setting_in c.run.ensures.same) c.loop-statement.invariant.none step
          (subst (λ (comes : Option Stage). ComesTo step old new comes) c.in-None.is c.in_ok-stage.ensures.goes)
          (sym c.finds_none-none_here.ensures ∙ none);
    }

-- ---- a statement that does nothing beside its block

pub loop-statement-smaller-then-is_idle : goal.loop-statement-smaller-then-is_idle
loop-statement-smaller-then-is_idle c =
    passed_lighter c.args.self.now.app.now c.args.self.now.given.now (step_of c.in-Some.statement.now) c.loop-statement.self.cursor c.next_line.new.self
    c.enter.new.self (local_in c.loop-statement.self) (steps_of c.body_of-body.result.now) c.body_of-body.ensures c.in-Some.ensures.0 c.in-Some.ensures.1
    (enters (goal.at.loop-statement-smaller-then-is_idle c).In_ok-enter)

pub loop-statement-preserved-then-is_idle : goal.loop-statement-preserved-then-is_idle
loop-statement-preserved-then-is_idle c =
    let app = c.args.self.now.app.now in
    let given = c.args.self.now.given.now in
    let old = c.loop-statement.self in
    let step = step_of c.in-Some.statement.now in
    let entered = enters (goal.at.loop-statement-preserved-then-is_idle c).In_ok-enter in
    let body = steps_of c.body_of-body.result.now in
    record {
      same = ap (λ (way : Way). record way { cursor = c.enter.new.self }) c.loop-statement.invariant.same;
      goes =
          passed_goes app given step old.cursor c.next_line.new.self c.enter.new.self (local_in old) body c.body_of-body.ensures c.in-Some.ensures.0
          c.in-Some.ensures.1 entered (local_in old) None
          (subst (λ (s : Setting). (go : Go) → with_block step s (local_in old) go (local_in old) ≡ step_tree step s (local_in old) go)
          (ap setting_in c.loop-statement.invariant.same)
          (comes_to_none step old c.loop-statement.none_here (sym c.is_idle.ensures ∙ c.if-is_idle.true) c.loop-statement.invariant.none))
          ∙ c.loop-statement.invariant.goes;
      spans =
          passed_spans app given step old.cursor c.next_line.new.self c.enter.new.self (local_in old) body c.body_of-body.ensures c.in-Some.ensures.0
          c.in-Some.ensures.1 entered old.changes.span (omega arith) c.loop-statement.invariant.spans;
      none = c.loop-statement.invariant.none;
    }
