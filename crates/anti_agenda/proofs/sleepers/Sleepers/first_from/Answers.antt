use Rattle.std.proofs.Common.{◌≡◌, None, Some, sym, subst, ◌∙◌, false}
use Rattle.std.specs.BTreeSet.{BTreeSet}
use Rattle.anti_agenda.specs.declared.offer.Sleeper.{Sleeper}
use Rattle.anti_agenda.specs.inner.Waking.{IsOneWaiting, brings}
use Rattle.anti_agenda.proofs.Finding.{none_in_range, head_sleeps, head_decides}
use Rattle.anti_agenda.proofs.sleepers.Sleepers.first_from.Goals as goal
use Rattle.anti_agenda.proofs.sleepers.Sleepers.first_from.Goals.{else-sleeper-object-via-then-sleeper-object+else-brings, else-sleeper-object-via-else-sleeper-object}

pub returns-in_err-sleeper : goal.returns-in_err-sleeper
returns-in_err-sleeper c =
    subst (IsOneWaiting c.args.object c.args.brought c.args.self.now) (sym c.from_residual.ensures)
    (subst (λ (s : BTreeSet Sleeper). IsOneWaiting c.args.object c.args.brought s None) c.self.view_is
    (none_in_range c.self.inside.set c.args.object c.args.brought c.args.first c.requires c.range.result
    (c.range.ensures.in_range tt) c.in_err-sleeper.ensures.steps.0))

pub returns-then-brings : goal.returns-then-brings
returns-then-brings c =
    subst (λ (s : BTreeSet Sleeper). IsOneWaiting c.args.object c.args.brought s (Some c.in_ok-sleeper.field-0.now)) c.self.view_is (
      head_sleeps c.self.inside.set c.args.object c.args.brought c.args.first c.requires c.range.result
          (c.range.ensures.in_range tt) c.in_ok-sleeper.field-0.now c.next.new.self c.in_ok-sleeper.ensures.steps,
      c.if-sleeper-object.true,
      sym c.if-brings.ensures,
    )

pub returns-else-sleeper-object : goal.returns-else-sleeper-object
returns-else-sleeper-object c =
    subst (λ (s : BTreeSet Sleeper). IsOneWaiting c.args.object c.args.brought s None) c.self.view_is
    (head_decides c.self.inside.set c.args.object c.args.brought c.args.first c.requires c.range.result
    (c.range.ensures.in_range tt) c.in_ok-sleeper.field-0.now c.next.new.self c.in_ok-sleeper.ensures.steps
    (λ same is.
    elim c.else-sleeper-object.branch [
      | else-sleeper-object-via-then-sleeper-object+else-brings w ↦
          let other : brings c.args.brought c.in_ok-sleeper.field-0.now.awaited ≡ false = sym w.brings.ensures ∙ w.if-brings.false in
          absurd (cc)
      | else-sleeper-object-via-else-sleeper-object w ↦ w.if-sleeper-object.false same
    ]))
