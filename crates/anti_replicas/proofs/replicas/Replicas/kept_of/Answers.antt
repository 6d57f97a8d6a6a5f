use Rattle.std.proofs.Common.{sym, ◌∙◌}
use Rattle.anti_replicas.proofs.Reading.{not_written, written_at, its_number}
use Rattle.anti_replicas.proofs.replicas.Replicas.kept_of.Goals as goal

pub returns-then-eq-clause-some : goal.returns-then-eq-clause-some
returns-then-eq-clause-some c = λ s h at.
    let m = c.args.self.now in
    let on = sym c.eq.ensures ∙ c.if-eq.true in (
      sym (written_at m s h at c.args.id.now c.in-Some.kept.now c.in-Some.ensures.first c.in-Some.ensures.kept) ∙ on,
      its_number m s h at c.args.id.now c.in-Some.kept.now c.in-Some.ensures.first c.in-Some.ensures.kept on,
    )

pub returns-else-eq-clause-none : goal.returns-else-eq-clause-none
returns-else-eq-clause-none c = λ s h at.
    sym (written_at c.args.self.now s h at c.args.id.now c.in-Some.kept.now c.in-Some.ensures.first c.in-Some.ensures.kept) ∙ sym c.eq.ensures ∙ c.if-eq.false

pub returns-in-None-clause-none : goal.returns-in-None-clause-none
returns-in-None-clause-none c = λ s h at. sym (not_written c.args.self.now s h at c.args.id.now c.in-None.ensures.none)
