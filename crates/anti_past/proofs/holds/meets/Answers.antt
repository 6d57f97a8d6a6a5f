use Rattle.std.proofs.Common.{◌≡◌, sym, ap, ◌∙◌, rules}
use Rattle.anti_ids.specs.Ids.{has_id}
use Rattle.anti_ids.specs.declared.id.WriteId.{WriteId}
use Rattle.anti_past.proofs.Held.{rear_has, rear_met}
use Rattle.anti_past.proofs.holds.meets.Goals as goal

pub loop-met-preserved : goal.loop-met-preserved
loop-met-preserved c = rear_met c.args.lineage.now c.loop-met.rest c.next.new.self c.in-Some.met.now c.loop-met.invariant c.in-Some.ensures.steps

pub returns-then-goes_behind-clause-rear : goal.returns-then-goes_behind-clause-rear
returns-then-goes_behind-clause-rear c = rear_met c.args.lineage.now c.loop-met.rest c.next.new.self c.in-Some.met.now c.loop-met.invariant c.in-Some.ensures.steps

pub returns-then-eq-clause-there : goal.returns-then-eq-clause-there
returns-then-eq-clause-there c = λ _.
    let met = rear_has c.args.lineage.now c.loop-met.rest c.next.new.self c.in-Some.met.now c.loop-met.invariant c.in-Some.ensures.steps in
    let equal = sym c.eq.ensures ∙ c.if-eq.true in let same : c.in-Some.met.now ≡ c.args.id.now = search rules in
    ap (λ (w : WriteId). has_id w c.args.lineage.now) (sym same) ∙ met

pub returns-then-eq-clause-rear : goal.returns-then-eq-clause-rear
returns-then-eq-clause-rear c = rear_met c.args.lineage.now c.loop-met.rest c.next.new.self c.in-Some.met.now c.loop-met.invariant c.in-Some.ensures.steps
