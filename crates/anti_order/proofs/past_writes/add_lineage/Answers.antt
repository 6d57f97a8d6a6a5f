use Rattle.std.proofs.Common.{◌≡◌, List, [], ◌∷◌, sym, subst}
use Rattle.anti_ids.specs.declared.id.WriteId.{WriteId}
use Rattle.anti_order.specs.inner.PastWrites.{AddsNumbers}
use Rattle.anti_order.proofs.InPast.{adds_both, adds_none}
use Rattle.anti_order.proofs.past_writes.add_lineage.Goals as goal

pub loop-id-preserved : goal.loop-id-preserved
loop-id-preserved c = λ all rest.
    let writes = c.args.writes.now in
    let id = c.in-Some.id.now in
    let cut : c.loop-id.id-iterator ≡ id ∷ c.next.new.self = c.in-Some.ensures.steps in
    c.loop-id.invariant all
    (subst (λ (ids : List WriteId). AddsNumbers writes ids c.loop-id.numbers all) (sym cut)
    (adds_both writes (id ∷ []) c.next.new.self c.loop-id.numbers c.add_write.new.numbers all c.add_write.ensures rest))

pub returns : goal.returns
returns c =
    c.loop-id.invariant c.loop-id.numbers
    (subst (λ (ids : List WriteId). AddsNumbers c.args.writes.now ids c.loop-id.numbers c.loop-id.numbers) (sym c.in-None.ensures.steps.0)
    (adds_none c.args.writes.now c.loop-id.numbers))
