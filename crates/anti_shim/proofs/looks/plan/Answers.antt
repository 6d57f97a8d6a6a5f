use Rattle.std.proofs.Common.{arith, ◌≡◌, length, get_or, false, ◌==◌, rules}
use Rattle.std.proofs.lemmas.Grind.{common_steps}
use Rattle.anti_ids.specs.ListCalls.{pushed}
use Rattle.anti_shim.proofs.Planned.{planned_more, planned_none}
use Rattle.anti_shim.proofs.looks.plan.Goals as goal

pub loop-store-preserved : goal.loop-store-preserved
loop-store-preserved c =
    let some : (length c.in_ok-ids.ids == 0) ≡ false = search rules in
    let added : c.add_look.new.looks ≡ pushed c.loop-store.looks (record { store = get_or c.args.here.now c.loop-store.store-index 0; ids = c.in_ok-ids.ids }) = search rules in
    let more = planned_more c.args.here.now c.args.lineage.now c.loop-store.store-index 0 c.in_ok-ids.ids c.loop-store.looks c.add_look.new.looks (search rules) c.in_ok-ids.ensures.ok some c.loop-store.invariant.looks c.loop-store.invariant.room added in
    record { looks = more.0; room = more.1 }

pub returns-then-is_empty : goal.returns-then-is_empty
returns-then-is_empty c =
    let none = planned_none c.args.here.now c.args.lineage.now (search rules) in
    grind (arith, common_steps)

pub returns : goal.returns
returns c = grind (arith, common_steps)

pub loop-store-preserved-then-is_empty-2 : goal.loop-store-preserved-then-is_empty-2
loop-store-preserved-then-is_empty-2 c = grind (arith, common_steps)
