use Rattle.std.proofs.Common.{◌≤◌, List, length, arith}
use Rattle.anti_ids.specs.Ids.{with_id, with_ids}
use Rattle.anti_ids.specs.declared.id.WriteId.{WriteId}
use Rattle.anti_ids.specs.declared.limits.TheConstants.{MOST_IDS}
use Rattle.anti_ids.proofs.IdLemmas.{le-length-with_ids}
use Rattle.anti_shim.proofs.store_shim.add_written.Goals as goal

-- the id alone is no more than the union
pub append-requires-clause-room : goal.append-requires-clause-room
append-requires-clause-room c =
    let over : List WriteId = c.args.over.now in let with_one : List WriteId = with_id c.args.id.now c.args.ids.now.ids in
    let few : length (with_ids over with_one) ≤ MOST_IDS = c.requires.few in
    omega (arith, few, c.requires.room, le-length-with_ids over with_one)

pub unreachable-requires : goal.unreachable-requires
unreachable-requires c =
    let over : List WriteId = c.args.over.now in let with_one : List WriteId = with_id c.args.id.now c.args.ids.now.ids in
    let few : length (with_ids over with_one) ≤ MOST_IDS = c.requires.few in
    omega (arith, few, c.in_default.ensures.full, le-length-with_ids over with_one)
