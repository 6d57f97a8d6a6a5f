use Rattle.std.proofs.Common.{arith}
use Rattle.anti_ids.proofs.IdLemmas.{length-with_id-le}
use Rattle.anti_shim.proofs.store_shim.append_id.Goals as goal

pub append-added-requires-clause-room : goal.append-added-requires-clause-room
append-added-requires-clause-room c = omega (arith, c.requires.room, length-with_id-le c.args.id.now c.args.carried.ids)
