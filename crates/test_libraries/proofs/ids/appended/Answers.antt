use Rattle.std.proofs.Common.{arith}
use Rattle.anti_ids.proofs.IdLemmas.{length-with_id-le}
use Rattle.test_libraries.proofs.ids.appended.Goals as goal

pub append-answer-requires-clause-room : goal.append-answer-requires-clause-room
append-answer-requires-clause-room c = omega (arith, length-with_id-le c.args.id.now c.in-Ok.roomy.ids, c.in-Ok.ensures.spare)
