use Rattle.std.proofs.Common.{arith}
use Rattle.anti_ids.proofs.IdLemmas.{length-with_ids-le}
use Rattle.test_libraries.proofs.ids.united.Goals as goal

pub transfer-answer-requires : goal.transfer-answer-requires
transfer-answer-requires c = omega (arith, length-with_ids-le c.args.other.now c.in-Ok.roomy.ids, c.in-Ok.ensures.spare, c.len.ensures.len)
