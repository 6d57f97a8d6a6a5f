use Rattle.std.proofs.Common.{arith}
use Rattle.anti_ids.proofs.GoneLemmas.{back_now, others_beside}
use Rattle.anti_ids.proofs.marks.unmark.Goals as goal

pub returns-clause-back : goal.returns-clause-back
returns-clause-back c = back_now c.args.words.now c.args.at (omega (arith, c.requires))

pub returns-clause-others : goal.returns-clause-others
returns-clause-others c = others_beside c.args.words.now c.args.at (omega (arith, c.requires))
