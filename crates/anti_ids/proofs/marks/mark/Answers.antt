use Rattle.std.proofs.Common.{arith}
use Rattle.anti_ids.proofs.GoneLemmas.{gone_now, others_as_before}
use Rattle.anti_ids.proofs.marks.mark.Goals as goal

pub returns-clause-gone : goal.returns-clause-gone
returns-clause-gone c = gone_now c.args.words.now c.args.at (omega (arith, c.requires))

pub returns-clause-others : goal.returns-clause-others
returns-clause-others c = others_as_before c.args.words.now c.args.at (omega (arith, c.requires))
