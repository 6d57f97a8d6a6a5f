use Rattle.std.proofs.Common.{sym}
use Rattle.anti_ids.proofs.WalkLemmas.{below_so}
use Rattle.anti_ids.proofs.walk.are_below.Goals as goal

pub returns-in-Some : goal.returns-in-Some
returns-in-Some c = below_so c.args.bound c.in-Some.last.now c.args.ids.now c.requires (sym c.in-Some.ensures.value)
