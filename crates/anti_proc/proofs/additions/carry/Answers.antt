use Rattle.std.proofs.Common.{rules}
use Rattle.anti_proc.proofs.additions.carry.Goals as goal

pub returns : goal.returns
returns c = c.next_with.ensures c.args.more.now c.args.carried.now (search rules)
