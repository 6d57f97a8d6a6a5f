use Rattle.std.proofs.Common.{sym}
use Rattle.anti_kind.proofs.Histories.{last_of_legal}
use Rattle.anti_kind.proofs.recorded.stamp_of_last.Goals as goal

pub returns-in-len1-up : goal.returns-in-len1-up
returns-in-len1-up c =
    sym (last_of_legal c.requires.0 c.args.entries.now c.last-item.result c.in-len1-up.len_at_least c.last-item.is c.requires.1)
