use Rattle.std.proofs.Common.{rules, arith}
use Rattle.anti_lang.proofs.block_faults.is_wrong.Goals as goal

pub returns-then-cannot_open : goal.returns-then-cannot_open
returns-then-cannot_open c = grind arith

pub returns-in-IfAbsent : goal.returns-in-IfAbsent
returns-in-IfAbsent c = grind arith

pub returns-in-End : goal.returns-in-End
returns-in-End c = grind arith

pub returns-else-cannot_open : goal.returns-else-cannot_open
returns-else-cannot_open c = search rules
