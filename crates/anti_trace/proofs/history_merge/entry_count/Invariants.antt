use Rattle.std.proofs.Common.{◌≡◌, length, take}
use Rattle.anti_trace.specs.Histories.{all_entries}
use Rattle.anti_trace.proofs.history_merge.entry_count.Given as goal

-- the entries of the histories that were looked at are counted
abbrev pub invariant-loop-history : goal.invariant-loop-history
invariant-loop-history l = l.count ≡ length (all_entries (take l.history-index l.histories))
