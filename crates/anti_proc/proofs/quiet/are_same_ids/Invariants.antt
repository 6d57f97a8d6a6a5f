use Rattle.std.proofs.Common.{◌≡◌, length}
use Rattle.anti_proc.proofs.quiet.are_same_ids.Given as goal

-- as many are to come of both, and where those are the same, all are
abbrev pub invariant-loop-id : goal.invariant-loop-id
invariant-loop-id l = record {
  count : length l.id-iterator ≡ length l.others;
  same : l.id-iterator ≡ l.others → l.one ≡ l.other;
}
