use Rattle.std.proofs.Common.{◌≡◌, ◌+◌, ◌-◌, ◌*◌, ◌/◌, ◌≤◌}
use Rattle.anti_ids.specs.declared.limits.TheConstants.{MOST_IDS}
use Rattle.anti_ids.specs.inner.Left.{gone_in}
use Rattle.anti_ids.proofs.marks.count_gone.Given as goal

-- those so far, and those that the words behind tell of
abbrev pub invariant-loop-number : goal.invariant-loop-number
invariant-loop-number l = record {
  sum : l.count + gone_in l.words (l.number * 64) (l.len - l.number * 64) ≡ gone_in l.words 0 l.len;
  few : l.count ≤ l.number * 64;
  among : l.number ≤ MOST_IDS / 64;
}

abbrev pub decreases-loop-number : goal.decreases-loop-number
decreases-loop-number l = MOST_IDS / 64 - l.number
