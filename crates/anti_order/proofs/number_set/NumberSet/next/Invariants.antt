use Rattle.std.proofs.Common.{◌≡◌, ℕ, ◌-◌, ◌<◌, ◌≤◌, not}
use Rattle.anti_order.specs.inner.NumberSets.{has, room}
use Rattle.anti_order.proofs.number_set.NumberSet.next.Given as goal

abbrev pub invariant-loop-word : goal.invariant-loop-word
invariant-loop-word l = record {
  behind : l.from ≤ l.at;
  within : l.at ≤ room l.self;
  passed : (n : ℕ) → l.from ≤ n → n < l.at → has l.self n ≡ not l.inside;
}

abbrev pub decreases-loop-word : goal.decreases-loop-word
decreases-loop-word l = room l.self - l.at
