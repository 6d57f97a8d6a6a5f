use Rattle.std.proofs.Common.{◌≡◌, ℕ, ◌-◌, ◌<◌, ◌≤◌, List, true, length}
use Rattle.anti_trace.specs.declared.mark.Mark.{Mark}
use Rattle.anti_order.specs.inner.NumberSets.{has, room}
use Rattle.anti_order.proofs.Kept.{AreAdded}
use Rattle.anti_order.proofs.order_listing.add_runs.Given as goal

-- the runs before this number were added
abbrev pub invariant-loop-found : goal.invariant-loop-found
invariant-loop-found l = record {
  runs : (writes : List Mark) (low : (n : ℕ) → has l.numbers n ≡ true → n < length writes)
      → AreAdded l.numbers writes low l.fn.pieces.items l.pieces.items l.from;
  within : l.from ≤ room l.numbers;
}

abbrev pub decreases-loop-found : goal.decreases-loop-found
decreases-loop-found l = room l.numbers - l.from
