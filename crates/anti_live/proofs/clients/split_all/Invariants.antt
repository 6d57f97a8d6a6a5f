use Rattle.std.proofs.Common.{◌≡◌, ◌≤◌, length, vec_capacity}
use Rattle.anti_live.specs.inner.Splitting.{AreSplitting}
use Rattle.anti_live.proofs.clients.split_all.Given as goal

-- a pass was split off each of those before this place, and there is room for the others
abbrev pub invariant-loop-at : goal.invariant-loop-at
invariant-loop-at l = AreSplitting l.fn.passes.items l.passes.items l.made.items l.at × (length l.made.items ≡ l.at) × (length l.shareds ≤ vec_capacity l.made)
