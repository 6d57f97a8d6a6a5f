use Rattle.std.proofs.Common.{◌≤◌, vec_capacity}
use Rattle.anti_trace.specs.inner.Trails.{IsBare}
use Rattle.anti_trace.proofs.trail.Trail.new.Given as goal

-- the objects so far, and room for all
abbrev pub invariant-loop : goal.invariant-loop
invariant-loop l = IsBare l.counter l.at.items × (l.count ≤ vec_capacity l.at)
