use Rattle.std.proofs.Common.{◌≤◌, vec_capacity}
use Rattle.anti_trace.specs.inner.Living.{NoneBorn}
use Rattle.anti_trace.proofs.processes.Processes.new.Given as goal

-- the lists so far, and room for all
abbrev pub invariant-loop : goal.invariant-loop
invariant-loop l = NoneBorn l.counter l.at.items × (l.count ≤ vec_capacity l.at)
