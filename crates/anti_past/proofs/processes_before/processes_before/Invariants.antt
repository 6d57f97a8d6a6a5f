use Rattle.std.proofs.Common.{take}
use Rattle.anti_trace.specs.inner.Living.{AreProcessesOf}
use Rattle.anti_past.proofs.processes_before.processes_before.Given as goal

-- the processes went past the entries so far
abbrev pub invariant-loop-at : goal.invariant-loop-at
invariant-loop-at l = AreProcessesOf l.app l.processes.at.items (take l.at l.trace)
