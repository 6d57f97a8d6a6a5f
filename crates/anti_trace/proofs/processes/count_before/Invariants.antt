use Rattle.std.proofs.Common.{ℕ, ◌-◌, ◌<◌, ◌≤◌, length, get_or}
use Rattle.anti_proc.specs.declared.process.Process.{Process}
use Rattle.anti_proc.specs.inner.Standing.{birth_of}
use Rattle.anti_trace.proofs.processes.count_before.Given as goal

-- those before the part that is left have smaller places, and those behind it have not
abbrev pub invariant-loop-low : goal.invariant-loop-low
invariant-loop-low l = record {
  order : l.low ≤ l.high;
  within : l.high ≤ length l.processes;
  below : (i : ℕ) (d : Process) → i < l.low → (birth_of (get_or l.processes i d)).place < l.place;
  above : (i : ℕ) (d : Process) → l.high ≤ i → i < length l.processes → l.place ≤ (birth_of (get_or l.processes i d)).place;
}

abbrev pub decreases-loop-low : goal.decreases-loop-low
decreases-loop-low l = l.high - l.low
