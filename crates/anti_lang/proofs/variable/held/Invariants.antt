use Rattle.std.proofs.Common.{◌≡◌, ◌≤◌, ◌+◌, length}
use Rattle.anti_lang.specs.Stated.{all_stated}
use Rattle.anti_lang.proofs.VariableLemmas.{held_above}
use Rattle.anti_lang.proofs.variable.held.Given as goal

abbrev pub invariant-loop-above : goal.invariant-loop-above
invariant-loop-above l = record {
  few : l.ended + length l.above ≤ length l.lines;
  left : held_above l.ended (all_stated l.above) l.name ≡ held_above 0 (all_stated l.lines) l.name;
}

abbrev pub decreases-loop-above : goal.decreases-loop-above
decreases-loop-above l = length l.above
