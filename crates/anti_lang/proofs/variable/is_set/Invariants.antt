use Rattle.std.proofs.Common.{◌≡◌, ◌≤◌, length}
use Rattle.std.specs.Prelude.{is_some}
use Rattle.anti_lang.specs.Stated.{all_stated}
use Rattle.anti_lang.specs.Faults.{held_in}
use Rattle.anti_lang.specs.inner.Known.{all_after}
use Rattle.anti_lang.proofs.variable.is_set.Given as goal

abbrev pub invariant-loop-above : goal.invariant-loop-above
invariant-loop-above l =
    (length l.above ≤ length l.lines)
    × (is_some (held_in (all_after (all_stated l.above)) l.name) ≡ is_some (held_in (all_after (all_stated l.lines)) l.name))

abbrev pub decreases-loop-above : goal.decreases-loop-above
decreases-loop-above l = length l.above
