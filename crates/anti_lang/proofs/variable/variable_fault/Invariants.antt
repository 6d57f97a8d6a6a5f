use Rattle.std.proofs.Common.{◌≡◌, ◌+◌, take, drop}
use Rattle.anti_lang.specs.Stated.{all_stated}
use Rattle.anti_lang.specs.Faults.{first_wrong, has_wrong_variable, known_below, variable_fault}
use Rattle.anti_lang.specs.inner.Known.{known_after}
use Rattle.anti_lang.proofs.variable.variable_fault.Given as goal

abbrev pub invariant-loop-i : goal.invariant-loop-i
invariant-loop-i l =
    first_wrong has_wrong_variable known_below (known_after (all_stated (take l.i l.lines))) (l.i + 1) (all_stated (drop l.i l.lines))
    ≡ variable_fault (all_stated l.lines)
