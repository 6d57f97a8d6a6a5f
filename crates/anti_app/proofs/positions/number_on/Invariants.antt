use Rattle.std.proofs.Common.{◌≡◌}
use Rattle.std.specs.Prelude.{slice_get}
use Rattle.anti_app.specs.Subs.{number_on}
use Rattle.anti_app.proofs.Numbered.{from}
use Rattle.anti_app.proofs.positions.number_on.Given as goal

-- it is the one at the position that is left among those from here on
abbrev pub invariant-loop-number : goal.invariant-loop-number
invariant-loop-number l = number_on l.app l.store l.position ≡ slice_get (from l.app l.store l.number) l.left
