use Rattle.std.proofs.Common.{◌≡◌, ◌+◌, drop}
use Rattle.anti_proc.specs.inner.Variables.{place_among}
use Rattle.anti_proc.proofs.variables.place_among.Given as goal

-- none of those before has the name
abbrev pub invariant-loop-place : goal.invariant-loop-place
invariant-loop-place l = place_among l.variables l.name ≡ l.place + place_among (drop l.place l.variables) l.name
