use Rattle.std.proofs.Common.{◌≡◌, drop}
use Rattle.anti_proc.specs.Local.{held_in}
use Rattle.anti_proc.proofs.variables.held_in.Given as goal

-- none of those before has the name
abbrev pub invariant-loop-variable : goal.invariant-loop-variable
invariant-loop-variable l = held_in (drop l.variable-index l.variables) l.name ≡ held_in l.variables l.name
