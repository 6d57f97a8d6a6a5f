use Rattle.std.proofs.Common.{◌≡◌}
use Rattle.anti_past.specs.inner.Found.{found_by}
use Rattle.anti_past.specs.inner.Looking.{all_pass}
use Rattle.anti_past.proofs.look_passes.each_passes.Given as goal

-- what is left decides
abbrev pub invariant-loop-id : goal.invariant-loop-id
invariant-loop-id l = all_pass l.app l.region (found_by l.found) l.id-iterator ≡ all_pass l.app l.region (found_by l.found) l.ids
