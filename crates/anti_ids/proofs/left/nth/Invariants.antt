use Rattle.std.proofs.Common.{◌≡◌, ◌<◌, length}
use Rattle.std.specs.Prelude.{slice_get}
use Rattle.anti_ids.proofs.left.nth.Given as goal

-- so many ids are still before it
abbrev pub invariant-loop-id : goal.invariant-loop-id
invariant-loop-id l = record {
  within : l.before < length l.id-iterator;
  is : slice_get l.id-iterator l.before ≡ slice_get l.initial.id-iterator l.initial.before;
}
