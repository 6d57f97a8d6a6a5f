use Rattle.std.proofs.Common.{◌≡◌, ◌≤◌, length, take}
use Rattle.anti_ids.specs.inner.Parts.{joined}
use Rattle.anti_ids.proofs.id_parts.part_at.Given as goal

-- how far it is from the first part
abbrev pub invariant-loop-number : goal.invariant-loop-number
invariant-loop-number l = record {
  among : l.number ≤ length l.parts;
  start : length (joined (take l.number l.parts)) ≡ l.start;
  inside : l.at ≤ l.start;
}

abbrev pub decreases-loop-number : goal.decreases-loop-number
decreases-loop-number l = l.number
