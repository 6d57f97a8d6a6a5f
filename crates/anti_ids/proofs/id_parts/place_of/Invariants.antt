use Rattle.std.proofs.Common.{◌≡◌, ◌≤◌, length, take, drop}
use Rattle.std.specs.declared.cmp.Ordering.TheVariants.{Greater}
use Rattle.anti_ids.specs.Each.{Each}
use Rattle.anti_ids.specs.Ids.{id_cmp}
use Rattle.anti_ids.specs.inner.Parts.{joined}
use Rattle.anti_ids.proofs.id_parts.place_of.Given as goal

-- how far it is from the first part
abbrev pub invariant-loop-number : goal.invariant-loop-number
invariant-loop-number l = record {
  among : l.number ≤ length l.parts;
  start : length (joined (take l.number l.parts)) ≡ l.start;
  high : Each (λ j. id_cmp j l.id ≡ Greater) (joined (drop l.number l.parts));
}

abbrev pub decreases-loop-number : goal.decreases-loop-number
decreases-loop-number l = l.number
