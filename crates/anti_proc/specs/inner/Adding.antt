-- Ids that are added to a lineage.
use Rattle.std.specs.Prelude.{◌≡◌, ◌<◌, List, Result, Ok, Err, length}
use Rattle.anti_ids.specs.Ids.{with_ids}
use Rattle.anti_ids.specs.declared.id.WriteId.{WriteId}
use Rattle.anti_ids.specs.declared.lineage.LineageRefused.{LineageRefused}
use Rattle.anti_ids.specs.declared.lineage.LineageRefused.TheVariants.{Full, NoMemory}
use Rattle.anti_ids.specs.declared.limits.TheConstants.{MOST_IDS}

-- They were added, or they are too many; want of memory is free.
abbrev pub Adds : {X : Type 0} → List WriteId → List WriteId → List WriteId → Result X LineageRefused → Type 0
Adds ids old new (Ok _) = new ≡ with_ids ids old
Adds ids old new (Err Full) = MOST_IDS < length (with_ids ids old)
Adds ids old new (Err NoMemory) = Unit {0}
