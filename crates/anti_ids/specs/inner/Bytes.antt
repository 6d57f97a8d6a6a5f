-- How bytes stand in memory of their own, or as the front of a text that others share.
use Rattle.std.specs.Prelude.{ℕ, ◌≤◌, length, take}
use Rattle.anti_ids.specs.List.{Listed, plain}
use Rattle.anti_ids.specs.declared.bytes.ByteMemory.{ByteMemory}
use Rattle.anti_ids.specs.declared.bytes.ByteMemory.TheVariants.{Own, Front}

-- the list that is held; the front of a text has no room
abbrev pub listed_of : ByteMemory → Listed ℕ
listed_of (Own list) = list
listed_of (Front text len) = plain (take len text)

-- a front is no longer than its text
abbrev pub FrontFits : ByteMemory → Type 0
FrontFits (Own list) = Unit {0}
FrontFits (Front text len) = len ≤ length text
