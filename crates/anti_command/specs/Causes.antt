-- Why each fault comes.
use Rattle.std.specs.Prelude.{ℕ, ◌≡◌, ◌<◌, ◌≤◌, List, length, Option, None, IfSome, Err, true}
use Rattle.anti_edge.specs.Outside.{TakesAtMost}
use Rattle.anti_app.specs.declared.app.AppFault.{AppFault}
use Rattle.anti_app.specs.declared.app.AppFault.TheVariants as app
use Rattle.anti_command.specs.Commands.{reads_source}
use Rattle.anti_command.specs.Runs.{application_of}
use Rattle.anti_command.specs.declared.command.Command.{Command}
use Rattle.anti_command.specs.declared.fault.TopFault.{TopFault}
use Rattle.anti_command.specs.declared.fault.TopFault.TheVariants.{Usage, ReadFault, WriteFault, TooLong, NotToml, BadApp, BadChoice, NoMemory}
use Rattle.anti_ids.specs.declared.limits.TheConstants.{LONGEST_DOCUMENT}

-- the bytes are more than a document has
abbrev pub IsTooLong : List ℕ → Type 0
IsTooLong bytes = LONGEST_DOCUMENT < length bytes

-- the bytes are not too many, and state no application for this reason
abbrev pub IsRefused : AppFault → List ℕ → Type 0
IsRefused fault bytes = (length bytes ≤ LONGEST_DOCUMENT) × (application_of bytes ≡ Err fault)

-- the source is to be read, and this is true of the bytes that it tells
abbrev pub OfSource : Option Command → Option (List ℕ) → (List ℕ → Type 0) → Type 0
OfSource asked left IsSo = (reads_source asked ≡ true) × IfSome left IsSo

-- A read failed: a count of faults rose in this call, and not more bytes were taken before than a document has.
abbrev pub FailedToRead : Option Command → Option (List ℕ) → Option (List ℕ) → Type 0 → Type 0
FailedToRead asked left rest read = (reads_source asked ≡ true) × read × TakesAtMost LONGEST_DOCUMENT left rest

-- The cause of a fault: what is asked, what the source has and what is left of it, or that a count of faults rose in this call.
-- Want of memory has none.
abbrev pub HasCause : Option Command → Option (List ℕ) → Option (List ℕ) → Type 0 → Type 0 → TopFault → Type 0
HasCause asked left rest read wrote Usage = asked ≡ None
HasCause asked left rest read wrote ReadFault = FailedToRead asked left rest read
HasCause asked left rest read wrote WriteFault = wrote
HasCause asked left rest read wrote TooLong = OfSource asked left IsTooLong
HasCause asked left rest read wrote NotToml = OfSource asked left (IsRefused app.NotToml)
HasCause asked left rest read wrote (BadApp rule place) = OfSource asked left (IsRefused (app.Bad rule place))
HasCause asked left rest read wrote (BadChoice number) = OfSource asked left (IsRefused (app.BadChoice number))
HasCause asked left rest read wrote NoMemory = Unit {0}
