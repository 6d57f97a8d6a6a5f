-- The status of a fault, and with which the text is written.
use Rattle.std.specs.Prelude.{ℕ, Option, None, Some, Bool, true, false}
use Rattle.anti_command.specs.declared.fault.TopFault.{TopFault}
use Rattle.anti_command.specs.declared.fault.TopFault.TheVariants.{Usage, ReadFault, WriteFault, TooLong, NotToml, BadApp, BadChoice, NoMemory}

abbrev pub status_of : Option TopFault → ℕ
status_of None = 0
status_of (Some Usage) = 2
status_of (Some ReadFault) = 3
status_of (Some WriteFault) = 4
status_of (Some TooLong) = 5
status_of (Some NotToml) = 5
status_of (Some (BadApp rule place)) = 5
status_of (Some (BadChoice number)) = 5
status_of (Some NoMemory) = 6

-- the text was written, or begun
abbrev pub writes : Option TopFault → Bool
writes None = true
writes (Some WriteFault) = true
writes _ = false
