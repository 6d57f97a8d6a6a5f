-- The statements that name a store or a service. They are printed apart.
use Rattle.std.specs.Prelude.{Bool, true, false}
use Rattle.anti_lang.specs.Program.{Step, Write, Read, Scan, Poll, Call, Send}

-- whether a statement names a store or a service
abbrev pub names_object : Step → Bool
names_object (Write store key value variable untracked) = true
names_object (Read store key variable) = true
names_object (Scan store prefix variable) = true
names_object (Poll store key variable) = true
names_object (Call service handler value variable) = true
names_object (Send service handler value) = true
names_object statement = false
