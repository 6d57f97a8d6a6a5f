-- The line that tells a fault.
use Rattle.std.specs.Prelude.{ℕ, List, ◌++◌, codes, decimal}
use Rattle.anti_rules.specs.declared.place.Part.{Part}
use Rattle.anti_rules.specs.declared.place.Part.TheVariants as parts
use Rattle.anti_command.specs.declared.fault.TopFault.{TopFault}
use Rattle.anti_command.specs.declared.fault.TopFault.TheVariants.{Usage, ReadFault, WriteFault, TooLong, NotToml, BadApp, BadChoice, NoMemory}

abbrev pub part_word : Part → List ℕ
part_word parts.Top = codes "top"
part_word parts.Region = codes "region"
part_word parts.Store = codes "store"
part_word parts.Service = codes "service"
part_word parts.Handler = codes "handler"
part_word parts.Sub = codes "sub"
part_word parts.Request = codes "request"
part_word parts.Choice = codes "choice"

abbrev pub line_of : TopFault → List ℕ
line_of Usage = codes "usage\n"
line_of ReadFault = codes "read fault\n"
line_of WriteFault = codes "write fault\n"
line_of TooLong = codes "too long\n"
line_of NotToml = codes "not toml\n"
line_of (BadApp rule place) =
    codes "app " ++ decimal rule ++ codes " " ++ part_word place.part ++ codes " " ++ decimal place.item ++ codes " " ++ decimal place.line ++ codes "\n"
line_of (BadChoice number) = codes "choice " ++ decimal number ++ codes "\n"
line_of NoMemory = codes "no memory\n"
