-- The fault of the call for a fault of its bytes.
use Rattle.anti_app.specs.declared.app.AppFault.{AppFault}
use Rattle.anti_app.specs.declared.app.AppFault.TheVariants as app
use Rattle.anti_command.specs.declared.fault.TopFault.{TopFault}
use Rattle.anti_command.specs.declared.fault.TopFault.TheVariants.{NotToml, BadApp, BadChoice, NoMemory}

-- the fault of the call for the fault of its bytes
abbrev pub fault_of : AppFault → TopFault
fault_of app.NotToml = NotToml
fault_of (app.Bad rule place) = BadApp rule place
fault_of (app.BadChoice number) = BadChoice number
fault_of app.NoMemory = NoMemory
