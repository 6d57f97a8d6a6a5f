-- What the code knows of bytes that state no application, and of an application that it plays.
use Rattle.std.specs.Prelude.{IsTrue, ℕ, ◌≡◌, List, Err}
use Rattle.anti_app.specs.declared.app.App.{App}
use Rattle.anti_app.specs.Sound.{is_sound}
use Rattle.anti_app.specs.declared.app.AppFault.TheVariants as app
use Rattle.anti_command.specs.Runs.{application_of}
use Rattle.anti_command.specs.declared.fault.TopFault.{TopFault}
use Rattle.anti_command.specs.declared.fault.TopFault.TheVariants.{NotToml, BadApp, BadChoice, NoMemory}

-- an application that can be played
unfoldable pub IsPlayable : App → Type 0
IsPlayable app = IsTrue (is_sound app)

-- the bytes state no application, and this is the fault that tells why
abbrev pub IsFaultOf : List ℕ → TopFault → Type 0
IsFaultOf bytes NotToml = application_of bytes ≡ Err app.NotToml
IsFaultOf bytes (BadApp rule place) = application_of bytes ≡ Err (app.Bad rule place)
IsFaultOf bytes (BadChoice number) = application_of bytes ≡ Err (app.BadChoice number)
IsFaultOf bytes NoMemory = Unit {0}
IsFaultOf bytes _ = ⊥
