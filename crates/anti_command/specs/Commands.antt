-- What each command reads, keeps and writes. Words that name no command ask for `None`.
use Rattle.std.specs.Prelude.{ℕ, ◌≡◌, ◌≤◌, List, length, Option, None, Some, IsSomeAnd, Ok, Bool, true, false, ◌&&◌}
use Rattle.anti_kind.specs.declared.entry.Entry.{Entry}
use Rattle.anti_app.specs.declared.app.App.{App}
use Rattle.anti_load.specs.Load.{load_application}
use Rattle.anti_command.specs.Faults.{writes}
use Rattle.anti_command.specs.Rows.{Origin, Making, Product, Document, Requests, Choices, Workers, Run, Told, row_of}
use Rattle.anti_command.specs.Runs.{application_of, IsByWorkers, IsPlayed, IsPrintOf, IsRunOf, IsStated}
use Rattle.anti_command.specs.declared.command.Command.{Command}
use Rattle.anti_command.specs.declared.fault.TopFault.{TopFault}
use Rattle.anti_command.specs.declared.outcome.RunKept.{RunKept}
use Rattle.anti_ids.specs.declared.limits.TheConstants.{LONGEST_DOCUMENT}

-- it reads the source
abbrev is_document : Origin → Bool
is_document Document = true
is_document (Requests requests) = false

abbrev pub reads_source : Option Command → Bool
reads_source None = false
reads_source (Some command) = is_document (row_of command).origin

-- it plays a run
abbrev is_run : Product → Bool
is_run (Run making Prints) = true
is_run (Told Tells) = false

abbrev pub plays : Option Command → Bool
plays None = false
plays (Some command) = is_run (row_of command).product

-- a run is kept where one is played, and a text is written or begun
abbrev pub keeps_run : Option Command → Option TopFault → Bool
keeps_run asked fault = writes fault && plays asked

-- the run was made so
abbrev pub IsRunBy : Making → RunKept → Type 0
IsRunBy Choices run = IsPlayed run
IsRunBy Workers run = IsByWorkers run

-- a run of the application that is given is kept, which was made so, and the text prints this of it
abbrev pub IsRunPrinted : (App → Type 0) → Making → (App → List Entry → List ℕ → List ℕ → Type 0) → Option RunKept → List ℕ → Type 0
IsRunPrinted IsGiven making Prints kept text = IsSomeAnd kept (λ run. IsRunOf IsGiven (IsRunBy making) run × IsPrintOf Prints run text)

-- the application comes from there, where the source has this left
abbrev pub IsFrom : Origin → Option (List ℕ) → App → Type 0
IsFrom Document left = IsStated left
IsFrom (Requests requests) left = λ app. app ≡ load_application requests

-- the text tells this of an application that is given, and no run is kept
pub record IsTold (IsGiven : App → Type 0) (Tells : App → List ℕ → Type 0) (kept : Option RunKept) (text : List ℕ) : Type 0 where
  pub none : kept ≡ None
  pub app : App
  pub given : IsGiven app
  pub told : Tells app text

-- of the application that is given this was made: this is the run that is kept, and this the text
abbrev pub IsMade : Product → (App → Type 0) → Option RunKept → List ℕ → Type 0
IsMade (Run making Prints) IsGiven kept text = IsRunPrinted IsGiven making Prints kept text
IsMade (Told Tells) IsGiven kept text = IsTold IsGiven Tells kept text

-- what is asked was done to what the source had: this is the run that is kept, and this the text
abbrev pub IsDone : Option Command → Option (List ℕ) → Option RunKept → List ℕ → Type 0
IsDone None left kept text = ⊥
IsDone (Some command) left kept text = IsMade (row_of command).product (IsFrom (row_of command).origin left) kept text

-- what is asked was done, and of its text this is true
pub record IsDoneAnd (asked : Option Command) (left : Option (List ℕ)) (kept : Option RunKept) (IsSo : List ℕ → Type 0) : Type 0 where
  pub text : List ℕ
  pub done : IsDone asked left kept text
  pub so : IsSo text

-- the source tells a document that states an application
pub record TellsApp (left : Option (List ℕ)) : Type 0 where
  pub bytes : List ℕ
  pub app : App
  pub told : left ≡ Some bytes
  pub short : length bytes ≤ LONGEST_DOCUMENT
  pub states : application_of bytes ≡ Ok app

-- there is an application there
abbrev pub IsThere : Origin → Option (List ℕ) → Type 0
IsThere Document left = TellsApp left
IsThere (Requests requests) left = Unit {0}

-- what is asked can be done
abbrev pub CanBeDone : Option Command → Option (List ℕ) → Type 0
CanBeDone None left = ⊥
CanBeDone (Some command) left = IsThere (row_of command).origin left
