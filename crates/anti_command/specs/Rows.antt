-- What each command does: a row for each, of where its application comes from and of what is made of it.
use Rattle.std.specs.Prelude.{ℕ, List}
use Rattle.anti_app.specs.declared.app.App.{App}
use Rattle.anti_kind.specs.declared.entry.Entry.{Entry}
use Rattle.anti_report.specs.Report.{IsPrinted}
use Rattle.anti_text.specs.Diagnoses.{PrintsDiagnoses}
use Rattle.anti_text.specs.Json.{json_of}
use Rattle.anti_text.specs.Record.{text_of}
use Rattle.anti_text.specs.Sessions.{PrintsSessions}
use Rattle.anti_text.specs.Summary.{summary_of}
use Rattle.anti_command.specs.declared.command.Command.{Command}
use Rattle.anti_command.specs.Placed.{TellsCounterexample, TellsPlacement, TellsReview}
use Rattle.anti_command.specs.declared.command.Command.TheVariants.{Step, Json, Session, Doctor, Place, Review, Counterexample, Load}
use Rattle.anti_command.specs.declared.command.Command.TheVariants as commands

-- the document that the source has, or the load of so many requests
pub data Origin : Type 0 where
  Document : Origin
  Requests : ℕ → Origin

-- a run is made of the choices of its application, each in its turn, or by its workers
pub data Making : Type 0 where
  Choices : Making
  Workers : Making

-- a run that is made so, of which this is printed, or what a text tells of the application, which is not played
pub data Product : Type 1 where
  Run : Making → (App → List Entry → List ℕ → List ℕ → Type 0) → Product
  Told : (App → List ℕ → Type 0) → Product

pub record CommandRow : Type 1 where
  pub origin : Origin
  pub product : Product

abbrev pub row_of : Command → CommandRow
row_of Step = record { origin = Document; product = Run Choices (λ app. IsPrinted (text_of app) app) }
row_of Json = record { origin = Document; product = Run Choices (λ app. IsPrinted (json_of app) app) }
row_of commands.Run = record { origin = Document; product = Run Workers (λ app. IsPrinted (text_of app) app) }
row_of Session = record { origin = Document; product = Run Choices (λ app trace waits. PrintsSessions app trace) }
row_of Doctor = record { origin = Document; product = Run Choices (λ app trace waits. PrintsDiagnoses app trace) }
row_of Place = record { origin = Document; product = Told TellsPlacement }
row_of Review = record { origin = Document; product = Told TellsReview }
row_of Counterexample = record { origin = Document; product = Told TellsCounterexample }
row_of (Load requests) = record { origin = Requests requests; product = Run Choices (IsPrinted summary_of) }
