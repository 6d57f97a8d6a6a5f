-- What bytes state, a run of an application, what this is worth, and its printed forms.
use Rattle.std.specs.Prelude.{ℕ, ◌≡◌, ◌≤◌, List, [], filter, length, nat_lt, Option, IfSome, Result, Ok}
use Rattle.anti_ids.specs.List.{plain}
use Rattle.anti_kind.specs.declared.entry.Entry.{Entry}
use Rattle.anti_app.specs.declared.app.App.{App}
use Rattle.anti_app.specs.declared.app.AppFault.{AppFault}
use Rattle.anti_app.specs.Stated.{app_of}
use Rattle.anti_trace.specs.Legal.{IsLegalTrace}
use Rattle.law_causal.specs.Settled.{BarriersFindAll, DryRunsName}
use Rattle.anti_order.specs.Answers.{SpansAreExplained}
use Rattle.anti_session.specs.Sessions.{MembersAreChains, SessionsAreExplained}
use Rattle.anti_doctor.specs.Diagnoses.{SpansAreDecided}
use Rattle.anti_play.specs.Complete.{IsComplete}
use Rattle.anti_play.specs.Schedule.{finished, trace_of, waits_of}
use Rattle.anti_work.specs.Workers.{IsWorkersRun}
use Rattle.anti_command.specs.declared.outcome.RunKept.{RunKept}
use Rattle.anti_ids.specs.declared.limits.TheConstants.{LONGEST_DOCUMENT}

-- the application that bytes state, or why they state none
unfoldable pub application_of : List ℕ → Result App AppFault
application_of bytes = app_of bytes

-- the application is that which the bytes state, where the source tells them
abbrev pub IsStated : Option (List ℕ) → App → Type 0
IsStated left app = IfSome left (λ bytes. (length bytes ≤ LONGEST_DOCUMENT) × (application_of bytes ≡ Ok app))

-- the choices of the application were played, each in its turn
unfoldable pub IsPlayed : RunKept → Type 0
IsPlayed kept = (kept.trace ≡ trace_of kept.app) × (kept.waits ≡ plain (waits_of kept.app))

-- The workers of the application made a run, and what they left was made behind it: what they did is what has a seat. Nothing is left that
-- can be made, and no choice was played.
pub record IsByWorkers (kept : RunKept) : Type 0 where
  pub begun : List Entry
  pub workers : IsWorkersRun kept.app begun
  pub finished : kept.trace ≡ finished kept.app begun
  pub seated : filter (λ e. nat_lt 0 e.seat) kept.trace ≡ begun
  pub complete : IsComplete kept.app kept.trace
  pub waits : kept.waits ≡ plain []

-- the trace is a legal one of the application
unfoldable pub IsLegalRun : RunKept → Type 0
IsLegalRun kept = IsLegalTrace kept.app kept.trace

-- each answered barrier of the run found all that its process carries, and each look of a dry run named just what was not visible
unfoldable pub FindsAll : RunKept → Type 0
FindsAll kept = BarriersFindAll kept.app kept.trace × DryRunsName kept.app kept.trace

-- each order that is answered for the reads of a span has all writes and these reads once each, respects the causal order, and explains what
-- the reads show
unfoldable pub ExplainsSpans : RunKept → Type 0
ExplainsSpans kept = SpansAreExplained kept.app kept.trace

-- the members of a session are reads of which each is causally before the next, and each order that is answered for them explains them
unfoldable pub ExplainsSessions : RunKept → Type 0
ExplainsSessions kept = MembersAreChains kept.trace × SessionsAreExplained kept.app kept.trace

-- the diagnosis of the reads of a span is right: a sound one tells an order that explains them, and where there are findings no order does
unfoldable pub DecidesSpans : RunKept → Type 0
DecidesSpans kept = SpansAreDecided kept.trace

-- the bytes print of the run what this says
unfoldable pub IsPrintOf : (App → List Entry → List ℕ → List ℕ → Type 0) → RunKept → List ℕ → Type 0
IsPrintOf Prints kept bytes = Prints kept.app kept.trace kept.waits.items bytes

-- the run is one of the application that is given, and was made so
pub record IsRunOf (IsGiven : App → Type 0) (IsRunSo : RunKept → Type 0) (kept : RunKept) : Type 0 where
  pub given : IsGiven kept.app
  pub made : IsRunSo kept
  pub legal : IsLegalRun kept
  pub barriers : FindsAll kept
  pub orders : ExplainsSpans kept
  pub sessions : ExplainsSessions kept
  pub diagnoses : DecidesSpans kept
