-- What a record tells of a run, before it is text.
use Rattle.std.specs.Prelude.{ℕ, ◌≡◌, List}
use Rattle.anti_kind.specs.declared.entry.Entry.{Entry}
use Rattle.anti_app.specs.declared.app.App.{App}
use Rattle.anti_trace.specs.declared.ends.ProcessEnd.{ProcessEnd}
use Rattle.anti_trace.specs.Ends.{ends_of}
use Rattle.anti_order.specs.Answers.{AreAnswersOf}
use Rattle.anti_order.specs.declared.answer.SpanAnswer.{SpanAnswer}

-- what happened, the numbers of the choices that made no entry, how each process ended, and what is answered of the reads of each span
pub record Told : Type 0 where
  pub entries : List Entry
  pub waits : List ℕ
  pub ends : List ProcessEnd
  pub spans : List SpanAnswer

-- this is to be told of a run of the application, with this trace, in which these choices made no entry
pub record IsTold (app : App) (trace : List Entry) (waiting : List ℕ) (t : Told) : Type 0 where
  pub entries : t.entries ≡ trace
  pub waits : t.waits ≡ waiting
  pub ends : t.ends ≡ ends_of app trace
  pub spans : AreAnswersOf app trace t.spans

-- the bytes print what is to be told of the run, in this form
pub record IsPrinted (form : Told → List ℕ) (app : App) (trace : List Entry) (waiting bytes : List ℕ) : Type 0 where
  pub told : Told
  pub tells : IsTold app trace waiting told
  pub text : bytes ≡ form told
