-- What the sessions of a run saw, as text.
use Rattle.std.specs.Prelude.{ℕ, ◌≡◌, List, ◌++◌, length, codes, decimal}
use Rattle.std.specs.List.{flat_map}
use Rattle.anti_kind.specs.declared.entry.Entry.{Entry}
use Rattle.anti_app.specs.declared.app.App.{App}
use Rattle.anti_order.specs.declared.answer.SpanAnswer.{SpanAnswer}
use Rattle.anti_session.specs.Sessions.{AreSessionAnswersOf}
use Rattle.anti_text.specs.Spans.{answered_line}

-- a session with what is answered of its members, as `session c.1/1 order s.1 s.5 s.7`
abbrev pub session_line : App → SpanAnswer → List ℕ
session_line app a = answered_line (codes "session ") app a

-- a line for each session, and last how many entries there are
abbrev pub sessions_text : App → ℕ → List SpanAnswer → List ℕ
sessions_text app entries sessions =
    codes "sessions 1\n" ++ flat_map (session_line app) sessions ++ codes "end " ++ decimal entries ++ codes "\n"

-- the bytes print the sessions of a run of the application, with this trace
pub record PrintsSessions (app : App) (trace : List Entry) (bytes : List ℕ) : Type 0 where
  pub sessions : List SpanAnswer
  pub answered : AreSessionAnswersOf app trace sessions
  pub text : bytes ≡ sessions_text app (length trace) sessions
