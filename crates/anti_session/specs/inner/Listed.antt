-- Sessions among some spans, each with its members; and their answers.
use Rattle.std.specs.Prelude.{◌≡◌, Bool, ◌&&◌, ◌==◌, not, List, length, map, All}
use Rattle.std.specs.List.{filter}
use Rattle.anti_kind.specs.declared.entry.Entry.{Entry}
use Rattle.anti_app.specs.declared.app.App.{App}
use Rattle.anti_past.specs.declared.span_reads.ReadsOfSpan.{ReadsOfSpan}
use Rattle.anti_past.specs.declared.span_reads.Span.{Span}
use Rattle.anti_order.specs.Answers.{IsAnswer}
use Rattle.anti_order.specs.declared.answer.SpanAnswer.{SpanAnswer}
use Rattle.anti_session.specs.Members.{members}
use Rattle.anti_session.specs.Sessions.{AreSessionsOf, is_requested}

-- whether a span is a session
abbrev pub is_session : List Entry → Span → Bool
is_session trace s = is_requested trace s.birth && not (length (members trace s.birth s.span) == 0)

-- those of some spans that are sessions, in their order, each with its members
pub record AreListed (trace : List Entry) (among : List Span) (listed : List ReadsOfSpan) : Type 0 where
  pub spans : map (λ s. s.span) listed ≡ filter (is_session trace) among
  pub members : All (λ s. s.reads.items ≡ members trace s.span.birth s.span.span) listed

-- all sessions, ascending, each with its members
pub record AreMembersBySession (trace : List Entry) (listed : List ReadsOfSpan) : Type 0 where
  pub sessions : AreSessionsOf trace (map (λ s. s.span) listed)
  pub members : All (λ s. s.reads.items ≡ members trace s.span.birth s.span.span) listed

-- answers of the members of some spans, span by span
pub record AreAnswersFor (app : App) (trace : List Entry) (all : List ReadsOfSpan) (answers : List SpanAnswer) : Type 0 where
  pub spans : map (λ a. a.span) answers ≡ map (λ s. s.span) all
  pub answered : All (λ a. IsAnswer app trace (members trace a.span.birth a.span.span) a.answer) answers
