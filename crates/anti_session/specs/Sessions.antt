-- Sessions: the spans of processes that a request started, where they have members; and what is answered of these.
use Rattle.std.specs.Prelude.{ℕ, ◌≡◌, ◌≢◌, ◌↔◌, Bool, true, false, ◌&&◌, ◌==◌, List, [], map, flat_map, All, AllPairs, Contains}
use Rattle.std.specs.List.{list_any}
use Rattle.anti_kind.specs.declared.actor.Birth.{Birth}
use Rattle.anti_kind.specs.declared.call.Call.{Call}
use Rattle.anti_kind.specs.declared.call.Call.TheVariants as calls
use Rattle.anti_kind.specs.declared.call.Reply.{Reply}
use Rattle.anti_kind.specs.declared.call.Reply.TheVariants as replies
use Rattle.anti_kind.specs.declared.entry.Entry.{Entry}
use Rattle.anti_kind.specs.declared.message.MessageKind.{MessageKind}
use Rattle.anti_kind.specs.declared.message.MessageKind.TheVariants as kinds
use Rattle.anti_app.specs.declared.app.App.{App}
use Rattle.anti_past.specs.Spans.{IsBefore}
use Rattle.anti_past.specs.declared.span_reads.Span.{Span}
use Rattle.anti_order.specs.Answers.{IsAnswer, IsExplained}
use Rattle.anti_order.specs.declared.answer.OrderAnswer.{OrderAnswer}
use Rattle.anti_order.specs.declared.answer.SpanAnswer.{SpanAnswer}
use Rattle.law_causal.specs.Words as words
use Rattle.law_causal.specs.Reads.{is_at}
use Rattle.law_serial.specs.Causes.{IsChain}
use Rattle.anti_session.specs.Members.{members}

-- ---- sessions

abbrev pub is_request : MessageKind → Bool
is_request kinds.Request = true
is_request kind = false

-- whether a request is taken
abbrev pub takes_request : Call → Reply → Bool
takes_request (calls.Take nth) (replies.Got number m) = is_request m.kind
takes_request call reply = false

-- whether a process was born by the take of a request
abbrev pub is_requested : List Entry → Birth → Bool
is_requested trace birth = list_any (λ e. e.object == birth.object && (e.place == birth.place && takes_request e.call e.reply)) trace

-- a span of such a process that has members
pub record IsSession (trace : List Entry) (s : Span) : Type 0 where
  pub requested : is_requested trace s.birth ≡ true
  pub some : members trace s.birth s.span ≢ []

-- just the sessions, ascending
pub record AreSessionsOf (trace : List Entry) (spans : List Span) : Type 0 where
  pub ascending : AllPairs IsBefore spans
  pub just : (s : Span) → Contains spans s ↔ IsSession trace s

-- the sessions, each with what is answered of its members
pub record AreSessionAnswersOf (app : App) (trace : List Entry) (answers : List SpanAnswer) : Type 0 where
  pub sessions : AreSessionsOf trace (map (λ a. a.span) answers)
  pub answered : All (λ a. IsAnswer app trace (members trace a.span.birth a.span.span) a.answer) answers

-- ---- laws

-- The members of each span are reads, and each is causally before the next.
abbrev pub MembersAreChains : List Entry → Type 0
MembersAreChains trace =
    (birth : Birth) (span : ℕ)
    → ((x : ℕ) → Contains (members trace birth span) x → is_at (λ e. words.reads e.call) trace x ≡ true)
    × IsChain trace (members trace birth span)

-- Each order that is answered for the members of a span explains them.
abbrev pub SessionsAreExplained : App → List Entry → Type 0
SessionsAreExplained app trace =
    (birth : Birth) (span : ℕ) (answer : OrderAnswer) → IsAnswer app trace (members trace birth span) answer
    → IsExplained trace (members trace birth span) answer
