-- The reads of a session: those of a span, with those that the calls did for it which it waited for. Entries are named by their places in the
-- trace, counted from 0.
use Rattle.std.specs.Prelude.{ℕ, zero, suc, Bool, true, false, ◌&&◌, ◌==◌, List, [], ◌∷◌, length, flat_map, Option, None, Some, slice_get, if◌then◌else◌}
use Rattle.std.specs.List.{filter, find, list_any}
use Rattle.std.specs.Option.{option_and_then, option_map_or}
use Rattle.anti_kind.specs.declared.actor.Actor.{Actor}
use Rattle.anti_kind.specs.declared.actor.Actor.TheVariants.{Process}
use Rattle.anti_kind.specs.declared.actor.Birth.{Birth}
use Rattle.anti_kind.specs.declared.call.Call.{Call}
use Rattle.anti_kind.specs.declared.call.Call.TheVariants as calls
use Rattle.anti_kind.specs.declared.call.Reply.{Reply}
use Rattle.anti_kind.specs.declared.call.Reply.TheVariants as replies
use Rattle.anti_kind.specs.declared.entry.Entry.{Entry}
use Rattle.anti_kind.specs.declared.message.MessageKind.{MessageKind}
use Rattle.anti_kind.specs.declared.message.MessageKind.TheVariants as kinds
use Rattle.anti_trace.specs.Traces.{is_by}
use Rattle.law_causal.specs.Words.{reads}
use Rattle.law_causal.specs.Reads.{is_at, places}

-- ---- spans

-- whether an entry is one of a span of a process, which is named by its birth
abbrev pub is_of_span : Birth → ℕ → Entry → Bool
is_of_span birth span e = is_by (Process birth) e && e.span == span

-- the places of these entries, in the order of the trace
abbrev pub span_places : List Entry → Birth → ℕ → List ℕ
span_places trace birth span = filter (is_at (is_of_span birth span) trace) (places trace)

-- ---- calls and their replies. A call is named by its inbox and the number that it got there.

abbrev pub is_call : MessageKind → Bool
is_call kinds.Call = true
is_call kind = false

abbrev pub is_reply : MessageKind → Bool
is_reply kinds.Reply = true
is_reply kind = false

-- the number of the call that is posted, where one is
abbrev pub call_posted : Call → Reply → Option ℕ
call_posted (calls.Post m) (replies.Posted number) = if is_call m.kind then Some number else None
call_posted call reply = None

-- whether a message of this number is taken
abbrev pub takes_number : ℕ → Call → Reply → Bool
takes_number number (calls.Take nth) (replies.Got n m) = n == number
takes_number number call reply = false

-- whether the reply to the call of this number is posted, and whether it is taken
abbrev pub answers_number : ℕ → Call → Reply → Bool
answers_number number (calls.Post m) replies.Done = is_reply m.kind && m.to == number
answers_number number call reply = false

abbrev pub hears_number : ℕ → Call → Bool
hears_number number (calls.TakeReply n) = n == number
hears_number number call = false

abbrev pub takes : ℕ → ℕ → Entry → Bool
takes inbox number e = e.object == inbox && takes_number number e.call e.reply

abbrev pub answers : ℕ → ℕ → Entry → Bool
answers inbox number e = e.object == inbox && answers_number number e.call e.reply

abbrev pub hears : ℕ → ℕ → Entry → Bool
hears inbox number e = e.object == inbox && hears_number number e.call

-- ---- who answered

abbrev pub process_of : Actor → Option Birth
process_of (Process birth) = Some birth
process_of actor = None

-- the process that took the message of this number
abbrev pub taker : List Entry → ℕ → ℕ → Option Birth
taker trace inbox number = option_and_then (λ e. process_of e.actor) (find (takes inbox number) trace)

-- it, where it posted the reply in its first span
abbrev pub answerer_among : List Entry → ℕ → ℕ → Birth → Option Birth
answerer_among trace inbox number birth =
    if list_any (λ e. is_of_span birth 1 e && answers inbox number e) trace then Some birth else None

abbrev pub answerer : List Entry → ℕ → ℕ → Option Birth
answerer trace inbox number = option_and_then (answerer_among trace inbox number) (taker trace inbox number)

-- the answerer of the call that an entry of a span posted, where the same span took the reply
abbrev pub server_of : List Entry → Birth → ℕ → ℕ → ℕ → Option Birth
server_of trace birth span inbox number =
    if list_any (λ e. is_of_span birth span e && hears inbox number e) trace then answerer trace inbox number else None

abbrev pub server : List Entry → Birth → ℕ → Entry → Option Birth
server trace birth span e = option_and_then (server_of trace birth span e.object) (call_posted e.call e.reply)

-- ---- members

-- What an entry of a span adds: a read itself, a call that was answered and heard the members of its server, and any other nothing.
abbrev pub adds : (Birth → List ℕ) → List Entry → Birth → ℕ → ℕ → Entry → List ℕ
adds of trace birth span x e = if reads e.call then x ∷ [] else option_map_or of (server trace birth span e) []

abbrev pub adds_at : (Birth → List ℕ) → List Entry → Birth → ℕ → ℕ → List ℕ
adds_at of trace birth span x = option_map_or (adds of trace birth span x) (slice_get trace x) []

-- The members of a span, where calls are followed so many deep.
abbrev pub members_in : ℕ → List Entry → Birth → ℕ → List ℕ
members_in zero trace birth span = []
members_in (suc depth) trace birth span =
    flat_map (adds_at (λ b. members_in depth trace b 1) trace birth span) (span_places trace birth span)

-- The members of a span. A call is taken behind its post, so none is deeper than the trace is long.
abbrev pub members : List Entry → Birth → ℕ → List ℕ
members trace birth span = members_in (length trace) trace birth span
