-- The record of a run, as one JSON object (RFC 8259) without spaces: the names of each object ascend.
use Rattle.std.specs.Prelude.{ℕ, List, [], ◌∷◌, ◌++◌, length, map, codes}
use Rattle.std.specs.Str.Lossy.{utf8_lossy}
use Rattle.serde_json.specs.Data.{Data, Members, number, unsigned, string, array, object, no_members, member}
use Rattle.serde_json.specs.View.{items_of}
use Rattle.serde_json.specs.Written.{compact_text}
use Rattle.anti_kind.specs.declared.entry.Entry.{Entry}
use Rattle.anti_app.specs.declared.app.App.{App}
use Rattle.anti_trace.specs.declared.ends.ProcessEnd.{ProcessEnd}
use Rattle.anti_text.specs.Words.{object_name, mark_text, service_name, handler_name}
use Rattle.anti_text.specs.Calls.{call_text, reply_text}
use Rattle.anti_text.specs.Entries.{actor_name, choice_numbered}
use Rattle.anti_text.specs.Processes.{end_text}
use Rattle.anti_report.specs.Report.{Told}
use Rattle.anti_text.specs.Spans.{answer_text, span_name}
use Rattle.anti_order.specs.declared.answer.SpanAnswer.{SpanAnswer}

-- a number; a text, of which what is no UTF-8 is replaced; and an object of names and values
abbrev pub count : ℕ → Data
count n = number (unsigned n)

unfoldable pub text : List ℕ → Data
text bytes = string (utf8_lossy bytes)

abbrev pub members : List (List ℕ × Data) → Members
members [] = no_members
members (m ∷ ms) = member m.0 m.1 (members ms)

abbrev pub fields : List (List ℕ × Data) → Data
fields ms = object (members ms)

-- an entry: its object by its name, who made it without the span, and the words of its call and of its reply
unfoldable pub entry_data : App → Entry → Data
entry_data app e = fields
    ((codes "actor", text (actor_name app e.actor))
    ∷ (codes "call", text (call_text app e.object e.call))
    ∷ (codes "object", text (object_name app e.object))
    ∷ (codes "place", count e.place)
    ∷ (codes "reply", text (reply_text app e.reply))
    ∷ (codes "span", count e.span)
    ∷ (codes "stamp", count e.stamp)
    ∷ [])

-- a choice that made no entry, in its own words
unfoldable pub wait_data : App → ℕ → Data
wait_data app n = fields
    ((codes "choice", text (choice_numbered app n))
    ∷ (codes "number", count n)
    ∷ [])

-- a process: the place of its birth, what it runs, and how it ended
unfoldable pub process_data : App → ProcessEnd → Data
process_data app p = fields
    ((codes "end", text (end_text app p.end))
    ∷ (codes "handler", text (handler_name app p.service p.handler))
    ∷ (codes "name", text (mark_text app p.birth.object p.birth.place))
    ∷ (codes "service", text (service_name app p.service))
    ∷ [])

-- a span with a read: its name, and what is answered of its reads
unfoldable pub span_data : App → SpanAnswer → Data
span_data app a = fields
    ((codes "answer", text (answer_text app a.answer))
    ∷ (codes "name", text (span_name app a.span))
    ∷ [])

-- the whole record
unfoldable pub record_data : App → Told → Data
record_data app t = fields
    ((codes "end", count (length t.entries))
    ∷ (codes "entries", array (items_of (map (entry_data app) t.entries)))
    ∷ (codes "processes", array (items_of (map (process_data app) t.ends)))
    ∷ (codes "record", count 1)
    ∷ (codes "spans", array (items_of (map (span_data app) t.spans)))
    ∷ (codes "waits", array (items_of (map (wait_data app) t.waits)))
    ∷ [])

-- its text, and a newline
abbrev pub json_of : App → Told → List ℕ
json_of app t = compact_text (record_data app t) ++ codes "\n"
