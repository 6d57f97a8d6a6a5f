-- By what an entry hands on what is causally before it, and in what order a program keeps these.
use Rattle.std.specs.Prelude.{ℕ, ◌||◌, Bool, false, Option, Some, None}
use Rattle.std.specs.Option.{option_map_or}
use Rattle.std.specs.Ordering.{nat_cmp, ordering_then, is_eq}
use Rattle.std.specs.declared.cmp.Ordering.{Ordering}
use Rattle.anti_kind.specs.declared.actor.Actor.{Actor}
use Rattle.anti_kind.specs.declared.actor.Actor.TheVariants.{Process}
use Rattle.anti_kind.specs.declared.call.Call.{Call}
use Rattle.anti_kind.specs.declared.call.Call.TheVariants as calls
use Rattle.anti_kind.specs.declared.call.Reply.{Reply}
use Rattle.anti_kind.specs.declared.call.Reply.TheVariants as replies
use Rattle.anti_kind.specs.declared.entry.Entry.{Entry}
use Rattle.anti_doctor.specs.declared.passages.Passage.{Passage}

-- by the kind, the object, the number and the span
abbrev pub passage_cmp : Passage → Passage → Ordering
passage_cmp a b =
    ordering_then (nat_cmp a.kind b.kind)
    (ordering_then (nat_cmp a.object b.object) (ordering_then (nat_cmp a.number b.number) (nat_cmp a.span b.span)))

abbrev pub same_passage : Passage → Passage → Bool
same_passage a b = is_eq (passage_cmp a b)

-- the span of an entry of an actor; a carrier is in none
abbrev pub span_by : Actor → ℕ → Option Passage
span_by (Process birth) span = Some (record { kind = 0; object = birth.object; number = birth.place; span = span })
span_by actor span = None

abbrev pub span_of : Entry → Option Passage
span_of e = span_by e.actor e.span

-- a call or a send, and the reply to a call
abbrev pub asked_on : ℕ → ℕ → Passage
asked_on o number = record { kind = 1; object = o; number = number; span = 0 }

abbrev pub answered_on : ℕ → ℕ → Passage
answered_on o number = record { kind = 2; object = o; number = number; span = 0 }

-- the letter that a call posts on an inbox, and the one that it takes from it
abbrev pub posted_by : ℕ → Call → Reply → Option Passage
posted_by o (calls.Post m) (replies.Posted number) = Some (asked_on o number)
posted_by o (calls.Post m) replies.Done = Some (answered_on o m.to)
posted_by o call reply = None

abbrev pub posted_of : Entry → Option Passage
posted_of e = posted_by e.object e.call e.reply

abbrev pub taken_by : ℕ → Call → Reply → Option Passage
taken_by o (calls.Take nth) (replies.Got number m) = Some (asked_on o number)
taken_by o (calls.TakeReply number) reply = Some (answered_on o number)
taken_by o call reply = None

abbrev pub taken_of : Entry → Option Passage
taken_of e = taken_by e.object e.call e.reply

-- whether what is before an entry is handed on by a passage: by its span, or by the letter that it posts
abbrev pub is_by : Passage → Option Passage → Bool
is_by q passage = option_map_or (λ p. same_passage p q) passage false

abbrev pub feeds : Passage → Entry → Bool
feeds q e = is_by q (span_of e) || is_by q (posted_of e)
