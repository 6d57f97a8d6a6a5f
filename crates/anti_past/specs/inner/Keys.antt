-- The spans of processes as the keys of maps and sets, in their order.
use Rattle.std.specs.Prelude.{ℕ, ◌&&◌, Bool, false, cond, Option, Some, None}
use Rattle.std.specs.Option.{option_map_or}
use Rattle.std.specs.Ordering.{nat_cmp, ordering_then, is_eq}
use Rattle.std.specs.declared.cmp.Ordering.{Ordering}
use Rattle.anti_kind.specs.declared.actor.Actor.{Actor}
use Rattle.anti_kind.specs.declared.actor.Actor.TheVariants.{Process}
use Rattle.anti_kind.specs.declared.actor.Birth.{Birth}
use Rattle.anti_kind.specs.declared.entry.Entry.{Entry}
use Rattle.law_causal.specs.Words.{reads}
use Rattle.anti_past.specs.declared.span_keys.SpanKey.{SpanKey}
use Rattle.anti_past.specs.declared.span_reads.Span.{Span}

-- by the object, the place and the number of the span
abbrev pub key_cmp : SpanKey → SpanKey → Ordering
key_cmp a b = ordering_then (nat_cmp a.object b.object) (ordering_then (nat_cmp a.place b.place) (nat_cmp a.span b.span))

abbrev pub same_key : SpanKey → SpanKey → Bool
same_key a b = is_eq (key_cmp a b)

-- the span that an entry of an actor is in; a carrier is in none
abbrev pub key_by : Actor → ℕ → Option SpanKey
key_by (Process birth) span = Some (record { object = birth.object; place = birth.place; span = span })
key_by _ span = None

abbrev pub key_of : Entry → Option SpanKey
key_of e = key_by e.actor e.span

-- the span that an entry reads in
abbrev pub read_key : Entry → Option SpanKey
read_key e = cond (reads e.call) (key_of e) None

-- whether an entry is in a span
abbrev pub is_in : SpanKey → Entry → Bool
is_in q e = option_map_or (λ k. same_key k q) (key_of e) false

-- whether it is a read in it
abbrev pub is_read_in : SpanKey → Entry → Bool
is_read_in q e = reads e.call && is_in q e

-- the birth of the process, and the span
abbrev pub birth_in : SpanKey → Birth
birth_in k = record { object = k.object; place = k.place }

abbrev pub span_of : SpanKey → Span
span_of k = record { birth = birth_in k; span = k.span }
