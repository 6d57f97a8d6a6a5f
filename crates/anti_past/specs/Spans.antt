-- The spans of a trace in which something was read.
use Rattle.std.specs.Prelude.{◌≡◌, ◌↔◌, ◌<◌, ◌⊎◌, Bool, true, List, Contains, AllPairs}
use Rattle.std.specs.List.{list_any}
use Rattle.anti_kind.specs.declared.entry.Entry.{Entry}
use Rattle.law_causal.specs.Reads.{is_read_of}
use Rattle.anti_past.specs.declared.span_reads.Span.{Span}

abbrev pub has_read : List Entry → Span → Bool
has_read trace s = list_any (is_read_of s.birth s.span) trace

-- by the object and the place of the birth, and by the number of the span
abbrev pub IsBefore : Span → Span → Type 0
IsBefore a b =
    (a.birth.object < b.birth.object)
    ⊎ ((a.birth.object ≡ b.birth.object) × ((a.birth.place < b.birth.place) ⊎ ((a.birth.place ≡ b.birth.place) × (a.span < b.span))))

-- just the spans with a read, ascending
pub record AreSpansOf (trace : List Entry) (spans : List Span) : Type 0 where
  pub ascending : AllPairs IsBefore spans
  pub just : (s : Span) → Contains spans s ↔ (has_read trace s ≡ true)
