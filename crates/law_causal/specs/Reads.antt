-- The places of a trace, counted from 0, and those of the reads of a span.
use Rattle.std.specs.Prelude.{ℕ, Bool, false, ◌&&◌, ◌==◌, List, length, slice_get}
use Rattle.std.specs.List.{filter, range_with_len}
use Rattle.std.specs.Option.{option_map_or}
use Rattle.anti_kind.specs.declared.actor.Actor.TheVariants.{Process}
use Rattle.anti_kind.specs.declared.actor.Birth.{Birth}
use Rattle.anti_kind.specs.declared.entry.Entry.{Entry}
use Rattle.anti_trace.specs.Traces.{is_by}
use Rattle.law_causal.specs.Words.{reads}

-- all places, in the order of the trace
abbrev pub places : List Entry → List ℕ
places trace = range_with_len 0 (length trace)

-- whether the entry at a place passes a test; past the end there is none
abbrev pub is_at : (Entry → Bool) → List Entry → ℕ → Bool
is_at test trace i = option_map_or test (slice_get trace i) false

-- whether an entry is a read in a span of a process, which is named by its birth
abbrev pub is_read_of : Birth → ℕ → Entry → Bool
is_read_of birth span e = reads e.call && (is_by (Process birth) e && e.span == span)

-- the places of these reads
abbrev pub reads_of : List Entry → Birth → ℕ → List ℕ
reads_of trace birth span = filter (is_at (is_read_of birth span) trace) (places trace)
