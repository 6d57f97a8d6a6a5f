-- What is told of a trace: the first entry that loses an id, and the spans with a read, each with the places of its reads.
use Rattle.std.specs.Prelude.{List, Option, None, Some, ◌≡◌, map, All}
use Rattle.anti_kind.specs.declared.entry.Entry.{Entry}
use Rattle.anti_app.specs.declared.app.App.{App}
use Rattle.anti_trace.specs.declared.mark.Mark.{Mark}
use Rattle.law_causal.specs.Carried.{IsLossless}
use Rattle.law_causal.specs.Reads.{reads_of}
use Rattle.anti_past.specs.Losses.{LosesFirst}
use Rattle.anti_past.specs.declared.span_reads.ReadsOfSpan.{ReadsOfSpan}
use Rattle.anti_past.specs.Spans.{AreSpansOf}

-- the first entry that loses an id, or that there is none
abbrev pub IsFirstLoss : App → List Entry → Option Mark → Type 0
IsFirstLoss app trace None = IsLossless app trace
IsFirstLoss app trace (Some mark) = LosesFirst app trace mark

-- just the spans with a read, ascending, each with the places of its reads
pub record AreReadsBySpan (trace : List Entry) (listed : List ReadsOfSpan) : Type 0 where
  pub spans : AreSpansOf trace (map (λ s. s.span) listed)
  pub reads : All (λ s. s.reads.items ≡ reads_of trace s.span.birth s.span.span) listed
