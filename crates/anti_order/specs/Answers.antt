-- What is answered of reads of a trace: an order that explains them, or the entry that bars it.
use Rattle.std.specs.Prelude.{ℕ, ◌≡◌, List, ◌∷◌, ◌++◌, Option, Some, option_map, slice_get, map, All, Contains}
use Rattle.anti_kind.specs.declared.actor.Birth.{Birth}
use Rattle.anti_kind.specs.declared.entry.Entry.{Entry}
use Rattle.anti_app.specs.declared.app.App.{App}
use Rattle.anti_trace.specs.declared.mark.Mark.{Mark}
use Rattle.law_causal.specs.Carried.{IsLossless}
use Rattle.law_causal.specs.Reads.{reads_of}
use Rattle.anti_past.specs.Losses.{LosesFirst, mark_of}
use Rattle.anti_past.specs.Spans.{AreSpansOf}
use Rattle.law_serial.specs.Order.{order_of}
use Rattle.law_serial.specs.Serial.{IsSerial, IsSettledRead}
use Rattle.anti_order.specs.declared.answer.OrderAnswer.{OrderAnswer}
use Rattle.anti_order.specs.declared.answer.OrderAnswer.TheVariants.{Lossy, Unguarded, Order}
use Rattle.anti_order.specs.declared.answer.SpanAnswer.{SpanAnswer}

-- the mark of the entry at a place; past the end there is none
abbrev pub mark_at : List Entry → ℕ → Option Mark
mark_at trace i = option_map mark_of (slice_get trace i)

-- the entries at these places have these marks
abbrev pub AreMarksOf : List Entry → List ℕ → List Mark → Type 0
AreMarksOf trace places marks = map (mark_at trace) places ≡ map Some marks

-- the marked one is the first of these reads that is not settled
pub record IsFirstUnsettled (app : App) (trace : List Entry) (reads : List ℕ) (mark : Mark) : Type 0 where
  pub before : List ℕ
  pub read : ℕ
  pub after : List ℕ
  pub cut : reads ≡ before ++ read ∷ after
  pub settled : (r : ℕ) → Contains before r → IsSettledRead app trace r
  pub unsettled : IsSettledRead app trace read → ⊥
  pub marked : mark_at trace read ≡ Some mark

-- First comes whether the trace loses an id anywhere, then whether a read is not settled. Where neither is so, the order of the reads is
-- answered.
abbrev pub IsAnswer : App → List Entry → List ℕ → OrderAnswer → Type 0
IsAnswer app trace reads (Lossy mark) = LosesFirst app trace mark
IsAnswer app trace reads (Unguarded mark) = IsLossless app trace × IsFirstUnsettled app trace reads mark
IsAnswer app trace reads (Order marks) =
    IsLossless app trace × ((r : ℕ) → Contains reads r → IsSettledRead app trace r) × AreMarksOf trace (order_of app trace reads) marks.items

-- the spans with a read, each with the answer of its reads
pub record AreAnswersOf (app : App) (trace : List Entry) (answers : List SpanAnswer) : Type 0 where
  pub spans : AreSpansOf trace (map (λ a. a.span) answers)
  pub answered : All (λ a. IsAnswer app trace (reads_of trace a.span.birth a.span.span) a.answer) answers

-- the marks are those of an order that has all writes and these reads once each, respects the causal order, and explains the reads
pub record Explains (trace : List Entry) (reads : List ℕ) (marks : List Mark) : Type 0 where
  pub order : List ℕ
  pub marked : AreMarksOf trace order marks
  pub serial : IsSerial trace reads order

-- an order that is answered for these reads does
abbrev pub IsExplained : List Entry → List ℕ → OrderAnswer → Type 0
IsExplained trace reads (Order marks) = Explains trace reads marks.items
IsExplained trace reads answer = Unit {0}

-- Each order that is answered for the reads of a span explains them.
abbrev pub SpansAreExplained : App → List Entry → Type 0
SpansAreExplained app trace =
    (birth : Birth) (span : ℕ) (answer : OrderAnswer) → IsAnswer app trace (reads_of trace birth span) answer
    → IsExplained trace (reads_of trace birth span) answer
