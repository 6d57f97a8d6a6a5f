-- The lines of the spans in which something was read.
use Rattle.std.specs.Prelude.{ℕ, List, ◌++◌, codes, decimal}
use Rattle.std.specs.List.{flat_map}
use Rattle.anti_app.specs.declared.app.App.{App}
use Rattle.anti_trace.specs.declared.mark.Mark.{Mark}
use Rattle.anti_past.specs.declared.span_reads.Span.{Span}
use Rattle.anti_order.specs.declared.answer.OrderAnswer.{OrderAnswer}
use Rattle.anti_order.specs.declared.answer.OrderAnswer.TheVariants.{Lossy, Unguarded, Order}
use Rattle.anti_order.specs.declared.answer.SpanAnswer.{SpanAnswer}
use Rattle.anti_text.specs.Words.{mark_text}

-- a mark behind a space, as ` posts.3`
abbrev pub spaced_mark : App → Mark → List ℕ
spaced_mark app mark = codes " " ++ mark_text app mark.object mark.place

-- what is answered of the reads of a span: the order that explains them, or the entry that bars it
abbrev pub answer_text : App → OrderAnswer → List ℕ
answer_text app (Lossy mark) = codes "lossy" ++ spaced_mark app mark
answer_text app (Unguarded mark) = codes "unguarded" ++ spaced_mark app mark
answer_text app (Order marks) = codes "order" ++ flat_map (spaced_mark app) marks.items

-- a span, as `w.1/1`: the place of the birth of its process, and its number
abbrev pub span_name : App → Span → List ℕ
span_name app s = mark_text app s.birth.object s.birth.place ++ codes "/" ++ decimal s.span

-- a word, a span, and what is answered of its reads
abbrev pub answered_line : List ℕ → App → SpanAnswer → List ℕ
answered_line word app a = word ++ span_name app a.span ++ codes " " ++ answer_text app a.answer ++ codes "\n"

-- a span with its answer, as `span w.1/1 order s.1 s.4`
abbrev pub span_line : App → SpanAnswer → List ℕ
span_line app a = answered_line (codes "span ") app a
