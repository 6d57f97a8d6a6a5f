-- What all answers of reads of a trace rest on.
use Rattle.std.specs.Prelude.{ℕ, ◌≡◌, Bool, false, not, List, Option, is_some, slice_get, map, All}
use Rattle.std.specs.List.{find}
use Rattle.std.specs.Option.{option_map_or}
use Rattle.anti_kind.specs.declared.entry.Entry.{Entry}
use Rattle.anti_app.specs.declared.app.App.{App}
use Rattle.law_causal.specs.Carried.{IsLossless}
use Rattle.law_causal.specs.Reads.{reads_of}
use Rattle.anti_past.specs.Losses.{LosesFirst}
use Rattle.anti_past.specs.Pasts.{ArePastsOf}
use Rattle.anti_past.specs.declared.before_reads.Past.{Past}
use Rattle.anti_past.specs.declared.span_reads.ReadsOfSpan.{ReadsOfSpan}
use Rattle.anti_order.specs.Answers.{IsAnswer}
use Rattle.anti_order.specs.declared.answer.SpanAnswer.{SpanAnswer}
use Rattle.anti_order.specs.declared.grounds.Grounds.{Grounds}
use Rattle.anti_order.specs.declared.grounds.Grounds.TheVariants.{Loss, NoLoss}
use Rattle.anti_order.specs.inner.Writes.{AreWritesOf}

-- whether the past at a place is that of a settled read
abbrev pub is_settled_at : List (Option Past) → ℕ → Bool
is_settled_at pasts r = option_map_or (λ past. option_map_or (λ p. p.settled) past false) (slice_get pasts r) false

-- whether some of these reads is not settled
abbrev pub has_unsettled : List (Option Past) → List ℕ → Bool
has_unsettled pasts reads = is_some (find (λ r. not (is_settled_at pasts r)) reads)

-- the first loss, or that there is none, and what is known of the reads and of the writes
abbrev pub AreGroundsOf : App → List Entry → Grounds → Type 0
AreGroundsOf app trace (Loss mark) = LosesFirst app trace mark
AreGroundsOf app trace (NoLoss pasts writes) = IsLossless app trace × ArePastsOf app trace pasts.items × AreWritesOf trace writes

-- answers of the reads of some spans, span by span
pub record AreAnswersFor (app : App) (trace : List Entry) (all : List ReadsOfSpan) (answers : List SpanAnswer) : Type 0 where
  pub spans : map (λ a. a.span) answers ≡ map (λ s. s.span) all
  pub answered : All (λ a. IsAnswer app trace (reads_of trace a.span.birth a.span.span) a.answer) answers
