-- The counts of what is answered of the spans of a trace.
use Rattle.std.specs.Prelude.{◌≡◌, List}
use Rattle.anti_kind.specs.declared.entry.Entry.{Entry}
use Rattle.anti_app.specs.declared.app.App.{App}
use Rattle.anti_order.specs.declared.answer.SpanAnswer.{SpanAnswer}
use Rattle.anti_order.specs.declared.answer_counts.AnswerCounts.{AnswerCounts}
use Rattle.anti_order.specs.Answers.{AreAnswersOf}
use Rattle.anti_order.specs.Counts.{is_ordered, is_unguarded, is_lossy, how_many}

-- the counts are those of what is answered of the spans of the trace
pub record AreCountsOf (app : App) (trace : List Entry) (counts : AnswerCounts) : Type 0 where
  pub answers : List SpanAnswer
  pub answered : AreAnswersOf app trace answers
  pub ordered : counts.ordered ≡ how_many is_ordered answers
  pub unguarded : counts.unguarded ≡ how_many is_unguarded answers
  pub lossy : counts.lossy ≡ how_many is_lossy answers
