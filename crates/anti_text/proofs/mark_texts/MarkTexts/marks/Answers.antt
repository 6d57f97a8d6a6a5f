use Rattle.std.proofs.Common.{◌∙◌}
use Rattle.anti_text.proofs.mark_texts.MarkTexts.marks.Goals as goal

pub piece-requires-clause-kept : goal.piece-requires-clause-kept
piece-requires-clause-kept c = λ is. c.are_same-are_kept.ensures is ∙ c.as_slice.ensures.value
