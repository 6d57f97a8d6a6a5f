use Rattle.anti_ids.proofs.ValueLemmas.{text_is, text_is_not}
use Rattle.anti_ids.proofs.value.is_text.Goals as goal

pub returns-in-Ok : goal.returns-in-Ok
returns-in-Ok c = text_is _ c.in-Ok.ensures.cases.1

pub returns-in-Err : goal.returns-in-Err
returns-in-Err c = text_is_not _ c.in-Err.ensures.cases.0
