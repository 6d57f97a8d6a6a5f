use Rattle.std.proofs.Common.{sym}
use Rattle.anti_ids.proofs.ValueLemmas.{text_is, text_is_not}
use Rattle.anti_app.proofs.document.text_of.Goals as goal

pub returns-in-Ok : goal.returns-in-Ok
returns-in-Ok c = (sym (text_is _ c.in-Ok.ensures.cases.1), c.in-Ok.ensures.cases.0)

pub returns-in-Err : goal.returns-in-Err
returns-in-Err c = sym (text_is_not _ c.in-Err.ensures.cases.0)
