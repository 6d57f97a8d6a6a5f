use Rattle.std.proofs.Common.{◌∙◌, sym}
use Rattle.anti_lang.proofs.OtherWords.{read_behind}
use Rattle.anti_lang.proofs.line.line_behind.Goals as goal

pub returns-else-is_empty : goal.returns-else-is_empty
returns-else-is_empty c =
    rw (read_behind c.args.first.now c.args.words.now (sym c.is_empty.ensures ∙ c.if-is_empty.false)) c.form_of.ensures
