use Rattle.anti_lang.proofs.PlainNames.{not_plain}
use Rattle.anti_lang.proofs.name.plain_name.Goals as goal

pub returns-in-Err : goal.returns-in-Err
returns-in-Err c = not_plain c.args.text.now _ c.in-Err.ensures
