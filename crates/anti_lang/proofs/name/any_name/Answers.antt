use Rattle.anti_lang.proofs.PlainNames.{not_a_name}
use Rattle.anti_lang.proofs.name.any_name.Goals as goal

pub returns-in-Err : goal.returns-in-Err
returns-in-Err c = not_a_name c.args.text.now _ c.in-Err.ensures
