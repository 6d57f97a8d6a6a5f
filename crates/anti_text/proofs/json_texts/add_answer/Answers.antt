use Rattle.std.proofs.lemmas.Result.{on_ok_weaker}
use Rattle.anti_text.proofs.Quoted.{closed}
use Rattle.anti_text.proofs.json_texts.add_answer.Goals as goal

pub returns : goal.returns
returns c = on_ok_weaker c.close_string.result (closed c.args.out.now c.args.before.now _ c.in_ok-begun.ensures.0 c.in_ok-begun.ensures.1 c.in_ok-answer.ensures) c.close_string.ensures
