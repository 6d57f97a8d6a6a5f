use Rattle.anti_work.proofs.Merged.{merged_is_legal}
use Rattle.anti_work.proofs.laws.merged_histories_are_legal.Goals as goal

pub returns : goal.returns
returns c = λ app histories seat count works trace are order same. merged_is_legal app histories seat count works are trace order same
