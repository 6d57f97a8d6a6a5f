use Rattle.std.proofs.Common.{sym, rules}
use Rattle.anti_ids.proofs.LeftLemmas.{all_left}
use Rattle.anti_ids.proofs.left.gone_by.Goals as goal

pub returns-clause-left : goal.returns-clause-left
returns-clause-left c = λ at ids. sym (all_left c.args.words.now at ids (c.is_any_gone.ensures (search rules)))
