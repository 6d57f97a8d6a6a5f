use Rattle.std.proofs.Common.{rules}
use Rattle.anti_ids.proofs.WalkLemmas.{took_first}
use Rattle.anti_ids.proofs.walk.first_part.Goals as goal

pub returns-clause-ids : goal.returns-clause-ids
returns-clause-ids c =
    took_first c.args.parts.now c.ids-ids.result.now c.split_at.result.0.now c.args.left (search rules) (search rules) (search rules) (search rules)
