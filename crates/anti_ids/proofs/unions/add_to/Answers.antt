use Rattle.std.proofs.Common.{arith, ◌≡◌, ◌+◌, ◌≤◌, length, ap, ◌∙◌, false, rules}
use Rattle.std.proofs.lemmas.Grind.{common_steps}
use Rattle.anti_ids.specs.declared.limits.TheConstants.{MOST_IDS}
use Rattle.anti_ids.specs.Ids.{has_id, with_id}
use Rattle.anti_ids.proofs.IdLemmas.{length-with_id, lineage_with}
use Rattle.anti_ids.proofs.unions.add_to.Goals as goal

pub returns-in-Ok-clause-lineage : goal.returns-in-Ok-clause-lineage
returns-in-Ok-clause-lineage c =
    let absent : has_id c.args.id c.args.block.now ≡ false = search rules in
    let is : c.grow.new.self ≡ with_id c.args.id c.args.block.now = search rules in
    let longer : length c.grow.new.self ≡ length c.args.block.now + 1 = ap length is ∙ length-with_id c.args.id c.args.block.now absent in
    let short : length c.grow.new.self ≤ MOST_IDS = search rules in
    lineage_with c.args.id c.args.block.now c.grow.new.self c.requires.lineage c.requires.written is short

pub returns-in-Ok-clause-fits : goal.returns-in-Ok-clause-fits
returns-in-Ok-clause-fits c = grind (arith, common_steps)
