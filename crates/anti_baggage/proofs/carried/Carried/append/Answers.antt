use Rattle.std.proofs.Common.{◌≡◌, ◌∙◌, rules}
use Rattle.std.specs.Prelude.{true}
use Rattle.anti_ids.specs.Ids.{has_id}
use Rattle.anti_ids.proofs.IdLemmas.{with_id-there}
use Rattle.anti_baggage.proofs.Kept.{told_stays}
use Rattle.anti_baggage.proofs.carried.Carried.append.Goals as goal

pub invariant_of-self-else-is_new : goal.invariant_of-self-else-is_new
invariant_of-self-else-is_new c =
    let old = c.self.inside.lineage in
    let there : has_id c.args.id old ≡ true = search rules in
    told_stays old c.append.new.self c.self.inside.told (λ asc. c.in_ok-is_new.ensures.ok ∙ with_id-there c.args.id old asc there) c.self.invariant
