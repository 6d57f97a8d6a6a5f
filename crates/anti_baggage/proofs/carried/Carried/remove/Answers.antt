use Rattle.std.proofs.Common.{◌≡◌, false, ◌∙◌, rules}
use Rattle.anti_ids.specs.Ids.{has_id}
use Rattle.anti_baggage.proofs.Kept.{told_stays, without_id-absent}
use Rattle.anti_baggage.proofs.carried.Carried.remove.Goals as goal

pub invariant_of-self-else-remove : goal.invariant_of-self-else-remove
invariant_of-self-else-remove c =
    let old = c.self.inside.lineage in
    let none : has_id c.args.id.now old ≡ false = search rules in
    told_stays old c.remove.new.self c.self.inside.told (λ asc. c.remove.ensures.ids ∙ without_id-absent c.args.id.now old asc none) c.self.invariant
