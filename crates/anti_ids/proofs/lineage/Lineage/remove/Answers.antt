use Rattle.std.proofs.Common.{◌≡◌, List, ap, ◌∙◌, rules}
use Rattle.anti_ids.specs.declared.id.WriteId.{WriteId}
use Rattle.anti_ids.specs.Ids.{has_id, without_id}
use Rattle.anti_ids.specs.inner.Held.{held_ids}
use Rattle.anti_ids.proofs.IdLemmas.{has_id-without_id}
use Rattle.anti_ids.proofs.lineage.Lineage.remove.Goals as goal

pub returns-clause-members : goal.returns-clause-members
returns-clause-members c = λ i.
    let is : held_ids c.take_out.new.self ≡ without_id c.args.id.now c.args.self.now = search rules in
    ap (λ (x : List WriteId). has_id i x) is ∙ has_id-without_id i c.args.id.now c.args.self.now
