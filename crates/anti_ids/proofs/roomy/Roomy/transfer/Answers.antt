use Rattle.std.proofs.Common.{◌≡◌, ◌+◌, ◌-◌, ◌≤◌, List, length, ap, ◌∙◌, rules, vec_len, vec_capacity}
use Rattle.anti_ids.specs.declared.id.WriteId.{WriteId}
use Rattle.anti_ids.specs.declared.limits.TheConstants.{MOST_IDS}
use Rattle.anti_ids.specs.Ids.{has_id, with_ids}
use Rattle.anti_ids.proofs.IdLemmas.{has_id-with_ids, lineage_with_ids}
use Rattle.anti_ids.proofs.roomy.Roomy.transfer.Goals as goal

pub invariant_of-self : goal.invariant_of-self
invariant_of-self c =
    let old = c.self.inside.ids.items in
    let new = c.add_all.new.ids.items in
    let is : new ≡ with_ids c.args.other.now old = search rules in
    let short : length new ≤ MOST_IDS = search rules in
    let room : vec_len c.add_all.new.ids + (c.self.inside.spare - c.count_new-more.result) ≤ vec_capacity c.add_all.new.ids = search rules in
    (lineage_with_ids c.args.other.now old new c.iter-2.ensures.lineage.written c.self.invariant.0 is short, room)

pub returns-clause-members : goal.returns-clause-members
returns-clause-members c = λ i.
    let is : c.add_all.new.ids.items ≡ with_ids c.args.other.now c.args.self.now.ids = search rules in
    ap (λ (x : List WriteId). has_id i x) is ∙ has_id-with_ids i c.args.other.now c.args.self.now.ids
