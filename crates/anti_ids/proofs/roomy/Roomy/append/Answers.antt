use Rattle.std.proofs.Common.{◌≡◌, ◌+◌, ◌-◌, ◌≤◌, false, List, length, ap, ◌∙◌, arith, rules, vec_len, vec_capacity}
use Rattle.std.proofs.lemmas.Grind.{common_steps}
use Rattle.anti_ids.specs.declared.id.WriteId.{WriteId}
use Rattle.anti_ids.specs.declared.limits.TheConstants.{MOST_IDS}
use Rattle.anti_ids.specs.Ids.{has_id, with_id}
use Rattle.anti_ids.proofs.IdLemmas.{has_id-with_id, length-with_id, lineage_with}
use Rattle.anti_ids.proofs.roomy.Roomy.append.Goals as goal

pub returns-in_default-clause-members : goal.returns-in_default-clause-members
returns-in_default-clause-members c = λ i.
    let is : c.args.self.now.ids ≡ with_id c.args.id c.args.self.now.ids = search rules in
    ap (λ (x : List WriteId). has_id i x) is ∙ has_id-with_id i c.args.id c.args.self.now.ids

pub invariant_of-self : goal.invariant_of-self
invariant_of-self c =
    let old = c.self.inside.ids.items in
    let new = c.put_at.new.ids.items in
    let is : new ≡ with_id c.args.id old = search rules in
    let is_new : has_id c.args.id old ≡ false = search rules in
    let longer : length new ≡ length old + 1 = ap length is ∙ length-with_id c.args.id old is_new in
    let short : length new ≤ MOST_IDS = search rules in
    let room : vec_len c.put_at.new.ids + (c.self.inside.spare - 1) ≤ vec_capacity c.put_at.new.ids = search rules in
    (lineage_with c.args.id old new c.self.invariant.0 c.requires.written is short, room)

pub returns-clause-members : goal.returns-clause-members
returns-clause-members c = λ i.
    let is : c.put_at.new.ids.items ≡ with_id c.args.id c.args.self.now.ids = search rules in
    ap (λ (x : List WriteId). has_id i x) is ∙ has_id-with_id i c.args.id c.args.self.now.ids

pub overflow_sub-self : goal.overflow_sub-self
overflow_sub-self c = grind (arith, common_steps)

pub put_at-requires-clause-room : goal.put_at-requires-clause-room
put_at-requires-clause-room c = grind (arith, common_steps)

pub returns-clause-fits : goal.returns-clause-fits
returns-clause-fits c = grind (arith, common_steps)

pub returns-clause-spare : goal.returns-clause-spare
returns-clause-spare c = grind (arith, common_steps)

pub returns-then-len-eq-MOST_IDS-clause-full : goal.returns-then-len-eq-MOST_IDS-clause-full
returns-then-len-eq-MOST_IDS-clause-full c = grind (arith, common_steps)
