use Rattle.std.proofs.Common.{◌≡◌, ◌∙◌, sym, subst, rules}
use Rattle.std.specs.Prelude.{IfOk}
use Rattle.anti_ids.specs.Invariants.{IsLineage}
use Rattle.anti_ids.specs.Ids.{ids_of}
use Rattle.anti_ids.specs.inner.Held.{base_ids, held_ids}
use Rattle.anti_ids.specs.inner.Stores.{StandFrom}
use Rattle.anti_ids.proofs.IdLemmas.{lineage_ids_of}
use Rattle.anti_ids.proofs.LeftLemmas.{lineage_held}
use Rattle.anti_ids.proofs.StoreLemmas.{none_held, range_held}
use Rattle.anti_ids.proofs.held_ids.HeldIds.of_store.Goals as goal

pub returns-then-len-eq0-clause-ids : goal.returns-then-len-eq0-clause-ids
returns-then-len-eq0-clause-ids c =
    let found = c.range_of-from.result in
    let stand : StandFrom c.args.store (base_ids c.args.self.now) found.0 found.1 = subst (λ x. StandFrom c.args.store x found.0 found.1) c.walk.ensures c.range_of-from.ensures in
    c.new.ensures.items ∙ none_held c.args.store found.0 found.1 c.args.self.now stand c.if-len-eq0.true

pub over-requires : goal.over-requires
over-requires c =
    let found = c.range_of-from.result in
    let held = held_ids c.args.self.now in
    let stand : StandFrom c.args.store (base_ids c.args.self.now) found.0 found.1 = subst (λ x. StandFrom c.args.store x found.0 found.1) c.walk.ensures c.range_of-from.ensures in
    let is : c.in_ok-block.block ≡ ids_of c.args.store held = search rules ∙ range_held c.args.store found.0 found.1 c.args.self.now stand in
    subst IsLineage (sym is) (lineage_ids_of c.args.store held (lineage_held c.args.self.now c.requires))

pub returns-clause-ids : goal.returns-clause-ids
returns-clause-ids c =
    let found = c.range_of-from.result in
    let stand : StandFrom c.args.store (base_ids c.args.self.now) found.0 found.1 = subst (λ x. StandFrom c.args.store x found.0 found.1) c.walk.ensures c.range_of-from.ensures in
    let is : c.in_ok-block.block ≡ ids_of c.args.store (held_ids c.args.self.now) = search rules ∙ range_held c.args.store found.0 found.1 c.args.self.now stand in
    subst (λ x. IfOk c.over.result (λ h. held_ids h ≡ x)) is c.over.ensures.ids
