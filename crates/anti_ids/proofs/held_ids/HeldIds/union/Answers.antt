use Rattle.std.proofs.Common.{◌≡◌, subst, sym, ◌∙◌, rules}
use Rattle.std.specs.Prelude.{IfOk}
use Rattle.anti_ids.specs.Ids.{with_ids}
use Rattle.anti_ids.specs.inner.Held.{held_ids}
use Rattle.anti_ids.proofs.IdLemmas.{with_ids-comm}
use Rattle.anti_ids.proofs.LeftLemmas.{lineage_held}
use Rattle.anti_ids.proofs.held_ids.HeldIds.union.Goals as goal

pub returns-then-has_all-clause-ok : goal.returns-then-has_all-clause-ok
returns-then-has_all-clause-ok c =
    let held = held_ids c.args.self.now in
    let other = held_ids c.args.other.now in
    let all : with_ids held other ≡ other = search rules in
    let is : c.in_ok-block.block ≡ with_ids other held =
    search rules ∙ sym (with_ids-comm other held (lineage_held c.args.other.now c.requires.other).ascending (lineage_held c.args.self.now c.requires.lineage).ascending ∙ all) in
    subst (λ x. IfOk c.held_over.result (λ h. held_ids h ≡ x)) is c.held_over.ensures.ids
