use Rattle.std.proofs.Common.{◌≤◌, ℕ, Some, length, ap, sym, ◌∙◌, arith}
use Rattle.std.specs.Prelude.{nat_le}
use Rattle.std.proofs.lemmas.Bool.{le-leb}
use Rattle.anti_ids.specs.Ids.{with_ids}
use Rattle.anti_ids.specs.declared.limits.TheConstants.{MOST_IDS}
use Rattle.anti_kind.specs.Store.{left_by, over}
use Rattle.anti_replicas.proofs.Replacing.{few_over, over_length}
use Rattle.anti_replicas.proofs.replicas.Replicas.keeps_few.Goals as goal

pub returns-then-saturating_add : goal.returns-then-saturating_add
returns-then-saturating_add c = λ s h at.
    let few : length (over s h c.args.key.now c.args.lineage.now) ≤ MOST_IDS =
    few_over c.args.self.now s h at c.args.key.now c.args.lineage.now (omega (arith, c.len-len.ensures.len, c.saturating_add.ensures, c.if-saturating_add.true)) in
    sym (le-leb (length (over s h c.args.key.now c.args.lineage.now)) MOST_IDS few)

pub returns-in-Some : goal.returns-in-Some
returns-in-Some c = λ s h at.
    c.has_room.ensures
    ∙ ap (λ (number : ℕ). nat_le (length (with_ids (left_by number (Some c.in-Some.row.now)) c.args.lineage.now)) MOST_IDS) at.state.number_is
    ∙ ap (λ (n : ℕ). nat_le n MOST_IDS) (sym (over_length s h c.args.key.now c.args.lineage.now (Some c.in-Some.row.now) c.iter-ascending.ensures.lineage.ascending (c.in-Some.ensures.some s h at)))
