use Rattle.std.proofs.Common.{◌≡◌, ℕ, ◌+◌, ◌||◌, true, false, sym, ap, ◌∙◌}
use Rattle.std.proofs.lemmas.Bool.{or_from, or_left, or_right}
use Rattle.anti_ids.specs.Ids.{has_id}
use Rattle.anti_ids.specs.inner.Held.{held_ids}
use Rattle.anti_ids.proofs.IdLemmas.{length-with_ids-old, length-with_ids-new}
use Rattle.anti_ids.proofs.LeftLemmas.{lineage_held}
use Rattle.anti_ids.proofs.held_ids.HeldIds.union_len.Goals as goal
use Rattle.anti_ids.proofs.held_ids.HeldIds.union_len.Goals.{then-has-via-then-has, then-has-via-else-has+then-has-2}

pub returns-then-has-clause-len : goal.returns-then-has-clause-len
returns-then-has-clause-len c =
    let id = c.args.id.now in
    let ours = held_ids c.args.self.now in
    let theirs = held_ids c.args.other.now in
    let old : (has_id id ours || has_id id theirs) ≡ true =
    elim c.then-has.branch [
      | then-has-via-then-has w ↦ or_left (has_id id ours) (has_id id theirs) (sym c.has.ensures ∙ w.if-has.true)
      | then-has-via-else-has+then-has-2 w ↦ or_right (has_id id ours) (has_id id theirs) (sym w.has-else-has.ensures ∙ w.if-has-2.true)
    ] in
    c.len_with-len.ensures.len ∙ sym (length-with_ids-old id theirs ours (lineage_held c.args.self.now c.requires.lineage).ascending old)

pub returns-clause-len : goal.returns-clause-len
returns-clause-len c =
    let id = c.args.id.now in
    let ours = held_ids c.args.self.now in
    let theirs = held_ids c.args.other.now in
    let new : (has_id id ours || has_id id theirs) ≡ false =
    or_from (has_id id ours) (has_id id theirs) (sym c.has.ensures ∙ c.if-has.false) (sym c.has-else-has.ensures ∙ c.if-has-2.false) in
    ap (λ (n : ℕ). n + 1) c.len_with-len.ensures.len
    ∙ sym (length-with_ids-new id theirs ours (lineage_held c.args.self.now c.requires.lineage).ascending new)
