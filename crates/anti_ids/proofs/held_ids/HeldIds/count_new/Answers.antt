use Rattle.std.proofs.Common.{◌≡◌, not, length, arith, rules}
use Rattle.std.specs.List.{filter}
use Rattle.anti_ids.specs.Ids.{has_id}
use Rattle.anti_ids.specs.inner.Held.{held_ids}
use Rattle.anti_ids.proofs.IdLemmas.{length-with_ids}
use Rattle.anti_ids.proofs.LeftLemmas.{lineage_held}
use Rattle.anti_ids.proofs.held_ids.HeldIds.count_new.Goals as goal

pub returns-clause-new : goal.returns-clause-new
returns-clause-new c =
    let held = held_ids c.args.self.now in
    let counted : c.loop-id.count ≡ length (filter (λ i. not (has_id i held)) c.args.ids) = search rules in
    omega (arith, counted, length-with_ids c.args.ids held c.requires.ids.ascending (lineage_held c.args.self.now c.requires.lineage).ascending)
