use Rattle.std.proofs.Common.{◌≡◌, not, length, arith, rules}
use Rattle.std.specs.List.{filter}
use Rattle.anti_ids.specs.Ids.{has_id}
use Rattle.anti_ids.proofs.IdLemmas.{length-with_ids}
use Rattle.anti_ids.proofs.ascending.count_new.Goals as goal

pub returns : goal.returns
returns c =
    let ids = c.args.ids.now in
    let further = c.args.further in
    let counted : c.loop-id.count ≡ length (filter (λ i. not (has_id i ids)) further) = search rules in
    omega (arith, counted, length-with_ids further ids c.requires.further.ascending c.requires.ids)
