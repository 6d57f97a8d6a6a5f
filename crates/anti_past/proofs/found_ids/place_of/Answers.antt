use Rattle.std.proofs.Common.{ℕ}
use Rattle.std.proofs.lemmas.Option.{get_or_from_slice_get, slice_get_within}
use Rattle.anti_ids.proofs.Places.{found_place, stands_at}
use Rattle.anti_past.proofs.found_ids.place_of.Goals as goal

pub returns-then-stands_at : goal.returns-then-stands_at
returns-then-stands_at c =
    let i = c.args.id.now in
    let ids = c.args.ids.now in
    let at : ℕ = c.args.at in
    let here = c.stands_at.ensures c.if-stands_at.true in
    stands_at i ids at i c.requires (slice_get_within ids at i here) (get_or_from_slice_get ids at i i here)

pub returns : goal.returns
returns c = found_place c.args.id.now c.args.ids.now c.binary_search.result c.requires c.binary_search.ensures.bound c.binary_search.ensures.position
