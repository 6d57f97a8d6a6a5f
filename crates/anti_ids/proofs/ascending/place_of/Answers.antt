use Rattle.anti_ids.proofs.Places.{found_place, last_place}
use Rattle.anti_ids.proofs.ascending.place_of.Goals as goal

pub returns-then-goes_last : goal.returns-then-goes_last
returns-then-goes_last c = last_place c.args.id.now c.args.ids.now (c.goes_last.ensures.0 c.if-goes_last.true)

pub returns : goal.returns
returns c = found_place c.args.id.now c.args.ids.now c.binary_search.result c.requires c.binary_search.ensures.bound c.binary_search.ensures.position
