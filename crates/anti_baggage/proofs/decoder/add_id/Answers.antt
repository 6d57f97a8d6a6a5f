use Rattle.std.proofs.Common.{◌≡◌, ◌+◌, Ok, length, ◌∙◌, rules}
use Rattle.anti_baggage.specs.Reading.{id_in}
use Rattle.anti_baggage.specs.Steps.{last_of}
use Rattle.anti_baggage.proofs.Behind.{goes_last, piece_above}
use Rattle.anti_baggage.proofs.decoder.add_id.Goals as goal

pub returns-in-Ok : goal.returns-in-Ok
returns-in-Ok c =
    let stores = c.args.stores.now in
    let ids = c.args.lineage.now in
    let id = c.in_ok-id.id in
    let is : id_in stores (last_of ids) (length ids + 1) (c.args.place, c.args.text.now) ≡ Ok id = search rules in
    (id, is, c.in-Ok.ensures.ok ∙ goes_last ids id c.last-before.ensures.lineage.ascending (piece_above stores c.args.place (last_of ids) (length ids + 1) c.args.text.now id is))
