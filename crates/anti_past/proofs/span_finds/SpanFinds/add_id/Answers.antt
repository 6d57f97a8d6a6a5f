use Rattle.std.proofs.Common.{◌≡◌, ◌||◌, Bool, List, [], get_or, refl, ap, ◌∙◌}
use Rattle.std.specs.Vec.{with_item}
use Rattle.std.proofs.lemmas.List.{get_or_read}
use Rattle.std.proofs.lemmas.Result.{on_ok_weaker}
use Rattle.anti_ids.specs.Ids.{has_id, is_id}
use Rattle.anti_ids.specs.declared.id.WriteId.{WriteId}
use Rattle.anti_past.specs.declared.span_finds.SpanFinds.{SpanFinds}
use Rattle.anti_past.proofs.Finding.{in_one}
use Rattle.anti_past.proofs.span_finds.SpanFinds.add_id.Goals as goal

pub returns : goal.returns
returns c = λ w.
    let id : WriteId = c.args.id.now in
    let old : SpanFinds = c.reach.new.self in
    let was : List WriteId = c.index_mut-ids.result.now in
    let new : SpanFinds = record { stores = with_item old.stores id.store c.add.new.self } in
    let read : was ≡ get_or old.stores.items id.store [] =
    get_or_read old.stores.items id.store was c.in_ok-reach.ensures.long c.index_mut-ids.ensures.value [] in
    on_ok_weaker c.add.result
    (λ adds.
    in_one old new id c.add.new.self c.in_ok-reach.ensures.long refl w (adds ∙ ap (λ (ids : List WriteId). is_id w id || has_id w ids) read)
    ∙ ap (λ (t : Bool). t || is_id w id) (c.in_ok-reach.ensures.same w))
    (c.add.ensures w)
