use Rattle.std.proofs.Common.{◌≡◌, ◌∷◌, List, length, ap, sym, ◌∙◌, arith}
use Rattle.anti_ids.specs.Ids.{with_id, with_ids}
use Rattle.anti_ids.specs.declared.id.WriteId.{WriteId}
use Rattle.anti_ids.proofs.IdLemmas.{with_ids-cons, le-length-with_id}
use Rattle.anti_replicas.proofs.replaced.union.Goals as goal

pub add_all-requires : goal.add_all-requires
add_all-requires c =
    let lineage : List WriteId = c.args.lineage.now in let further : List WriteId = c.args.further.now in
    let all : with_ids (c.args.id ∷ further) lineage ≡ with_id c.args.id (with_ids further lineage) = with_ids-cons c.args.id further lineage c.requires.ascending in
    omega (arith, ap length all, le-length-with_id c.args.id (with_ids further lineage), ap (λ (l : List WriteId). length (with_ids further l)) c.in_ok-ids.ensures, c.requires.room)

pub add_id-requires-clause-room : goal.add_id-requires-clause-room
add_id-requires-clause-room c =
    let lineage : List WriteId = c.args.lineage.now in let further : List WriteId = c.args.further.now in
    let all : with_ids (c.args.id ∷ further) lineage ≡ with_id c.args.id (with_ids further lineage) = with_ids-cons c.args.id further lineage c.requires.ascending in
    let ids : c.add_all.new.ids ≡ with_ids further lineage = c.in_ok-add_all.ensures ∙ ap (with_ids further) c.in_ok-ids.ensures in
    omega (arith, ap length all, ap (λ (l : List WriteId). length (with_id c.args.id l)) ids, c.requires.room)

pub returns : goal.returns
returns c =
    let lineage : List WriteId = c.args.lineage.now in let further : List WriteId = c.args.further.now in
    let ids : c.add_all.new.ids ≡ with_ids further lineage = c.in_ok-add_all.ensures ∙ ap (with_ids further) c.in_ok-ids.ensures in
    c.in_ok-add_id.ensures ∙ ap (with_id c.args.id) ids ∙ sym (with_ids-cons c.args.id further lineage c.requires.ascending)
