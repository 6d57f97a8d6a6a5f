use Rattle.std.proofs.Common.{◌≡◌, List, sym, ap, ◌∙◌, subst}
use Rattle.std.proofs.lemmas.Result.{on_ok_weaker}
use Rattle.anti_ids.specs.Ids.{has_id, with_id}
use Rattle.anti_ids.specs.declared.id.WriteId.{WriteId}
use Rattle.anti_ids.proofs.IdLemmas.{has_id-with_id}
use Rattle.anti_past.proofs.found_ids.FoundIds.add.Goals as goal

pub returns-in-Ok : goal.returns-in-Ok
returns-in-Ok c = λ w.
    let id : WriteId = c.args.id.now in
    let there : with_id id c.args.self.now ≡ c.args.self.now =
    subst (λ (ids : List WriteId). with_id id ids ≡ ids) (c.as_slice.ensures.value ∙ c.self.view_is) c.in-Ok.ensures.with in
    ap (has_id w) (sym there) ∙ has_id-with_id w id c.args.self.now

pub returns-in-Err : goal.returns-in-Err
returns-in-Err c = λ w.
    let id : WriteId = c.args.id.now in
    on_ok_weaker c.put_at.result (λ is. ap (has_id w) (is ∙ ap (with_id id) c.self.view_is) ∙ has_id-with_id w id c.args.self.now) c.put_at.ensures.ok
