use Rattle.std.proofs.Common.{◌∙◌, ◌+◌, List, [], ◌∷◌, ◌++◌, take, map, sym, ap, subst}
use Rattle.std.proofs.lemmas.List.{map_push}
use Rattle.anti_object.specs.declared.object.Object.{Object}
use Rattle.anti_shared.specs.Passes.{PassView, SharedView, first_pass}
use Rattle.anti_live.specs.Clients.{id_of_shared}
use Rattle.anti_live.specs.inner.Lives.{AreShared}
use Rattle.anti_live.proofs.Sharing.{next_shared}
use Rattle.anti_live.proofs.live.share_all.Goals as goal

pub loop-number-preserved : goal.loop-number-preserved
loop-number-preserved c =
    let shareds = c.loop-number.shareds.items in
    let one = c.in_ok-shared.shared in
    let made = c.in_ok-shared.ensures in
    let first = λ (s : SharedView Object). first_pass (id_of_shared s) in (
      subst (AreShared (take (c.loop-number.number + 1) c.args.stores.now)) (sym c.in_ok-push.ensures.items)
          (next_shared c.args.stores.now c.loop-number.number c.index-stores-number.result c.loop-number-test.true c.index-stores-number.is shareds c.loop-number.invariant.0 one
          c.in_ok-shared.pass made),
      c.in_ok-push-2.ensures.items ∙ ap (λ (passes : List (PassView Object)). passes ++ c.in_ok-shared.pass ∷ []) c.loop-number.invariant.1
          ∙ ap (λ (pass : PassView Object). map first shareds ++ pass ∷ []) made.pass_is ∙ sym (map_push first shareds one) ∙ ap (map first) (sym c.in_ok-push.ensures.items),
    )
