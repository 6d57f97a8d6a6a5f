use Rattle.std.proofs.Common.{◌++◌, ◌∷◌, ◌∙◌, List, [], length, ap, sym, subst}
use Rattle.std.proofs.lemmas.Iterator.Adapters.{YieldsList-from_vec}
use Rattle.std.proofs.lemmas.Iterator.Consumers.{YieldsList-turn}
use Rattle.std.proofs.lemmas.List.{map_push}
use Rattle.anti_kind.specs.Records.{Record}
use Rattle.anti_object.specs.declared.object.Object.{Object}
use Rattle.anti_object.specs.Standing.{ObjectAt}
use Rattle.anti_play.specs.inner.Kepts.{Kept, at_last}
use Rattle.anti_play.proofs.kept_world.all_kept.Goals as goal

pub keep_with-requires : goal.keep_with-requires
keep_with-requires c =
    let turn = YieldsList-turn (YieldsList-from_vec c.args.pairs.items (cc) (cc)) c.loop-pair.yielded _ c.loop-pair.yielded_by _ c.next.new.self c.in-Some.pair c.in-Some.is c.next.ensures.steps in
    subst (λ (k : Kept). ObjectAt k.0 k.1.items) (sym turn.1) (c.requires (length c.loop-pair.yielded) c.in-Some.pair turn.0)

pub loop-pair-preserved : goal.loop-pair-preserved
loop-pair-preserved c =
    c.in_ok-keep_with.ensures ∙ ap (λ (rs : List (Record Object)). rs ++ at_last c.in-Some.pair ∷ []) c.loop-pair.invariant
    ∙ sym (map_push at_last c.loop-pair.yielded c.in-Some.pair)
