use Rattle.std.proofs.Common.{◌≡◌, ◌∷◌, ◌++◌, List, true, sym, ap, ◌∙◌, rules}
use Rattle.anti_ids.specs.declared.id.WriteId.{WriteId}
use Rattle.anti_ids.specs.Ids.{has_id, with_ids}
use Rattle.anti_ids.specs.Invariants.{IsAscending}
use Rattle.anti_ids.specs.inner.Held.{held_ids}
use Rattle.anti_ids.proofs.IdLemmas.{has_id-behind, has_id-front, with_id-there, with_ids-past}
use Rattle.anti_ids.proofs.LeftLemmas.{lineage_held}
use Rattle.anti_ids.proofs.held_ids.HeldIds.has_all.Goals as goal

pub loop-id-preserved : goal.loop-id-preserved
loop-id-preserved c =
    let held = held_ids c.args.self.now in
    let id = c.in-Some.id.now in
    let asc : IsAscending held = (lineage_held c.args.self.now c.requires).ascending in
    let step : c.loop-id.rest ≡ id ∷ c.next.new.self = search rules in
    let came : c.comes.result ≡ true = search rules in
    let there : has_id id held ≡ true = c.loop-id.invariant.held id (c.comes.ensures.there came) in
    let passed = c.pass_same.ensures in
    let coming : (i : WriteId) → has_id i c.comes.new.ids ≡ true → has_id i held ≡ true = λ i has. c.loop-id.invariant.held i (c.comes.ensures.rest i has) in
    let all : (i : WriteId) → has_id i (passed.front ++ c.pass_same.new.self) ≡ true → has_id i held ≡ true =
    λ i has. coming i (ap (λ (x : List WriteId). has_id i x) passed.is ∙ has) in
    record {
      found =
          sym (with_ids-past passed.front c.pass_same.new.other held asc (λ i has. all i (has_id-front i passed.front c.pass_same.new.self has)))
          ∙ sym (ap (λ (x : List WriteId). with_ids x held) passed.others_are)
          ∙ ap (λ (x : List WriteId). with_ids c.next.new.self x) (sym (with_id-there id held asc there))
          ∙ sym (ap (λ (x : List WriteId). with_ids x held) step)
          ∙ c.loop-id.invariant.found;
      held = λ i has. all i (has_id-behind i passed.front c.pass_same.new.self has);
    }
