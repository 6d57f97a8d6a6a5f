use Rattle.std.proofs.Common.{◌≡◌, ◌++◌, ◌∷◌, [], List, sym, ap, ◌∙◌, rules}
use Rattle.anti_ids.specs.declared.id.WriteId.{WriteId}
use Rattle.anti_ids.specs.inner.Parts.{joined}
use Rattle.anti_ids.proofs.PartLemmas.{joined_push}
use Rattle.anti_ids.proofs.id_parts.parts_of.Goals as goal

pub loop-rest-preserved : goal.loop-rest-preserved
loop-rest-preserved c =
    let part = c.split_at.result.0.now in
    let behind = c.split_at.result.1.now in
    let now : c.add_part.new.parts.items ≡ c.loop-rest.parts.items ++ part ∷ [] = search rules in
    let halves : c.loop-rest.rest.now ≡ part ++ behind = search rules in
    ap (λ (x : List (List WriteId)). joined x ++ behind) now ∙ joined_push c.loop-rest.parts.items part behind
    ∙ sym (ap (λ (x : List WriteId). joined c.loop-rest.parts.items ++ x) halves)
    ∙ c.loop-rest.invariant
