-- The first client of all.
use Rattle.std.proofs.Common.{◌≡◌, ℕ, ◌≤◌, List, [], ◌∷◌, length, map, refl, sym, ap, ◌∙◌, arith}
use Rattle.std.specs.Prelude.{slice_get}
use Rattle.anti_kind.specs.declared.actor.Actor.TheVariants.{Carrier}
use Rattle.anti_object.specs.declared.object.Object.{Object}
use Rattle.anti_shared.specs.Passes.{PassView, SharedView, first_pass}
use Rattle.anti_live.specs.Stores.{here_of}
use Rattle.anti_live.specs.Clients.{ClientView, IsClient, IsFirst, IsOf, LiveView, id_of_pass, id_of_shared}

abbrev firsts_of : List (SharedView Object) → List (PassView Object)
firsts_of shareds = map (λ s. first_pass (id_of_shared s)) shareds

ids_of_firsts : (shareds : List (SharedView Object)) → map id_of_pass (firsts_of shareds) ≡ map id_of_shared shareds
ids_of_firsts [] = refl
ids_of_firsts (one ∷ rest) = ap (λ ids. one.id ∷ ids) (ids_of_firsts rest)

first_actor : (shareds : List (SharedView Object)) (client : ClientView) → 1 ≤ length shareds → client.passes ≡ firsts_of shareds → IsClient client.passes client.who
    → client.who.actor ≡ Carrier 1
first_actor [] client some passes known = absurd (omega (arith, some))
first_actor (one ∷ rest) client some passes known = known (first_pass one.id) (ap (λ (ps : List (PassView Object)). slice_get ps 0) passes)

module _ (live : LiveView) (region : ℕ) (client : ClientView) (some : 1 ≤ length live.shareds) (passes : client.passes ≡ firsts_of live.shareds)
    (region_is : client.region ≡ region) (here : client.here ≡ here_of region live.stores) where
  of_live : IsOf live client
  of_live = record {
    passes = ap (map id_of_pass) passes ∙ ids_of_firsts live.shareds;
    here = here ∙ ap (λ (r : ℕ). here_of r live.stores) (sym region_is);
  }

  pub first_client : client.lineage ≡ [] → client.who.span ≡ 1 → client.who.clock ≡ 0 → IsClient client.passes client.who → IsFirst live region client
  first_client lineage span clock known =
      let actor = first_actor live.shareds client some passes known in
      record {
        of = of_live;
        passes = passes;
        who = λ i. record { actor = actor i; span = span i; clock = clock i };
        region_is = region_is;
        lineage = lineage;
      }
