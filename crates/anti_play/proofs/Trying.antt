-- What an offer that is tried names, and what it asks for.
use Rattle.std.proofs.Common.{◌≡◌, ℕ, ◌<◌, Bool, true, false, cond, List, [], length, refl, ap, ◌∙◌, subst, arith}
use Rattle.std.specs.Prelude.{IsSome, IsTrue, Option, None, Some, option_and_then, slice_get}
use Rattle.std.specs.Option.{option_map_or}
use Rattle.std.proofs.lemmas.Option.{slice_get_within}
use Rattle.anti_kind.specs.Kinds.{facts_of}
use Rattle.anti_app.specs.declared.app.App.{App}
use Rattle.anti_app.specs.declared.app.StoreDef.{StoreDef}
use Rattle.anti_app.specs.declared.app.SubDef.{SubDef}
use Rattle.anti_app.specs.Objects.{object_count}
use Rattle.anti_app.specs.Sound.{is_sound}
use Rattle.anti_app.proofs.Runnable.{found_in}
use Rattle.anti_app.proofs.SoundLemmas.{SoundSub, app_known}
use Rattle.anti_agenda.specs.Agendas.{IsAwake}
use Rattle.anti_agenda.specs.declared.agenda.Agenda.{Agenda}
use Rattle.anti_agenda.specs.declared.offer.Offer.{Offer}
use Rattle.anti_agenda.specs.declared.offer.Offer.TheVariants.{Take, Pull, Ship, Again}
use Rattle.anti_play.specs.declared.world.World.{World}
use Rattle.anti_play.specs.inner.Attending.{IsAttended, IsOffer, cache_at, caches, region_at, replicas}
use Rattle.anti_play.proofs.Offers.{region_within, regions_of}

-- ---- what is there

module _ (app : App) (w : World) (agenda : Agenda) (attended : IsAttended app w agenda) (offer : Offer) (awake : IsAwake agenda offer) where
  is_offer : IsOffer app attended.trace offer
  is_offer = attended.attends.awake offer awake

  pub take_there : (service : ℕ) → offer ≡ Take service → service < length app.services.items
  take_there service is = subst (IsOffer app attended.trace) is is_offer

  pub pull_there : (sub : ℕ) → offer ≡ Pull sub → sub < length app.subs.items
  pull_there sub is = subst (IsOffer app attended.trace) is is_offer

  pub ship_there : (store replica : ℕ) → offer ≡ Ship store replica → IsSome (region_at app store replica)
  ship_there store replica is = subst (IsOffer app attended.trace) is is_offer

  pub again_there : (store replica : ℕ) → offer ≡ Again store replica → IsSome (cache_at app store replica)
  again_there store replica is = subst (IsOffer app attended.trace) is is_offer

-- a store and one of its replicas
module _ (app : App) (store replica : ℕ) (some : IsSome (region_at app store replica)) where
  is_route : (store < length app.stores.items) × (replica < length (regions_of replicas app store))
  is_route = region_within app [] replicas store replica some

  pub store_there : store < length app.stores.items
  store_there = is_route.0

  pub replica_there : (d : StoreDef) → slice_get app.stores.items store ≡ Some d → replica < length d.replicas.items
  replica_there d at = subst (λ (found : Option StoreDef). replica < length (option_map_or replicas found [])) at is_route.1

-- a store that has a cache somewhere has one at each replica
all_cached : (d : StoreDef) (replica : ℕ) → IsSome (slice_get (caches d) replica) → caches d ≡ d.replicas.items
all_cached d replica some = by_cached (facts_of d.kind).cached some
  where
    by_cached : (cached : Bool) → IsSome (slice_get (cond cached d.replicas.items []) replica) → cond cached d.replicas.items [] ≡ d.replicas.items
    by_cached true some = refl
    by_cached false some = absurd (cc)

-- what has a cache is a replica
pub cache_there : (app : App) (store replica : ℕ) → IsSome (cache_at app store replica) → IsSome (region_at app store replica)
cache_there app store replica some = by_store (slice_get app.stores.items store) some
  where
    by_store : (found : Option StoreDef) → IsSome (option_and_then (λ s. slice_get (caches s) replica) found) → IsSome (option_and_then (λ s. slice_get (replicas s) replica) found)
    by_store None some = some
    by_store (Some d) some = subst (λ (gs : List ℕ). IsSome (slice_get gs replica)) (all_cached d replica some) some

-- the store of a subscription
pub sub_store : (app : App) → IsTrue (is_sound app) → (number : ℕ) (sub : SubDef) → slice_get app.subs.items number ≡ Some sub → sub.store < object_count app
sub_store app sound number sub at =
    let known : SoundSub app.stores.items app.services.items sub = found_in (SoundSub app.stores.items app.services.items) app.subs.items number sub (app_known app sound).subs at in
    let low : sub.store < length app.stores.items = slice_get_within app.stores.items sub.store known.store known.stored in
    omega arith

-- the region of a replica that was read
pub region_is : (app : App) (store replica region : ℕ) (d : StoreDef) → slice_get app.stores.items store ≡ Some d → slice_get d.replicas.items replica ≡ Some region
    → region_at app store replica ≡ Some region
region_is app store replica region d there at = ap (option_and_then (λ s. slice_get s.replicas.items replica)) there ∙ at

-- the same of one that has a cache
pub cache_is : (app : App) (store replica region : ℕ) (d : StoreDef) → slice_get app.stores.items store ≡ Some d → slice_get d.replicas.items replica ≡ Some region
    → IsSome (cache_at app store replica) → cache_at app store replica ≡ Some region
cache_is app store replica region d there at some =
    let cached : IsSome (slice_get (caches d) replica) =
    subst (λ (found : Option StoreDef). IsSome (option_and_then (λ s. slice_get (caches s) replica) found)) there some in
    ap (option_and_then (λ s. slice_get (caches s) replica)) there ∙ ap (λ (gs : List ℕ). slice_get gs replica) (all_cached d replica cached) ∙ at
