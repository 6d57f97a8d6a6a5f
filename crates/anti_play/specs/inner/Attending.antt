-- How an agenda attends to a trace: whoever may make an entry is awake.
use Rattle.std.specs.Prelude.{◌≡◌, ℕ, ◌<◌, ◌⊎◌, true, cond, List, [], length, Option, None, Some, IsSome, option_and_then, slice_get, Result, Ok, MatchResult, Bool}
use Rattle.std.specs.Option.{option_map_or}
use Rattle.anti_ids.specs.declared.memory.NoMemory.{NoMemory}
use Rattle.anti_kind.specs.declared.asking.Asking.{Asking}
use Rattle.anti_kind.specs.declared.awaited.Awaited.{Awaited}
use Rattle.anti_kind.specs.declared.awaited.Awaited.TheVariants.{Version, Writing}
use Rattle.anti_kind.specs.declared.entry.Entry.{Entry}
use Rattle.anti_kind.specs.Caches.{stale}
use Rattle.anti_kind.specs.Kinds.{facts_of}
use Rattle.anti_kind.specs.Objects.{Start}
use Rattle.anti_kind.specs.Shipments.{next_ship}
use Rattle.anti_kind.specs.Waiting.{waits}
use Rattle.anti_app.specs.declared.app.App.{App}
use Rattle.anti_app.specs.declared.app.StoreDef.{StoreDef}
use Rattle.anti_app.specs.declared.app.Choice.TheVariants as choices
use Rattle.anti_app.specs.Objects.{object_count}
use Rattle.anti_object.specs.Starts.{start_of}
use Rattle.anti_proc.specs.Births.{birth_at, births}
use Rattle.anti_trace.specs.Traces.{entries_on, put}
use Rattle.anti_trace.specs.inner.Living.{WasFull}
use Rattle.anti_agenda.specs.Agendas.{IsAsleep, IsAwake, IsIdle, SameRest}
use Rattle.anti_agenda.specs.declared.agenda.Agenda.{Agenda}
use Rattle.anti_agenda.specs.declared.offer.Offer.{Offer}
use Rattle.anti_agenda.specs.declared.offer.Offer.TheVariants.{Go, Take, Pull, Ship, Again}
use Rattle.anti_play.specs.declared.world.World.{World}
use Rattle.anti_play.specs.Schedule.{asked, made_at, next_call, take_of}
use Rattle.anti_play.specs.inner.Finishing.{WentOn, next_again, next_shipped}
use Rattle.anti_play.specs.inner.Standing.{Chose, WorldStands}

-- ---- what an offer stands for

-- the birth at a place among those at an object
abbrev pub birth_in : List Entry → ℕ → ℕ → Option Entry
birth_in trace object at = slice_get (births (entries_on object trace)) at

-- the regions of a store's replicas, and of those that have a cache: all of them, or none
abbrev pub replicas : StoreDef → List ℕ
replicas s = s.replicas.items

abbrev pub caches : StoreDef → List ℕ
caches s = cond (facts_of s.kind).cached s.replicas.items []

-- the region at a place among these
abbrev pub region_in : (StoreDef → List ℕ) → App → ℕ → ℕ → Option ℕ
region_in regions app store place = option_and_then (λ s. slice_get (regions s) place) (slice_get app.stores.items store)

abbrev pub region_at : App → ℕ → ℕ → Option ℕ
region_at app store replica = region_in replicas app store replica

abbrev pub cache_at : App → ℕ → ℕ → Option ℕ
cache_at app store replica = region_in caches app store replica

-- there is such a process, service, subscription, replica or cache
abbrev pub IsOffer : App → List Entry → Offer → Type 0
IsOffer app trace (Go object at) = (object < object_count app) × IsSome (birth_in trace object at)
IsOffer app trace (Take service) = service < length app.services.items
IsOffer app trace (Pull sub) = sub < length app.subs.items
IsOffer app trace (Ship store replica) = IsSome (region_at app store replica)
IsOffer app trace (Again store replica) = IsSome (cache_at app store replica)

-- the call that it asks for, but for shipments
abbrev pub asked_by_offer : App → List Entry → Offer → Option Asking
asked_by_offer app trace (Go object at) = option_and_then (λ e. next_call app trace (birth_at e)) (birth_in trace object at)
asked_by_offer app trace (Take service) = asked app trace (take_of service)
asked_by_offer app trace (Pull sub) = asked app trace (choices.Pull sub)
asked_by_offer app trace (Ship store replica) = None
asked_by_offer app trace (Again store replica) = option_and_then (next_again app trace store) (cache_at app store replica)

-- the entry that it makes
abbrev pub entry_by_offer : App → List Entry → Offer → Option Entry
entry_by_offer app trace (Ship store replica) = option_and_then (next_shipped app trace store) (region_at app store replica)
entry_by_offer app trace offer = option_and_then (made_at app trace) (asked_by_offer app trace offer)

-- ---- why it makes none

-- its call waits for this, at this object; on a route nothing is left to be shipped before something is written; and no cache of a region
-- is behind before something is shipped there
pub record CallWaits (app : App) (trace : List Entry) (object : ℕ) (awaited : Awaited) (q : Asking) : Type 0 where
  pub at : q.object ≡ object
  pub start : Start
  pub there : start_of app object ≡ Some start
  pub call_waits : waits start (entries_on object trace) q.call awaited ≡ true

pub record RouteWaits (app : App) (trace : List Entry) (object : ℕ) (awaited : Awaited) (store replica : ℕ) : Type 0 where
  pub at : store ≡ object
  pub awaits : awaited ≡ Writing
  pub region : ℕ
  pub to : region_at app store replica ≡ Some region
  pub start : Start
  pub there : start_of app store ≡ Some start
  pub none : next_ship start (entries_on store trace) region ≡ None

pub record CacheWaits (app : App) (trace : List Entry) (object : ℕ) (awaited : Awaited) (store replica : ℕ) : Type 0 where
  pub at : store ≡ object
  pub region : ℕ
  pub to : cache_at app store replica ≡ Some region
  pub awaits : awaited ≡ Version region 0
  pub start : Start
  pub there : start_of app store ≡ Some start
  pub none : stale start (entries_on store trace) region ≡ None

abbrev pub OfferWaits : App → List Entry → ℕ → Awaited → Offer → Type 0
OfferWaits app trace object awaited (Ship store replica) = RouteWaits app trace object awaited store replica
OfferWaits app trace object awaited (Again store replica) = CacheWaits app trace object awaited store replica
OfferWaits app trace object awaited offer =
    (q : Asking) × (asked_by_offer app trace offer ≡ Some q) × CallWaits app trace object awaited q

-- It asks for no call, as who has ended, or for one that was ready and did not fit: so it never makes an entry. What goes to a replica
-- may make one later, always.
abbrev pub IsPast : App → List Entry → Offer → Type 0
IsPast app trace (Ship store replica) = ⊥
IsPast app trace (Again store replica) = ⊥
IsPast app trace offer = (q : Asking) → asked_by_offer app trace offer ≡ Some q → WasFull app trace q.object q.call

-- ---- the agenda

-- it is awake, or sleeps until what it waits for is brought; it is idle and makes no entry; or it is past
abbrev pub IsMinded : App → List Entry → Agenda → Offer → Type 0
IsMinded app trace agenda offer =
    IsAwake agenda offer
    ⊎ (((object : ℕ) × (awaited : Awaited) × IsAsleep agenda object awaited offer × OfferWaits app trace object awaited offer)
    ⊎ ((IsIdle agenda offer × (entry_by_offer app trace offer ≡ None)) ⊎ IsPast app trace offer))

-- all offers of the trace are minded, and no others are named
pub record Attends (app : App) (trace : List Entry) (agenda : Agenda) : Type 0 where
  pub each : (offer : Offer) → IsOffer app trace offer → IsMinded app trace agenda offer
  pub awake : (offer : Offer) → IsAwake agenda offer → IsOffer app trace offer
  pub asleep : (object : ℕ) (awaited : Awaited) (offer : Offer) → IsAsleep agenda object awaited offer → IsOffer app trace offer
  pub idle : (offer : Offer) → IsIdle agenda offer → IsOffer app trace offer

-- the agenda attends to the trace for which the world stands
pub record IsAttended (app : App) (w : World) (agenda : Agenda) : Type 0 where
  pub trace : List Entry
  pub stands : WorldStands app w trace
  pub attends : Attends app trace agenda

-- ---- how it is filled

-- it is the next call of a process that was born at the object
abbrev pub IsGoAt : List Entry → ℕ → Offer → Type 0
IsGoAt trace object offer = (at : ℕ) × (offer ≡ Go object at) × IsSome (birth_in trace object at)

-- it goes to a replica of a store
abbrev pub IsRoute : Offer → Type 0
IsRoute (Ship store replica) = Unit {0}
IsRoute (Again store replica) = Unit {0}
IsRoute offer = ⊥

-- it goes from the store to one of these regions; as a shipment, or so that a cache is not behind
abbrev pub IsTo : (ℕ → ℕ → Offer) → (StoreDef → List ℕ) → App → ℕ → Offer → Type 0
IsTo to regions app store offer = (place : ℕ) × (offer ≡ to store place) × IsSome (region_in regions app store place)

abbrev pub IsRouteOf : App → ℕ → Offer → Type 0
IsRouteOf app store offer = IsTo Ship replicas app store offer

abbrev pub IsCacheOf : App → ℕ → Offer → Type 0
IsCacheOf app store offer = IsTo Again caches app store offer

-- it is one of these, of which each has a number, and its number is below this one
abbrev pub Below : (ℕ → Offer → Type 0) → ℕ → Offer → Type 0
Below Numbered count offer = (number : ℕ) × (number < count) × Numbered number offer

-- it is the next call of a process, the first free delivery of a service, the next pull of a subscription, a shipment of a store, or what
-- comes again to one of its caches
abbrev pub IsGo : App → List Entry → Offer → Type 0
IsGo app trace offer = Below (IsGoAt trace) (object_count app) offer

abbrev pub IsTake : App → Offer → Type 0
IsTake app offer = Below (λ service other. other ≡ Take service) (length app.services.items) offer

abbrev pub IsPull : App → Offer → Type 0
IsPull app offer = Below (λ sub other. other ≡ Pull sub) (length app.subs.items) offer

abbrev pub IsShip : App → Offer → Type 0
IsShip app offer = Below (IsRouteOf app) (length app.stores.items) offer

abbrev pub IsAgain : App → Offer → Type 0
IsAgain app offer = Below (IsCacheOf app) (length app.stores.items) offer

-- These are awake, with those that were, and no others; but those that are past may be left out.
pub record Wakes (app : App) (trace : List Entry) (Named : Offer → Type 0) (old new : Agenda) : Type 0 where
  pub each : (offer : Offer) → Named offer → IsAwake new offer ⊎ IsPast app trace offer
  pub still : (offer : Offer) → IsAwake old offer → IsAwake new offer
  pub from : (offer : Offer) → IsAwake new offer → Named offer ⊎ IsAwake old offer
  pub rest : SameRest old new

-- none is left out
pub record WakesAll (Named : Offer → Type 0) (old new : Agenda) : Type 0 where
  pub each : (offer : Offer) → Named offer → IsAwake new offer
  pub still : (offer : Offer) → IsAwake old offer → IsAwake new offer
  pub from : (offer : Offer) → IsAwake new offer → Named offer ⊎ IsAwake old offer
  pub rest : SameRest old new

-- ---- what came of an offer

abbrev pub with_entry : Option Entry → List Entry → List Entry
with_entry made trace = option_map_or (λ e. put e trace) made trace

-- The entry was made, or none. There may be no memory for the agenda behind an entry that was made: then the world stands for a trace that goes on.
abbrev pub Turned : App → List Entry → Option Entry → Result Bool NoMemory → World → Type 0
Turned app trace entry result w = MatchResult result (λ made. Chose app trace entry (Ok made) w) (λ _. WentOn app trace w)
