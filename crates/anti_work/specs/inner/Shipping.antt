-- What a worker notes of the first parts that its carrier ships.
use Rattle.std.specs.Prelude.{◌≡◌, ℕ, ◌<◌, ◌≤◌, ◌↔◌, ◌⊎◌, ◌==◌, List, length, Option, None, Some, slice_get, if◌then◌else◌}
use Rattle.std.specs.List.{Contains}
use Rattle.anti_kind.specs.declared.call.Call.{Call}
use Rattle.anti_kind.specs.declared.call.Call.TheVariants.{Ship}
use Rattle.anti_work.specs.declared.worker.Route.{Route}

-- the region and the version whose first part a call ships
abbrev pub first_part : Call → Option (ℕ × ℕ)
first_part (Ship region version part) = if part == 1 then Some (region, version) else None
first_part _ = None

-- the first part of the version was shipped, as far as the route tells
abbrev pub HasShipped : Route → ℕ → Type 0
HasShipped route v = (v < route.next) ⊎ ((route.next < v) × Contains route.ahead.items v)

-- the route tells of one version more that its first part was shipped
pub record HasNoted (version : ℕ) (old new : Route) : Type 0 where
  pub store : new.store ≡ old.store
  pub region : new.region ≡ old.region
  pub some : old.next ≤ new.next
  pub has : (v : ℕ) → HasShipped new v ↔ (HasShipped old v ⊎ (v ≡ version))

-- Behind the first version that was not shipped, which now was, the route has come so far, and has these ahead.
pub record GoesUp (old : Route) (next : ℕ) (ahead : List ℕ) : Type 0 where
  pub some : old.next ≤ next
  pub has : (v : ℕ) → ((v < next) ⊎ Contains ahead v) ↔ (HasShipped old v ⊎ (v ≡ old.next))

-- it does so where it goes from the store to the region, else it stays
abbrev pub IsRouteOf : ℕ → ℕ → Route → Type 0
IsRouteOf store region route = (route.store ≡ store) × (route.region ≡ region)

abbrev pub HasNotedAt : ℕ → ℕ → ℕ → Route → Route → Type 0
HasNotedAt store region version old new =
    (IsRouteOf store region old × HasNoted version old new) ⊎ ((IsRouteOf store region old → ⊥) × (new ≡ old))

-- the first routes of these did, and the others are as before
abbrev pub FirstHaveNoted : ℕ → ℕ → ℕ → ℕ → List Route → List Route → Type 0
FirstHaveNoted n store region version old new =
    (length new ≡ length old)
    × ((i : ℕ) (was is : Route) → slice_get old i ≡ Some was → slice_get new i ≡ Some is
    → (i < n → HasNotedAt store region version was is) × (n ≤ i → is ≡ was))

-- all routes did, where a first part was shipped
abbrev pub HaveNoted : ℕ → Option (ℕ × ℕ) → List Route → List Route → Type 0
HaveNoted store None old new = new ≡ old
HaveNoted store (Some (region, version)) old new = FirstHaveNoted (length old) store region version old new
