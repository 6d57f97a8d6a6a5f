-- How far a region has everything, and which shipment to it comes next.
use Rattle.std.specs.Prelude.{ℕ, List, map, Option, find, flat_map, None, ◌≤◌, Bool, true, false}
use Rattle.std.specs.List.{prefix_len}
use Rattle.anti_ids.specs.declared.limits.TheConstants.{MOST_TRIES}
use Rattle.anti_kind.specs.declared.entry.Entry.{Entry}
use Rattle.anti_kind.specs.declared.store_kind.StoreKind.{StoreKind}
use Rattle.anti_kind.specs.Stored.{rows, is_whole, parts}
use Rattle.anti_kind.specs.declared.row.Row.{Row}
use Rattle.anti_kind.specs.Store.{Store, can_ship}
use Rattle.anti_kind.specs.Objects.{Start, store, inbox}
use Rattle.anti_kind.specs.declared.call.Call.{Call}
use Rattle.anti_kind.specs.declared.call.Call.TheVariants.{Ship}

-- How far a region has everything: how many versions, from the first on, are whole there.
abbrev pub upto_of : StoreKind → List Entry → ℕ → ℕ
upto_of kind h g = prefix_len (is_whole kind h g) (rows h)

-- the shipments of a row, by version and part, ascending by part
abbrev pub shipment : ℕ → ℕ → ℕ × ℕ
shipment v p = (v, p)

abbrev pub shipments : StoreKind → Row → List (ℕ × ℕ)
shipments kind r = map (shipment r.version) (parts kind r)

-- the first shipment to g that can be made, ascending by version and part
abbrev pub next_shipment : Store → List Entry → ℕ → Option (ℕ × ℕ)
next_shipment s h g = find (λ x. can_ship s h g x.0 x.1) (flat_map (shipments s.kind) (rows h))

-- how far a region has everything: how many versions, from the first on, are whole there
abbrev pub upto : Start → List Entry → ℕ → ℕ
upto (store s) h g = upto_of s.kind h g
upto (inbox requests) h g = 0

-- the next shipment to a region, its version and its part
abbrev pub next_ship : Start → List Entry → ℕ → Option (ℕ × ℕ)
next_ship (store s) h g = next_shipment s h g
next_ship (inbox requests) h g = None

-- how many times a message may be handed out, where messages are tried
abbrev pub AreTries : Bool → ℕ → Type 0
AreTries true tries = (1 ≤ tries) × (tries ≤ MOST_TRIES)
AreTries false tries = Unit {0}

abbrev pub IsShip : Call → Type 0
IsShip (Ship region version part) = Unit {0}
IsShip _ = ⊥
