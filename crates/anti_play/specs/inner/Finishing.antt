-- What is made while a world finishes.
use Rattle.std.specs.Prelude.{ℕ, List, [], Option, option_and_then, option_map}
use Rattle.std.specs.Option.{option_map_or}
use Rattle.anti_kind.specs.declared.asking.Asking.{Asking}
use Rattle.anti_kind.specs.declared.call.Call.TheVariants as calls
use Rattle.anti_kind.specs.declared.entry.Entry.{Entry}
use Rattle.anti_kind.specs.Caches.{stale}
use Rattle.anti_kind.specs.Shipments.{next_ship}
use Rattle.anti_app.specs.declared.app.App.{App}
use Rattle.anti_app.specs.declared.app.Choice.{Choice}
use Rattle.anti_object.specs.Starts.{start_of}
use Rattle.anti_trace.specs.Traces.{entries_on}
use Rattle.anti_play.specs.declared.world.World.{World}
use Rattle.anti_play.specs.Schedule.{agains_at, carrying, made_at, ships_at}
use Rattle.anti_trace.specs.Histories.{GoesOn}
use Rattle.anti_play.specs.inner.Standing.{WorldStands}

-- the world stands for a trace that goes on from this one
pub record WentOn (app : App) (trace : List Entry) (w : World) : Type 0 where
  pub after : List Entry
  pub stands : WorldStands app w after
  pub goes_on : GoesOn trace after

-- the shipments of one store, to each of its replicas
abbrev pub ships_from : App → List Entry → ℕ → List Choice
ships_from app trace o = option_map_or (ships_at o (entries_on o trace)) (start_of app o) []

-- the entry of a shipment, which has a version and a part
abbrev pub shipped : App → List Entry → ℕ → ℕ → ℕ × ℕ → Option Entry
shipped app trace o region part = made_at app trace (carrying trace o (calls.Ship region part.0 part.1))

-- the entry of the shipment that is the next from an object to a region
abbrev pub next_shipped : App → List Entry → ℕ → ℕ → Option Entry
next_shipped app trace o region =
    option_and_then (shipped app trace o region) (option_and_then (λ start. next_ship start (entries_on o trace) region) (start_of app o))

-- what comes again to one store, to each of its replicas
abbrev pub agains_from : App → List Entry → ℕ → List Choice
agains_from app trace o = option_map_or (agains_at o (entries_on o trace)) (start_of app o) []

-- the version that is to come again next from an object to a region, and the call for it
abbrev pub stale_at : App → List Entry → ℕ → ℕ → Option ℕ
stale_at app trace o region = option_and_then (λ start. stale start (entries_on o trace) region) (start_of app o)

abbrev pub next_again : App → List Entry → ℕ → ℕ → Option Asking
next_again app trace o region = option_map (λ version. carrying trace o (calls.Again region version 1)) (stale_at app trace o region)
