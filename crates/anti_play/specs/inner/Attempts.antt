-- What comes of an offer that is tried, or of the first that makes an entry.
use Rattle.std.specs.Prelude.{◌≡◌, ℕ, ◌<◌, Bool, false, List, length, Option, Some, IsTrue, Result, Ok, OnOk}
use Rattle.std.specs.BTreeSet.{keys}
use Rattle.anti_ids.specs.declared.memory.NoMemory.{NoMemory}
use Rattle.anti_kind.specs.declared.entry.Entry.{Entry}
use Rattle.anti_app.specs.declared.app.App.{App}
use Rattle.anti_app.specs.Sound.{is_sound}
use Rattle.anti_agenda.specs.declared.agenda.Agenda.{Agenda}
use Rattle.anti_agenda.specs.declared.offer.Offer.{Offer}
use Rattle.anti_agenda.specs.declared.offer.Offer.TheVariants.{Ship, Again}
use Rattle.anti_play.specs.declared.world.World.{World}
use Rattle.anti_play.specs.inner.Attending.{Attends, Turned, cache_at, entry_by_offer, region_at, with_entry}
use Rattle.anti_play.specs.inner.Standing.{WorldStands}

-- the entry of an offer, by the trace
abbrev pub made_by : App → Offer → List Entry → Option Entry
made_by app offer trace = entry_by_offer app trace offer

-- An entry was tried to be made that goes by the trace: it was made, or none;
abbrev pub MakesEntry : App → World → Agenda → (List Entry → Option Entry) → Result Bool NoMemory → World → Type 0
MakesEntry app w agenda entry result n =
    (trace : List Entry) → WorldStands app w trace → Attends app trace agenda → Turned app trace (entry trace) result n

-- the agenda attends to the trace with it;
abbrev pub AttendsBehind : App → World → Agenda → (List Entry → Option Entry) → Result Bool NoMemory → Agenda → Type 0
AttendsBehind app w old entry result new =
    (trace : List Entry) → WorldStands app w trace → Attends app trace old → OnOk result (Attends app (with_entry (entry trace) trace) new)

-- and fewer offers are awake, where none was made.
abbrev pub HasFewer : Agenda → Result Bool NoMemory → Agenda → Type 0
HasFewer old result new = result ≡ Ok false → length (keys new.awake) < length (keys old.awake)

-- the offer is to ship from a store to a region
pub record IsRouteTo (app : App) (offer : Offer) (store region : ℕ) : Type 0 where
  pub sound : IsTrue (is_sound app)
  pub replica : ℕ
  pub is : offer ≡ Ship store replica
  pub to : region_at app store replica ≡ Some region

-- the offer is what comes again from a store to a region that has a cache
pub record IsCacheTo (app : App) (offer : Offer) (store region : ℕ) : Type 0 where
  pub sound : IsTrue (is_sound app)
  pub replica : ℕ
  pub is : offer ≡ Again store replica
  pub to : cache_at app store replica ≡ Some region
