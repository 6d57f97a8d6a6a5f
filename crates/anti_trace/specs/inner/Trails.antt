-- What processes carried into their reads, looks and posts: of each object, in the order of its history.
use Rattle.std.specs.Prelude.{◌≡◌, ℕ, ◌<◌, nat_lt, Bool, true, false, List, [], ◌∷◌, ◌++◌, length, map, slice_get, vec_len, vec_capacity, Option, None, Some, if◌then◌else◌}
use Rattle.std.specs.List.{filter}
use Rattle.std.specs.Option.{option_map_or}
use Rattle.anti_ids.specs.declared.id.WriteId.{WriteId}
use Rattle.anti_kind.specs.declared.call.Call.{Call}
use Rattle.anti_kind.specs.declared.call.Call.TheVariants as calls
use Rattle.anti_kind.specs.declared.entry.Entry.{Entry}
use Rattle.anti_app.specs.declared.app.App.{App}
use Rattle.anti_app.specs.Objects.{object_count}
use Rattle.anti_proc.specs.Meaning.{process_after}
use Rattle.anti_proc.specs.Trees.{Ask, ask_of}
use Rattle.anti_trace.specs.Ends.{ends_of}
use Rattle.anti_trace.specs.Legal.{IsLegalTrace}
use Rattle.anti_trace.specs.Traces.{entries_by, entries_on}
use Rattle.anti_trace.specs.declared.aftermath.Aftermath.{Aftermath}
use Rattle.anti_trace.specs.declared.aftermath.Going.{Going}
use Rattle.anti_trace.specs.declared.trail.OnObject.{OnObject}
use Rattle.anti_trace.specs.declared.trail.Trail.{Trail}
use Rattle.anti_trace.specs.inner.Living.{AreProcessesOf, lists}

-- ---- what was carried

-- whether what is carried into a call is kept: into a read, a look and a post
abbrev pub leaves_trail : Call → Bool
leaves_trail (calls.Read region key) = true
leaves_trail (calls.Scan region prefix) = true
leaves_trail (calls.Poll region key) = true
leaves_trail (calls.Look region ids dry) = true
leaves_trail (calls.Post m) = true
leaves_trail _ = false

-- what the actor of an entry did before it: its entries with lesser stamps, since in a legal trace the stamps of an actor rise
abbrev pub own_before : List Entry → Entry → List Entry
own_before trace e = filter (λ d. nat_lt d.stamp e.stamp) (entries_by e.actor trace)

-- the lineage that its process carried into an entry
abbrev pub carried_into : App → List Entry → Entry → List WriteId
carried_into app trace e = option_map_or (λ ask. ask.carried) (ask_of (process_after app (own_before trace e))) []

-- what was carried into the entries of an object that leave a trail
abbrev pub trail_on : App → List Entry → ℕ → List (List WriteId)
trail_on app trace o = map (carried_into app trace) (filter (λ e. leaves_trail e.call) (entries_on o trace))

-- what a process carries into what it asks for, where this leaves a trail
abbrev pub footprint : Option Ask → Option (List WriteId)
footprint None = None
footprint (Some ask) = if leaves_trail ask.call then Some ask.carried else None

-- and where the trail is kept
abbrev pub footprint_in : Trail → Option Ask → Option (List WriteId)
footprint_in t asked = if t.is_kept then footprint asked else None

-- ---- trails

-- what a trail holds of an object: nothing of one that is not there
abbrev pub carried_in : Option OnObject → List (List WriteId)
carried_in None = []
carried_in (Some here) = here.carried.items

abbrev pub trail_at : Trail → ℕ → List (List WriteId)
trail_at t o = carried_in (slice_get t.at.items o)

-- the trail of a trace
pub record IsTrailOf (app : App) (trace : List Entry) (t : Trail) : Type 0 where
  pub kept : t.is_kept ≡ true
  pub count : length t.at.items ≡ object_count app
  pub each : (o : ℕ) → trail_at t o ≡ trail_on app trace o

-- the same, where it is kept
pub record IsTrailIfKept (app : App) (trace : List Entry) (t : Trail) : Type 0 where
  pub count : length t.at.items ≡ object_count app
  pub trail : t.is_kept ≡ true → IsTrailOf app trace t

-- so many objects, of which nothing is held
pub record IsBare (count : ℕ) (all : List OnObject) : Type 0 where
  pub many : length all ≡ count
  pub none : (o : ℕ) → carried_in (slice_get all o) ≡ []

-- the trail of one object has become this
pub record TrailBecomes (before after : Trail) (o : ℕ) (here : List (List WriteId)) : Type 0 where
  pub kept : after.is_kept ≡ before.is_kept
  pub count : length after.at.items ≡ length before.at.items
  pub here_is : trail_at after o ≡ here
  pub others : (k : ℕ) → (o ≡ k → ⊥) → trail_at after k ≡ trail_at before k

-- what stood in it, and a footprint behind that
abbrev pub with_footprint : List (List WriteId) → Option (List WriteId) → List (List WriteId)
with_footprint here None = here
with_footprint here (Some ids) = here ++ ids ∷ []

-- there is room for one lineage more at an object
abbrev pub has_room : Option OnObject → Type 0
has_room None = ⊥
has_room (Some here) = vec_len here.carried < vec_capacity here.carried

abbrev pub HasRoomAt : Trail → ℕ → Type 0
HasRoomAt t o = has_room (slice_get t.at.items o)

-- ---- with the processes

-- the processes stand for the trace, and the trail, if it is to be kept, is what they left
pub record HasGone (app : App) (is_kept : Bool) (trace : List Entry) (g : Going) : Type 0 where
  pub processes : AreProcessesOf app (lists g.processes) trace
  pub trail : IsTrailIfKept app trace g.trail
  pub kept : g.trail.is_kept ≡ is_kept

-- the entry is the next of a legal trace, and they have gone past all before it
pub record IsNextIn (app : App) (g : Going) (e : Entry) : Type 0 where
  pub before : List Entry
  pub after : List Entry
  pub legal : IsLegalTrace app (before ++ e ∷ after)
  pub is_kept : Bool
  pub gone : HasGone app is_kept before g

-- how the processes of the trace ended, and the trail that they left, where it is kept
pub record IsAftermathOf (app : App) (trace : List Entry) (after : Aftermath) : Type 0 where
  pub ends : after.ends.items ≡ ends_of app trace
  pub trail : IsTrailIfKept app trace after.trail
