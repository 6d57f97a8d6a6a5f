-- The run that an application's choices make: each makes one entry or none, but `finish` makes all that can still be made.
use Rattle.std.specs.Prelude.{ℕ, ◌+◌, ◌*◌, max, suc, zero, ◌&&◌, List, [], ◌∷◌, ◌++◌, length, map, flat_map, Option, None, Some, slice_get, option_map, option_and_then, unwrap_or, if◌then◌else◌}
use Rattle.std.specs.List.{range_with_len}
use Rattle.std.specs.Option.{option_or, option_map_or}
use Rattle.anti_ids.specs.declared.limits.TheConstants.{MOST_UNITS}
use Rattle.anti_kind.specs.declared.row.Row.{Row}
use Rattle.anti_kind.specs.declared.store_kind.StoreKind.{StoreKind}
use Rattle.anti_kind.specs.Caches.{stale}
use Rattle.anti_kind.specs.Stored.{rows, parts}
use Rattle.anti_kind.specs.declared.asking.Asking.{Asking}
use Rattle.anti_kind.specs.declared.actor.Actor.{Actor}
use Rattle.anti_kind.specs.declared.actor.Actor.TheVariants.{Carrier, Process, Newborn}
use Rattle.anti_kind.specs.declared.actor.Birth.{Birth}
use Rattle.anti_kind.specs.declared.call.Call.{Call}
use Rattle.anti_kind.specs.declared.call.Call.TheVariants as calls
use Rattle.anti_kind.specs.declared.entry.Entry.{Entry}
use Rattle.anti_kind.specs.Objects.{Start, store, inbox, ready, due, fits, last_stamp}
use Rattle.anti_kind.specs.Entries.{entry_of}
use Rattle.anti_app.specs.declared.app.App.{App}
use Rattle.anti_app.specs.declared.app.SubDef.{SubDef}
use Rattle.anti_app.specs.declared.app.Choice.{Choice}
use Rattle.anti_app.specs.declared.app.Choice.TheVariants.{Take, Repost, Pull, Repull, Ship, Again, Go, Finish}
use Rattle.anti_app.specs.Subs.{position_on}
use Rattle.anti_object.specs.Starts.{start_of}
use Rattle.anti_trace.specs.Traces.{entries_on, entries_by, put}
use Rattle.anti_proc.specs.Trees.{Want, Make, Over, want_of}
use Rattle.anti_proc.specs.Births.{births}
use Rattle.anti_app.specs.Objects.{inbox_number, object_count}
use Rattle.anti_proc.specs.Meaning.{process_after}

-- What a choice asks for.

-- the last stamp of an actor
abbrev pub clock_of : Actor → List Entry → ℕ
clock_of Newborn trace = 0
clock_of actor trace = last_stamp (entries_by actor trace)

-- A call of an actor at an object, in a span. What the actor did last in the trace is its clock.
abbrev pub asking_at : List Entry → ℕ → Actor → ℕ → Call → Asking
asking_at trace object actor span call = record { object = object; actor = actor; span = span; clock = clock_of actor trace; call = call }

abbrev pub asked_by : List Entry → Birth → Want → Option Asking
asked_by trace birth (Make object span call) = Some (asking_at trace object (Process birth) span call)
asked_by trace birth (Over end) = None

-- The next call of a process, by its entries in the trace; none of a process that is not there or has ended.
abbrev pub next_call : App → List Entry → Birth → Option Asking
next_call app trace birth = asked_by trace birth (want_of (process_after app (entries_by (Process birth) trace)))

-- A call by which a process is born: it is the first of its process, in its first span.
abbrev pub bearing : List Entry → ℕ → Call → Asking
bearing trace object call = asking_at trace object Newborn 1 call

-- A carrier asks at an object, in no span.
abbrev pub carrying : List Entry → ℕ → Call → Asking
carrying trace object call = asking_at trace object (Carrier 0) 0 call

-- A pull is made at the store of the subscription, where this goes by its position among those of the store.
abbrev pub pulling : App → List Entry → (ℕ → Call) → ℕ → SubDef → Asking
pulling app trace call number sub = bearing trace sub.store (call (position_on app sub.store number))

abbrev pub pulling_at : App → List Entry → (ℕ → Call) → ℕ → Option Asking
pulling_at app trace call number = option_map (pulling app trace call number) (slice_get app.subs.items number)

-- A part that is not given is the first.
abbrev pub asked : App → List Entry → Choice → Option Asking
asked app trace (Take service nth) = Some (bearing trace (inbox_number app service) (calls.Take nth))
asked app trace (Repost service number) = Some (carrying trace (inbox_number app service) (calls.Repost number))
asked app trace (Pull sub) = pulling_at app trace calls.Pull sub
asked app trace (Repull sub version) = pulling_at app trace (λ position. calls.Repull position version) sub
asked app trace (Ship store_number region version part) = Some (carrying trace store_number (calls.Ship region version (unwrap_or part 1)))
asked app trace (Again store_number region version part) = Some (carrying trace store_number (calls.Again region version (unwrap_or part 1)))
asked app trace (Go object place) = next_call app trace (record { object = object; place = place })
asked app trace Finish = None

-- The entry that it makes.

-- The entry of what is asked, behind the history of its object: at the next place, with the stamp after the two clocks, the asker's
-- and the object's, and with the reply that the call is due. No pass makes it.
abbrev pub next_entry : Start → List Entry → Asking → Entry
next_entry start history q = entry_of q 0 (length history + 1) (max q.clock (last_stamp history) + 1) (due start history q.call)

-- an entry is made where the call is ready and fits
abbrev pub made : Start → List Entry → Asking → Option Entry
made start history q = if ready start history q.call && fits start history q.call then Some (next_entry start history q) else None

abbrev pub made_at : App → List Entry → Asking → Option Entry
made_at app trace q = option_and_then (λ start. made start (entries_on q.object trace) q) (start_of app q.object)

abbrev pub chosen : App → List Entry → Choice → Option Entry
chosen app trace choice = option_and_then (made_at app trace) (asked app trace choice)

-- What `finish` tries, in this order.

-- the numbers of the objects: first the stores, then the inboxes of the services
abbrev pub objects : App → List ℕ
objects app = range_with_len 0 (object_count app)

-- the next call of the process that an entry started
abbrev pub go_of : Entry → Choice
go_of birth = Go birth.object birth.place

-- of each process, ascending by the object and the place of its birth
abbrev pub goes : App → List Entry → List Choice
goes app trace = flat_map (λ o. map go_of (births (entries_on o trace))) (objects app)

-- the first free delivery of a service
abbrev pub take_of : ℕ → Choice
take_of service = Take service 1

-- of each service, in their order
abbrev pub takes : App → List Choice
takes app = map take_of (range_with_len 0 (length app.services.items))

-- the next pull of each subscription, in the order of the document
abbrev pub pulls : App → List Choice
pulls app = map Pull (range_with_len 0 (length app.subs.items))

-- the shipments of a row to a region: one for each of its parts
abbrev pub ships_of : StoreKind → ℕ → ℕ → Row → List Choice
ships_of kind o region r = map (λ part. Ship o region r.version (Some part)) (parts kind r)

-- of all that was written, ascending by version and part
abbrev pub ships_to : StoreKind → ℕ → List Entry → ℕ → List Choice
ships_to kind o history region = flat_map (ships_of kind o region) (rows history)

-- to each replica of a store, in their order
abbrev pub ships_at : ℕ → List Entry → Start → List Choice
ships_at o history (store s) = flat_map (ships_to s.kind o history) s.regions
ships_at o history (inbox requests) = []

-- of each store, in their order
abbrev pub ships : App → List Entry → List Choice
ships app trace = flat_map (λ o. option_map_or (ships_at o (entries_on o trace)) (start_of app o) []) (range_with_len 0 (length app.stores.items))

-- what comes again to a region: its first part, and so what is whole of the first key that is behind in the region's cache
abbrev pub again_of : ℕ → ℕ → ℕ → Choice
again_of o region version = Again o region version (Some 1)

-- none where nothing is behind
abbrev pub agains_to : ℕ → List Entry → Start → ℕ → List Choice
agains_to o history start region = option_map_or (λ version. again_of o region version ∷ []) (stale start history region) []

-- to each replica of a store, in their order
abbrev pub agains_at : ℕ → List Entry → Start → List Choice
agains_at o history (store s) = flat_map (agains_to o history (store s)) s.regions
agains_at o history (inbox requests) = []

-- of each store, in their order
abbrev pub agains : App → List Entry → List Choice
agains app trace = flat_map (λ o. option_map_or (agains_at o (entries_on o trace)) (start_of app o) []) (range_with_len 0 (length app.stores.items))

-- all of them
abbrev pub offers : App → List Entry → List Choice
offers app trace = goes app trace ++ (takes app ++ (pulls app ++ (ships app trace ++ agains app trace)))

-- What `finish` makes: the first of them that makes an entry makes it, again and again, until none makes one.

-- the first entry that there is for one of some items
abbrev pub first_of : {T : Type 0} → (T → Option Entry) → List T → Option Entry
first_of entry [] = None
first_of entry (x ∷ later) = option_or (entry x) (first_of entry later)

abbrev pub first_made : App → List Entry → Option Entry
first_made app trace = first_of (chosen app trace) (offers app trace)

-- the trace after so many turns, or after fewer, where then none is left to make
unfoldable pub after_turns : ℕ → App → List Entry → List Entry
after_turns zero app trace = trace
after_turns (suc more) app trace = option_map_or (λ e. after_turns more app (put e trace)) (first_made app trace) trace

-- Each turn adds an entry, and no object has more entries than units. So that many turns are enough.
unfoldable pub finished : App → List Entry → List Entry
finished app trace = after_turns (object_count app * MOST_UNITS) app trace

-- The run of all choices: what each makes is put into the trace at its place, and one that makes nothing is a wait. The choice
-- `finish` is never a wait.

-- a trace, and the numbers of the choices that were waits
pub record Run : Type 0 where
  pub trace : List Entry
  pub waits : List ℕ

abbrev pub turned : Run → ℕ → Option Entry → Run
turned run number None = record { trace = run.trace; waits = run.waits ++ number ∷ [] }
turned run number (Some e) = record { trace = put e run.trace; waits = run.waits }

abbrev pub stepped : App → Run → ℕ → Choice → Run
stepped app run number Finish = record { trace = finished app run.trace; waits = run.waits }
stepped app run number choice = turned run number (chosen app run.trace choice)

-- the choices from a number on
abbrev pub run_from : App → Run → ℕ → List Choice → Run
run_from app run number [] = run
run_from app run number (choice ∷ choices) = run_from app (stepped app run number choice) (suc number) choices

-- choices are counted from 1
abbrev pub played : App → Run
played app = run_from app (record { trace = []; waits = [] }) 1 app.choices.items

abbrev pub trace_of : App → List Entry
trace_of app = (played app).trace

abbrev pub waits_of : App → List ℕ
waits_of app = (played app).waits
