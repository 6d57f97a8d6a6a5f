-- What it means that nothing is left to make, said of the processes, the inboxes and the stores themselves.
use Rattle.std.specs.Prelude.{◌≡◌, ℕ, ◌⊎◌, true, false, List, [], All, Some, IsTrue}
use Rattle.anti_kind.specs.declared.actor.Birth.{Birth}
use Rattle.anti_kind.specs.declared.asking.Asking.{Asking}
use Rattle.anti_kind.specs.declared.call.Call.TheVariants as calls
use Rattle.anti_kind.specs.declared.call.Call.TheVariants.{Again}
use Rattle.anti_kind.specs.declared.entry.Entry.{Entry}
use Rattle.anti_kind.specs.declared.message.Message.{Message}
use Rattle.anti_kind.specs.Inbox.{free}
use Rattle.anti_kind.specs.Objects.{Start, store, inbox, ready, fits}
use Rattle.anti_kind.specs.Store.{Store}
use Rattle.anti_kind.specs.Stored.{rows, is_whole, shows_of}
use Rattle.anti_kind.specs.Kinds.{facts_of}
use Rattle.anti_kind.specs.Caches.{cache, is_behind}
use Rattle.anti_app.specs.declared.app.App.{App}
use Rattle.anti_object.specs.Starts.{start_of}
use Rattle.anti_trace.specs.Traces.{entries_on}
use Rattle.anti_play.specs.Schedule.{next_call, pulling_at}

-- At its object the call that is asked is not ready, or it does not fit.
abbrev pub IsBlocked : App → List Entry → Asking → Type 0
IsBlocked app trace q =
    (start : Start) → start_of app q.object ≡ Some start
    → (ready start (entries_on q.object trace) q.call ≡ false) ⊎ (fits start (entries_on q.object trace) q.call ≡ false)

-- each write that a store has in its history has arrived, with all its parts, at each of its replicas
abbrev pub IsEverywhere : Store → List Entry → Type 0
IsEverywhere s h = All (λ region. All (λ r. IsTrue (is_whole s.kind h region r)) (rows h)) s.regions

-- where a key in a region's cache is behind what is whole there, there is no room for what would come again
abbrev pub IsRefreshed : Store → List Entry → Type 0
IsRefreshed s h =
    All (λ region.
    All (λ pair. is_behind s.kind h region pair ≡ true → fits (store s) h (Again region (shows_of s.kind h region pair.0) 1) ≡ false)
    (cache s.kind s.room h region)) s.regions

-- No process can go on, no message waits to be taken or can be pulled, no write is on its way, and no cache is behind that could be
-- refreshed.
pub record IsOver (app : App) (trace : List Entry) : Type 0 where
  -- a process that has a next call cannot make it
  pub processes : (b : Birth) (q : Asking) → next_call app trace b ≡ Some q → IsBlocked app trace q
  -- no delivery of an inbox is free: each message that was delivered was taken
  pub deliveries : (o : ℕ) (requests : List Message) → start_of app o ≡ Some (inbox requests) → free requests (entries_on o trace) ≡ []
  -- a subscription cannot pull: its store has nothing for it, or no room for the pull
  pub pulls : (number : ℕ) (q : Asking) → pulling_at app trace calls.Pull number ≡ Some q → IsBlocked app trace q
  -- what was written to a store is whole at each of its replicas
  pub shipments : (o : ℕ) (s : Store) → start_of app o ≡ Some (store s) → IsEverywhere s (entries_on o trace)
  -- a cache of a store that has caches is not behind, or the store has no room
  pub caches : (o : ℕ) (s : Store) → start_of app o ≡ Some (store s) → (facts_of s.kind).cached ≡ true → IsRefreshed s (entries_on o trace)
