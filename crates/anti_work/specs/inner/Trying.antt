-- Whose processes a worker starts, and what it had tried when it ended.
use Rattle.std.specs.Prelude.{◌≡◌, ℕ, ◌<◌, true, List, length, All, Some, IfSome, slice_get}
use Rattle.std.specs.List.{Contains}
use Rattle.anti_kind.specs.declared.actor.Actor.TheVariants.{Carrier}
use Rattle.anti_kind.specs.declared.actor.Birth.{Birth}
use Rattle.anti_kind.specs.declared.asking.Asking.{Asking}
use Rattle.anti_kind.specs.declared.call.Call.TheVariants.{Pull, Ship, Take}
use Rattle.anti_kind.specs.declared.entry.Entry.{Entry}
use Rattle.anti_kind.specs.Objects.{Start}
use Rattle.anti_app.specs.declared.app.App.{App}
use Rattle.anti_app.specs.declared.app.StoreDef.{StoreDef}
use Rattle.anti_app.specs.declared.app.SubDef.{SubDef}
use Rattle.anti_app.specs.Objects.{inbox_number}
use Rattle.anti_app.specs.Subs.{position_on}
use Rattle.anti_object.specs.Starts.{start_of}
use Rattle.anti_object.specs.declared.object.Object.{Object}
use Rattle.anti_proc.specs.Tasks.{role_of}
use Rattle.anti_shared.specs.Passes.{PassView}
use Rattle.anti_trace.specs.Legal.{bears}
use Rattle.anti_trace.specs.Traces.{entries_on}
use Rattle.anti_play.specs.Schedule.{asking_at, bearing, next_call}
use Rattle.anti_work.specs.Workers.{IsNextVersion, worker_at}
use Rattle.anti_work.specs.inner.Knowing.{WasRefused}

-- Each process that the worker of a number started runs a handler of a service that was dealt to it.
abbrev pub StartItsOwn : App → ℕ → List Entry → Type 0
StartItsOwn app number calls = All (λ e. bears e.call ≡ true → IfSome (role_of app e) (λ role. worker_at app role.service ≡ number)) calls

-- What is asked was refused, where its object is there.
abbrev pub IsRefusedBy : App → List (PassView Object) → List Entry → Asking → Type 0
IsRefusedBy app passes calls q = (start : Start) → start_of app q.object ≡ Some start → WasRefused app passes calls q

-- All that the worker of a number tries was refused, as far as it knows by its passes and its calls.
pub record AllRefused (app : App) (number : ℕ) (passes : List (PassView Object)) (calls : List Entry) : Type 0 where
  pub processes : (b : Birth) (q : Asking) → next_call app calls b ≡ Some q → IsRefusedBy app passes calls q
  pub takes : (s : ℕ) → s < length app.services.items → worker_at app s ≡ number
      → IsRefusedBy app passes calls (bearing calls (inbox_number app s) (Take 1))
  pub pulls : (n : ℕ) (sub : SubDef) → slice_get app.subs.items n ≡ Some sub → worker_at app sub.service ≡ number
      → IsRefusedBy app passes calls (bearing calls sub.store (Pull (position_on app sub.store n)))
  pub ships : (o : ℕ) (s : StoreDef) (region version : ℕ) → slice_get app.stores.items o ≡ Some s → worker_at app o ≡ number
      → Contains s.replicas.items region → IsNextVersion number region (entries_on o calls) version
      → IsRefusedBy app passes calls (asking_at calls o (Carrier number) 0 (Ship region version 1))
