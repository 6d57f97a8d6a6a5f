-- The tries of a worker: at the next call of one of its processes, at a call that bears one, and at a call of its carrier.
use Rattle.std.specs.Prelude.{◌≡◌, ℕ, List, [], ◌∷◌, ◌++◌, None, Some, IfSome, slice_get}
use Rattle.anti_kind.specs.declared.actor.Actor.TheVariants.{Process as Acting}
use Rattle.anti_kind.specs.declared.asking.Asking.{Asking}
use Rattle.anti_kind.specs.declared.call.Call.{Call}
use Rattle.anti_kind.specs.declared.call.Reply.{Reply}
use Rattle.anti_kind.specs.declared.entry.Entry.{Entry}
use Rattle.anti_app.specs.declared.app.App.{App}
use Rattle.anti_proc.specs.declared.process.Process.{Process}
use Rattle.anti_proc.specs.declared.run.Advance.{Advance}
use Rattle.anti_proc.specs.Tasks.{role_of}
use Rattle.anti_proc.specs.Trees.{Make, branch, want_of}
use Rattle.anti_proc.specs.inner.Running.{IsAdvanceOf, IsRunOf}
use Rattle.anti_proc.specs.inner.Standing.{advanced, birth_of, clock_of, full_by, full_of, process_of}
use Rattle.anti_trace.specs.declared.processes.AtObject.{AtObject}
use Rattle.anti_trace.specs.inner.Living.{Becomes, Changes, IsNewOf, TakesOver, born_at, lists}
use Rattle.anti_play.specs.Schedule.{next_call}
use Rattle.anti_work.specs.declared.worker.Worker.{Worker}
use Rattle.anti_work.specs.Workers.{worker_at}
use Rattle.anti_work.specs.inner.Working.{IsRefusedAt, WorkerStands}

-- it is a worker of the application
abbrev pub IsWorkerOf : App → Worker → Type 0
IsWorkerOf app w = (calls : List Entry) × WorkerStands app w calls

-- ---- the next call of a process

-- the process asks for this, with its own clock
pub record AsksFor (q : Asking) (p : Process) : Type 0 where
  pub actor : q.actor ≡ Acting (birth_of p)
  pub clock : q.clock ≡ clock_of p
  pub wants : (app : App) → want_of (process_of app p) ≡ Make q.object q.span q.call

-- it may be given a reply
pub record MayFeed (app : App) (p : Process) : Type 0 where
  pub run : IsRunOf app p
  pub going : full_of p ≡ None

-- one process of an object has taken over what a reply made of it, with the stamp of the entry
pub record IsFed (app : App) (stamp : ℕ) (reply : Reply) (before after : List AtObject) (o i : ℕ) : Type 0 where
  pub advance : Advance
  pub becomes : Becomes (TakesOver stamp advance) before after o i
  pub goes : advanced app becomes.old advance ≡ branch (process_of app becomes.old) reply
  pub spans : IsAdvanceOf app becomes.old advance
  pub full : full_by advance ≡ full_of becomes.old

-- the next call of the process at an index of those that were born at an object was refused
abbrev pub IsGoRefused : App → Worker → List Entry → ℕ → ℕ → Type 0
IsGoRefused app w calls object at =
    (p : Process) → slice_get (born_at (lists w.processes) object) at ≡ Some p
    → (q : Asking) → next_call app calls (birth_of p) ≡ Some q → IsRefusedAt app w calls q

-- ---- a call that bears a process

-- what is born by this call at an object runs a handler of a service that was dealt to the worker of a number
abbrev pub BearsOwn : App → ℕ → ℕ → Call → Type 0
BearsOwn app number object call =
    (e : Entry) → e.object ≡ object → e.call ≡ call → IfSome (role_of app e) (λ role. worker_at app role.service ≡ number)

-- the process that an entry starts stands behind those that were born at its object before
pub record HasBorn (app : App) (e : Entry) (before after : List AtObject) : Type 0 where
  pub process : Process
  pub new : IsNewOf app e process
  pub changes : Changes before after e.object (born_at before e.object ++ process ∷ [])
