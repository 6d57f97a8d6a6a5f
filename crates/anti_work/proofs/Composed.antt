-- How tries compose: what comes of one and then of another.
use Rattle.std.proofs.Common.{◌≡◌, ◌≤◌, ℕ, ◌||◌, ◌++◌, Bool, true, false, List, refl, sym, ap, ◌∙◌, subst, arith, append_assoc}
use Rattle.std.specs.Prelude.{All, IfSome, None, Ok, Err}
use Rattle.anti_kind.specs.declared.actor.Actor.TheVariants.{Carrier}
use Rattle.anti_kind.specs.declared.asking.Asking.{Asking}
use Rattle.anti_kind.specs.declared.entry.Entry.{Entry}
use Rattle.anti_kind.specs.declared.port.Answer.TheVariants.{Refused}
use Rattle.anti_kind.specs.declared.refusal.Refusal.{Refusal}
use Rattle.anti_kind.specs.Objects.{last_stamp}
use Rattle.anti_app.specs.declared.app.App.{App}
use Rattle.anti_app.specs.Objects.{object_count}
use Rattle.anti_object.specs.Starts.{start_of}
use Rattle.anti_object.proofs.Starts.{start_past}
use Rattle.anti_proc.specs.Tasks.{role_of}
use Rattle.anti_proc.specs.inner.Standing.{full_of}
use Rattle.anti_trace.specs.Legal.{bears}
use Rattle.anti_trace.specs.Traces.{entries_by}
use Rattle.anti_trace.specs.declared.processes.AtObject.{AtObject}
use Rattle.anti_trace.specs.inner.Living.{AreProcessesOf, born_at, lists}
use Rattle.anti_work.specs.declared.worker.Stop.{Stop}
use Rattle.anti_work.specs.declared.worker.Stop.TheVariants as stops
use Rattle.anti_work.specs.declared.worker.Worker.{Worker}
use Rattle.anti_work.specs.Workers.{worker_at}
use Rattle.anti_work.specs.inner.Knowing.{IsAskedBy, IsUsedAt, KnowsCalls}
use Rattle.anti_work.specs.inner.Working.{ComesOf, IsRefusedAt, RouteStands, Stays, StoppedAt, WorkerStands}
use Rattle.anti_work.proofs.Asked.{kept_knows, none_made, refused_stay, was_refused}

-- ---- a worker that stays

-- one of which nothing was asked
pub stays_itself : (app : App) (w : Worker) (calls : List Entry) → WorkerStands app w calls → Stays app w w calls
stays_itself app w calls stands = record { stands = stands; processes = refl; refused = λ q was. was }

-- and one that stays twice
pub stays_then : (app : App) (a b c : Worker) (calls : List Entry) → Stays app a b calls → Stays app b c calls → Stays app a c calls
stays_then app a b c calls first second = record {
  stands = second.stands;
  processes = second.processes ∙ first.processes;
  refused = λ q was. second.refused q (first.refused q was);
}

-- one of which a pass was used for no call: all but its passes is as it was
module _ (app : App) (old new : Worker) (calls : List Entry) (stands : WorkerStands app old calls) (number : new.number ≡ old.number)
    (processes : lists new.processes ≡ lists old.processes) (clock : new.clock ≡ old.clock) (routes : new.routes.items ≡ old.routes.items) where
  pub stays_used : (object : ℕ) (used : IsUsedAt old.passes.items new.passes.items object) → used.after.mine ≡ used.pass.mine → Stays app old new calls
  stays_used object used kept = record {
    stands = record {
      knows = subst (λ (n : ℕ). KnowsCalls app n new.passes.items calls) (sym number)
          (kept_knows app old.number old.passes.items new.passes.items calls stands.knows object used kept);
      processes = subst (λ (all : List AtObject). AreProcessesOf app all calls) (sym processes) stands.processes;
      go = subst (λ (all : List AtObject). (o : ℕ) → All (λ p. full_of p ≡ None) (born_at all o)) (sym processes) stands.go;
      clock = clock ∙ stands.clock ∙ ap (λ (n : ℕ). last_stamp (entries_by (Carrier n) calls)) (sym number);
      ours = subst (λ (n : ℕ). All (λ e. bears e.call ≡ true → IfSome (role_of app e) (λ role. worker_at app role.service ≡ n)) calls) (sym number) stands.ours;
      routes = subst (λ (n : ℕ). All (RouteStands n calls) new.routes.items) (sym number) (subst (All (RouteStands old.number calls)) (sym routes) stands.routes);
    };
    processes = processes;
    refused = refused_stay app old.number old.passes.items new.passes.items calls stands.knows object used kept;
  }

  -- where it asked for a call in vain, that was refused with all of its calls
  pub stays_refused : (q : Asking) (refusal : Refusal) → IsAskedBy old.passes.items new.passes.items q (Refused refusal) → Stays app old new calls × IsRefusedAt app new calls q
  stays_refused q refusal asked = (
    stays_used q.object asked.used (none_made app old.number old.passes.items new.passes.items calls stands.knows q refusal asked),
    λ start there. was_refused app old.number old.passes.items new.passes.items calls stands.knows q refusal asked,
  )

-- what was refused stays so
pub still_refused : (app : App) (old new : Worker) (calls : List Entry) → Stays app old new calls → (q : Asking) → IsRefusedAt app old calls q → IsRefusedAt app new calls q
still_refused app old new calls stays q refused start there = stays.refused q (refused start there)

-- all is refused by an object that is not there
pub refused_past : (app : App) (w : Worker) (calls : List Entry) (q : Asking) → object_count app ≤ q.object → IsRefusedAt app w calls q
refused_past app w calls q past start there = absurd (let none : start_of app q.object ≡ None = start_past app q.object (omega (arith, past)) in cc)

-- ---- two tries

-- One try made b of the worker a, and another made c of it. What each refused is told by the worker that it left, and for the second by the
-- calls that were made by then.
module _ (app : App) (a b c : Worker) (calls : List Entry) (First Refused : Type 0) (Second : List Entry → Type 0) where
  -- Both went on: where neither made a call, what both refused must say what is refused.
  pub comes_then : (first second : Bool) → ComesOf app a b calls First (Ok first)
      → ((now : List Entry) → WorkerStands app b now → ComesOf app b c now (Second now) (Ok second))
      → (Stays app a b calls → Stays app b c calls → First → Second calls → Refused)
      → ComesOf app a c calls Refused (Ok (first || second))
  comes_then true true was then adds =
      let came = then (calls ++ was.0) was.1 in
      (was.0 ++ came.0, subst (WorkerStands app c) (append_assoc calls was.0 came.0) came.1)
  comes_then true false was then adds = let came = then (calls ++ was.0) was.1 in (was.0, came.0.stands)
  comes_then false true was then adds = then calls was.0.stands
  comes_then false false was then adds =
      let came = then calls was.0.stands in
      (stays_then app a b c calls was.0 came.0, adds was.0 came.0 was.1 came.1)

  -- the second stopped
  pub stops_then : (first : Bool) (stop : Stop) → ComesOf app a b calls First (Ok first)
      → ((now : List Entry) → WorkerStands app b now → ComesOf app b c now (Second now) (Err stop)) → ComesOf app a c calls Refused (Err stop)
  stops_then true stops.Foreign was then =
      let came = then (calls ++ was.0) was.1 in
      (was.0 ++ came.0, subst (StoppedAt app c) (append_assoc calls was.0 came.0) came.1)
  stops_then false stops.Foreign was then = then calls was.0.stands
  stops_then first stops.NoMemory was then = tt
