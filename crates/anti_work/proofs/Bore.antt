-- What a worker knows behind a try at a call by which a process is born.
use Rattle.std.proofs.Common.{◌≡◌, ℕ, ◌<◌, ◌≤◌, ◌++◌, true, List, [], ◌∷◌, length, inl, inr, refl, sym, ap, subst, append-nil, arith}
use Rattle.std.specs.Prelude.{All, None}
use Rattle.std.proofs.lemmas.List.Elements.{All-push}
use Rattle.anti_kind.specs.declared.actor.Actor.TheVariants.{Newborn, Process as Acting}
use Rattle.anti_kind.specs.declared.asking.Asking.{Asking}
use Rattle.anti_kind.specs.declared.call.Call.{Call}
use Rattle.anti_kind.specs.declared.call.Reply.{Reply}
use Rattle.anti_kind.specs.declared.entry.Entry.{Entry}
use Rattle.anti_kind.specs.declared.port.Answer.TheVariants.{Made, Refused}
use Rattle.anti_kind.specs.declared.refusal.Refusal.{Refusal}
use Rattle.anti_kind.specs.Objects.{last_stamp}
use Rattle.anti_app.specs.declared.app.App.{App}
use Rattle.anti_app.specs.Objects.{object_count}
use Rattle.anti_proc.specs.declared.process.Process.{Process}
use Rattle.anti_proc.specs.Tasks.{task_of}
use Rattle.anti_proc.specs.inner.Standing.{full_of}
use Rattle.anti_trace.specs.Legal.{bears}
use Rattle.anti_trace.specs.declared.processes.AtObject.{AtObject}
use Rattle.anti_trace.specs.inner.Living.{AreProcessesOf, Changes, IsNewOf, born_at, lists}
use Rattle.anti_trace.proofs.Changed.{changes_then}
use Rattle.anti_trace.proofs.Followed.{born_are}
use Rattle.anti_trace.proofs.Living.{decide}
use Rattle.anti_play.specs.Schedule.{bearing}
use Rattle.anti_work.specs.declared.worker.Worker.{Worker}
use Rattle.anti_work.specs.inner.Knowing.{IsAskedBy, KnowsCalls}
use Rattle.anti_work.specs.inner.Tries.{BearsOwn, HasBorn}
use Rattle.anti_work.specs.inner.Working.{IsRefusedAt, Stays, StoppedAt, WorkerStands}
use Rattle.anti_work.proofs.Asked.{made_entry, made_knows, newborn_did, newborn_none}
use Rattle.anti_work.proofs.Composed.{refused_past, stays_itself, stays_refused}
use Rattle.anti_work.proofs.OneMore.{gets_more, ours_more, stands_more}

-- ---- a process that was added

pub has_born : (app : App) (e : Entry) (ps ms ns : List AtObject) (p : Process) → IsNewOf app e p → Changes ps ms e.object (born_at ps e.object)
    → Changes ms ns e.object (born_at ms e.object ++ p ∷ []) → HasBorn app e ps ns
has_born app e ps ms ns p new room put = record {
  process = p;
  new = new;
  changes = changes_then ps ms ns e.object (born_at ps e.object ++ p ∷ []) room
      (subst (λ (here : List Process). Changes ms ns e.object (here ++ p ∷ [])) room.here_are put);
}

-- ---- the try

module _ (app : App) (w : Worker) (calls : List Entry) (stands : WorkerStands app w calls) (object : ℕ) (call : Call) where
  abbrev q : Asking
  q = bearing calls object call

  -- no call was made
  pub bear_refused : (new : Worker) (refusal : Refusal) → IsAskedBy w.passes.items new.passes.items q (Refused refusal) → new.number ≡ w.number
      → lists new.processes ≡ lists w.processes → new.clock ≡ w.clock → new.routes.items ≡ w.routes.items → Stays app w new calls × IsRefusedAt app new calls q
  bear_refused new refusal asked number same clock routes = stays_refused app w new calls stands number same clock routes q refusal asked

  -- nor at an object that is not there
  pub bear_past : object_count app ≤ object → Stays app w w calls × IsRefusedAt app w calls q
  bear_past past = (stays_itself app w calls stands, refused_past app w calls q past)

  -- it was made
  module _ (bearing_is : bears call ≡ true) (new : Worker) (place stamp : ℕ) (reply : Reply)
      (asked : IsAskedBy w.passes.items new.passes.items q (Made place stamp reply)) (number : new.number ≡ w.number) where
    abbrev e : Entry
    e = made_entry app w.number w.passes.items new.passes.items calls stands.knows q place stamp reply asked

    abbrev more : List Entry
    more = calls ++ e ∷ []

    -- The entry that the code has, which has no seat and a copy of the call. It starts the same process.
    abbrev told : Call → Entry
    told again = record {
      stamp = stamp;
      object = object;
      place = place;
      seat = 0;
      actor = Acting (record { object = object; place = place });
      span = 1;
      call = again;
      reply = reply;
    }

    knows : KnowsCalls app w.number new.passes.items more
    knows = made_knows app w.number w.passes.items new.passes.items calls stands.knows q place stamp reply asked
        (sym (ap last_stamp (stands.knows.work.actors Newborn)))
        (λ n carrier. absurd (cc))
        (newborn_did app w.number w.passes.items new.passes.items calls stands.knows q place stamp reply asked refl bearing_is refl)

    -- it starts nothing
    pub bore_stops : BearsOwn app w.number object call → (again : Call) → again ≡ call → task_of app (told again) ≡ None
        → (all : List Entry) × StoppedAt app new (calls ++ all)
    bore_stops own again same none = (
      [],
      subst (StoppedAt app new) (sym (append-nil calls)) (record {
        entry = e;
        knows = subst (λ (n : ℕ). KnowsCalls app n new.passes.items more) (sym number) knows;
        ours = ours_more app w new calls e stands number (λ bears_it. own e refl refl);
        foreign = inl (bearing_is, subst (λ (c : Call). task_of app (told c) ≡ None) same none);
      }),
    )

    module _ (own : BearsOwn app w.number object call) (again : Call) (same : again ≡ call) (born : HasBorn app (told again) (lists w.processes) (lists new.processes))
        (clock_same : new.clock ≡ w.clock) (routes_same : new.routes.items ≡ w.routes.items) where
      its : IsNewOf app (told call) born.process
      its = subst (λ (c : Call). IsNewOf app (told c) born.process) same born.new

      is_new : IsNewOf app e born.process
      is_new = record { run = its.run; tree = its.tree; clock = its.clock; birth = its.birth; role = its.role; full = its.full }

      processes : AreProcessesOf app (lists new.processes) more
      processes = born_are app (lists w.processes) calls more stands.processes e (gets_more app calls e) (lists new.processes) born.process refl
          (newborn_none app w.number w.passes.items new.passes.items calls stands.knows q place stamp reply asked) is_new born.changes

      go_on : (o : ℕ) → All (λ x. full_of x ≡ None) (born_at (lists new.processes) o)
      go_on o =
          elim (decide object o) as (λ _. All (λ x. full_of x ≡ None) (born_at (lists new.processes) o)) [
            | inl here ↦ subst (λ (k : ℕ). All (λ x. full_of x ≡ None) (born_at (lists new.processes) k)) here
                (subst (All (λ x. full_of x ≡ None)) (sym born.changes.here_are)
                (All-push (λ x. full_of x ≡ None) (born_at (lists w.processes) object) born.process (stands.go object) its.full))
            | inr other ↦ subst (All (λ x. full_of x ≡ None)) (sym (born.changes.others o other)) (stands.go o)
          ]

      -- it stands for one call more
      pub bore_stands : (all : List Entry) × WorkerStands app new (calls ++ all)
      bore_stands = (e ∷ [], stands_more app w new calls e stands number (λ carrier. absurd (cc)) knows processes go_on (λ bears_it. own e refl refl) clock_same routes_same)

-- the objects of a worker's passes, and its processes at each of them
pub object_within : (app : App) (w : Worker) (calls : List Entry) (many object : ℕ) → WorkerStands app w calls → length w.passes.items ≡ many → object < many
    → object < length (lists w.processes)
object_within app w calls many object stands count low = omega (arith, low, count, stands.knows.are.count, stands.processes.count)
