-- What stays known of a worker when one call more was made.
use Rattle.std.proofs.Common.{◌≡◌, ℕ, ◌<◌, ◌++◌, ◌==◌, true, List, [], ◌∷◌, refl, sym, ap, ◌∙◌, subst, arith}
use Rattle.std.specs.Prelude.{All, AllPairs, Option, None, Some, IfSome, slice_get}
use Rattle.std.proofs.lemmas.List.Elements.{All-push}
use Rattle.std.proofs.lemmas.List.Kept.{AllPairs-filter}
use Rattle.anti_kind.specs.declared.actor.Actor.TheVariants.{Carrier}
use Rattle.anti_kind.specs.declared.entry.Entry.{Entry}
use Rattle.anti_kind.specs.Objects.{Start, last_stamp}
use Rattle.anti_kind.proofs.Histories.{Placed, placed}
use Rattle.anti_app.specs.declared.app.App.{App}
use Rattle.anti_object.specs.declared.object.Object.{Object}
use Rattle.anti_object.specs.Standing.{object_start}
use Rattle.anti_proc.specs.Tasks.{role_of}
use Rattle.anti_shared.specs.Passes.{IsPass, LegalFrom, PassView, seat_of, start_of}
use Rattle.anti_proc.specs.inner.Standing.{full_of}
use Rattle.anti_trace.specs.Legal.{bears}
use Rattle.anti_trace.specs.Traces.{entries_by}
use Rattle.anti_trace.specs.inner.Living.{AreProcessesOf, Gets, born_at, lists}
use Rattle.anti_trace.proofs.GonePast.{entries_on_next, entries_on_past}
use Rattle.anti_work.specs.declared.worker.Worker.{Worker}
use Rattle.anti_work.specs.Workers.{worker_at}
use Rattle.anti_work.specs.inner.Knowing.{ArePasses, KnowsCalls, mine_at, mine_of}
use Rattle.anti_work.specs.inner.Working.{RouteStands, WorkerStands}
use Rattle.anti_work.proofs.Grown.{entries_by_next, entries_by_past}
use Rattle.anti_work.proofs.Routes.{routes_kept}

-- the list of its calls gets it at its end
pub gets_more : (app : App) (calls : List Entry) (e : Entry) → Gets app calls (calls ++ e ∷ []) e
gets_more app calls e = record {
  grows = record { here = entries_on_next calls e; others = λ o other. entries_on_past o calls e other };
  own = entries_by_next calls e;
  others = λ a other. entries_by_past a calls e other;
}

-- ---- the worker

-- each process that it started is its own
pub ours_more : (app : App) (old new : Worker) (calls : List Entry) (e : Entry) → WorkerStands app old calls → new.number ≡ old.number
    → (bears e.call ≡ true → IfSome (role_of app e) (λ role. worker_at app role.service ≡ old.number))
    → All (λ x. bears x.call ≡ true → IfSome (role_of app x) (λ role. worker_at app role.service ≡ new.number)) (calls ++ e ∷ [])
ours_more app old new calls e stands number own =
    subst (λ (n : ℕ). All (λ x. bears x.call ≡ true → IfSome (role_of app x) (λ role. worker_at app role.service ≡ n)) (calls ++ e ∷ [])) (sym number)
    (All-push (λ x. bears x.call ≡ true → IfSome (role_of app x) (λ role. worker_at app role.service ≡ old.number)) calls e stands.ours own)

-- Its call is none of its carrier: its clock as one and its routes stay.
pub stands_more : (app : App) (old new : Worker) (calls : List Entry) (e : Entry) → WorkerStands app old calls → new.number ≡ old.number → (e.actor ≡ Carrier old.number → ⊥)
    → KnowsCalls app old.number new.passes.items (calls ++ e ∷ []) → AreProcessesOf app (lists new.processes) (calls ++ e ∷ [])
    → ((o : ℕ) → All (λ p. full_of p ≡ None) (born_at (lists new.processes) o))
    → (bears e.call ≡ true → IfSome (role_of app e) (λ role. worker_at app role.service ≡ old.number))
    → new.clock ≡ old.clock → new.routes.items ≡ old.routes.items → WorkerStands app new (calls ++ e ∷ [])
stands_more app old new calls e stands number other knows processes go own clock routes = record {
  knows = subst (λ (n : ℕ). KnowsCalls app n new.passes.items (calls ++ e ∷ [])) (sym number) knows;
  processes = processes;
  go = go;
  clock = clock ∙ stands.clock ∙ sym (ap last_stamp (entries_by_past (Carrier old.number) calls e other))
      ∙ ap (λ (n : ℕ). last_stamp (entries_by (Carrier n) (calls ++ e ∷ []))) (sym number);
  ours = ours_more app old new calls e stands number own;
  routes = subst (λ (n : ℕ). All (RouteStands n (calls ++ e ∷ [])) new.routes.items) (sym number)
      (subst (All (RouteStands old.number (calls ++ e ∷ []))) (sym routes)
      (routes_kept old.number calls old.routes.items e (λ store region v first. other first.1) stands.routes));
}

-- ---- the places of the calls that a pass made

abbrev pub Ascend : List Entry → Type 0
Ascend h = AllPairs (λ d e. d.place < e.place) h

seen_ascend : (start : Option Start) (h : List Entry) → LegalFrom start h → Ascend h
seen_ascend None h legal = absurd legal
seen_ascend (Some start) h legal = λ i j d less short.
    let its : Placed h = placed start h legal in
    let one = its i d (omega arith) in
    let two = its j d short in omega arith

pass_ascends : (pass : PassView Object) → IsPass object_start pass → Ascend pass.mine
pass_ascends pass knows =
    subst Ascend (sym knows.mine_is)
    (AllPairs-filter (λ (d e : Entry). d.place < e.place) (λ x. seat_of x == pass.number) pass.seen (seen_ascend (start_of object_start pass.id) pass.seen knows.legal))

pub mine_ascend : (app : App) (all : List (PassView Object)) (o : ℕ) → ArePasses app all → Ascend (mine_at all o)
mine_ascend app all o are = by_pass (slice_get all o) refl
  where
    by_pass : (its : Option (PassView Object)) → slice_get all o ≡ its → Ascend (mine_at all o)
    by_pass None is = subst Ascend (sym (ap mine_of is)) (λ i j d less short. absurd (omega arith))
    by_pass (Some pass) is = subst Ascend (sym (ap mine_of is)) (pass_ascends pass (are.each o pass is).knows)
