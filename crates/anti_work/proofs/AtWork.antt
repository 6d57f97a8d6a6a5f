-- A worker from its start to the end of its rounds.
use Rattle.std.proofs.Common.{◌≡◌, ℕ, ◌+◌, ◌<◌, ◌≤◌, ◌++◌, Bool, true, false, List, [], ◌∷◌, length, map, refl, sym, ap, ◌∙◌, subst, inl, inr, arith}
use Rattle.std.specs.Prelude.{All, IfSome, None, Some, Ok, Err, slice_get}
use Rattle.std.specs.List.{Contains}
use Rattle.std.proofs.lemmas.List.{map-append}
use Rattle.std.proofs.lemmas.List.Elements.{All-nil, All-push, All-weaker, Contains-append_left, Contains-push}
use Rattle.std.proofs.lemmas.Option.{slice_get_within}
use Rattle.anti_kind.specs.declared.entry.Entry.{Entry}
use Rattle.anti_app.specs.declared.app.App.{App}
use Rattle.anti_app.specs.declared.app.StoreDef.{StoreDef}
use Rattle.anti_app.specs.Objects.{object_count}
use Rattle.anti_object.specs.declared.object.Object.{Object}
use Rattle.anti_proc.specs.Tasks.{role_of}
use Rattle.anti_proc.specs.inner.Standing.{full_of}
use Rattle.anti_shared.specs.Passes.{PassView, SharedView}
use Rattle.anti_trace.specs.Legal.{bears}
use Rattle.anti_trace.specs.inner.Living.{NoneBorn, lists}
use Rattle.anti_trace.proofs.Living.{decide}
use Rattle.anti_trace.proofs.NoneBorn.{none_are}
use Rattle.anti_work.specs.declared.done.Done.{Done}
use Rattle.anti_work.specs.declared.start.Start.{Start}
use Rattle.anti_work.specs.declared.worker.Route.{Route}
use Rattle.anti_work.specs.declared.worker.Stop.TheVariants as stops
use Rattle.anti_work.specs.declared.worker.Worker.{Worker}
use Rattle.anti_work.specs.Workers.{ShipsFirst, worker_at}
use Rattle.anti_work.specs.inner.Knowing.{AreOf, KnowsCalls}
use Rattle.anti_work.specs.inner.Rounds.{AreNewRoutes, Comes, HasAdded, HasRoute, HasRoutes, HasRoutesTo, IsAtWork, IsNewRoute, IsNewWorker, ends_of}
use Rattle.anti_work.specs.inner.Starting.{HasWorked, MayWork}
use Rattle.anti_work.specs.inner.Trying.{AllRefused, StartItsOwn}
use Rattle.anti_work.specs.inner.Working.{ComesOf, RouteStands, Stays, StoppedAt}
use Rattle.anti_work.proofs.Loops.{stands_there}
use Rattle.anti_work.proofs.Many.{still_worker}

-- ---- the routes

-- of none of these regions
pub none_added : (store : ℕ) (regions : List ℕ) (routes : List Route) → HasAdded store regions 0 routes routes
none_added store regions routes = record { kept = λ ends among. among; added = λ i region low is. absurd (omega arith); fresh = λ all. all }

pub one_added : (store : ℕ) (regions : List ℕ) (count region : ℕ) (old mid new : List Route) → HasAdded store regions count old mid → slice_get regions count ≡ Some region
    → HasRoute store region mid new → HasAdded store regions (count + 1) old new
one_added store regions count region old mid new has there one =
    let whole : map ends_of new ≡ map ends_of mid ++ (store, region) ∷ [] =
    ap (map ends_of) one.is ∙ map-append ends_of mid (one.route ∷ []) ∙ ap (λ (x : ℕ × ℕ). map ends_of mid ++ x ∷ []) one.ends in
    let still : (ends : ℕ × ℕ) → Contains (map ends_of mid) ends → Contains (map ends_of new) ends =
    λ ends among. subst (λ (all : List (ℕ × ℕ)). Contains all ends) (sym whole) (Contains-append_left (map ends_of mid) ((store, region) ∷ []) ends among) in
    record {
      kept = λ ends among. still ends (has.kept ends among);
      added = λ i r low is.
          elim (decide count i) as (λ _. Contains (map ends_of new) (store, r)) [
            | inl same ↦
                let both : Some region ≡ Some r = sym there ∙ ap (slice_get regions) same ∙ is in
                let one_region : region ≡ r = cc in
                subst (λ (all : List (ℕ × ℕ)). Contains all (store, r)) (sym whole)
                (subst (λ (k : ℕ). Contains (map ends_of mid ++ (store, k) ∷ []) (store, r)) (sym one_region) (Contains-push (map ends_of mid) (store, r)))
            | inr other ↦ still (store, r) (has.added i r (omega arith) is)
          ];
      fresh = λ all. subst (All IsNewRoute) (sym one.is) (All-push IsNewRoute mid one.route (has.fresh all) one.fresh);
    }

-- to all of them
pub all_added : (store : ℕ) (regions : List ℕ) (count : ℕ) (old new : List Route) → HasAdded store regions count old new → length regions ≤ count
    → HasAdded store regions (length regions) old new
all_added store regions count old new has past = record { kept = has.kept; added = λ i region low is. has.added i region (omega arith) is; fresh = has.fresh }

-- of no store
pub no_store : (app : App) (number : ℕ) → HasRoutesTo app number 0 []
no_store app number = record { has = λ o s region low is dealt among. absurd (omega arith); fresh = All-nil IsNewRoute }

-- of a store that was not dealt to the worker
pub not_dealt : (app : App) (number count : ℕ) (routes : List Route) → HasRoutesTo app number count routes → (worker_at app count ≡ number → ⊥) → HasRoutesTo app number (count + 1) routes
not_dealt app number count routes to other = record {
  has = λ o s region low is dealt among.
      elim (decide count o) as (λ _. Contains (map ends_of routes) (o, region)) [
        | inl same ↦ absurd (other (ap (worker_at app) same ∙ dealt))
        | inr before ↦ to.has o s region (omega arith) is dealt among
      ];
  fresh = to.fresh;
}

-- and of one that was
pub dealt_one : (app : App) (number count : ℕ) (stated : StoreDef) (old new : List Route) → HasRoutesTo app number count old → slice_get app.stores.items count ≡ Some stated
    → HasAdded count stated.replicas.items (length stated.replicas.items) old new → HasRoutesTo app number (count + 1) new
dealt_one app number count stated old new to there added = record {
  has = λ o s region low is dealt among.
      elim (decide count o) as (λ _. Contains (map ends_of new) (o, region)) [
        | inl same ↦
            let here : slice_get app.stores.items o ≡ Some stated = subst (λ (k : ℕ). slice_get app.stores.items k ≡ Some stated) same there in
            let one : stated ≡ s = (let both : Some stated ≡ Some s = sym here ∙ is in cc) in
            let its : Contains stated.replicas.items region = subst (λ (x : StoreDef). Contains x.replicas.items region) (sym one) among in
            let at : (i : ℕ) × (slice_get stated.replicas.items i ≡ Some region) = stands_there stated.replicas.items region its in
            subst (λ (k : ℕ). Contains (map ends_of new) (k, region)) same
            (added.added at.0 region (slice_get_within stated.replicas.items at.0 region at.1) at.1)
        | inr before ↦ added.kept (o, region) (to.has o s region (omega arith) is dealt among)
      ];
  fresh = added.fresh to.fresh;
}

-- of all of them
pub all_routes : (app : App) (number count : ℕ) (routes : List Route) → HasRoutesTo app number count routes → length app.stores.items ≤ count → AreNewRoutes app number routes
all_routes app number count routes to past = record {
  has = λ o s region is dealt among.
      let inside : o < length app.stores.items = slice_get_within app.stores.items o s is in
      to.has o s region (omega arith) is dealt among;
  fresh = to.fresh;
}

-- ---- the start

no_first : (number region version : ℕ) → ShipsFirst number region [] version → ⊥
no_first number region version (e, among, actor, call) = absurd (let low = among.1 in omega arith)

-- of a route on which nothing was shipped the first version is the next
new_stands : (number : ℕ) (route : Route) → IsNewRoute route → RouteStands number [] route
new_stands number route fresh = record {
  is_next = record {
    some = (let first = fresh.next in omega arith);
    not = no_first number route.region route.next;
    lower = λ v low below. absurd (let first = fresh.next in omega arith);
  };
  others = λ v above. (
    λ ships. absurd (no_first number route.region v ships),
    λ among. absurd (let none : Contains [] v = subst (λ (all : List ℕ). Contains all v) fresh.ahead among in let low = none.1 in omega arith),
  );
}

pub new_worker : (app : App) (start : Start) (w : Worker) → w.number ≡ start.number → w.passes.items ≡ start.passes.items → w.clock ≡ 0
    → NoneBorn (object_count app) (lists w.processes) → AreNewRoutes app start.number w.routes.items → KnowsCalls app start.number start.passes.items [] → IsNewWorker app start w
new_worker app start w number passes clock none routes knows = record {
  number = number;
  passes = passes;
  routes = routes.has;
  stands = record {
    knows = subst (λ (n : ℕ). KnowsCalls app n w.passes.items []) (sym number)
        (subst (λ (all : List (PassView Object)). KnowsCalls app start.number all []) (sym passes) knows);
    processes = none_are app (lists w.processes) (object_count app) none refl;
    go = λ o. subst (All (λ p. full_of p ≡ None)) (sym (none.none o)) (All-nil (λ p. full_of p ≡ None));
    clock = clock;
    ours = All-nil (λ e. bears e.call ≡ true → IfSome (role_of app e) (λ role. worker_at app role.service ≡ w.number));
    routes = All-weaker IsNewRoute (RouteStands w.number []) (new_stands w.number) w.routes.items routes.fresh;
  };
}

pub start_works : (app : App) (shared : List (SharedView Object)) (start : Start) (w : Worker) → MayWork app shared start → IsNewWorker app start w
    → IsAtWork app shared start.number w
start_works app shared start w may new = record {
  of = subst (AreOf shared) (sym new.passes) may.of;
  number_is = new.number;
  routes = new.routes;
  worker = ([], new.stands);
}

-- ---- the rounds

module _ (app : App) (shared : List (SharedView Object)) (number : ℕ) (a b : Worker) (work : IsAtWork app shared number a) where
  -- one round more
  pub works_on : (Refused : List Entry → Type 0) (made : Bool) → Comes app shared a b Refused (Ok made) → IsAtWork app shared number b
  works_on Refused made comes = record {
    of = comes.of;
    number_is = comes.number ∙ work.number_is;
    routes = subst (HasRoutes app number) (sym comes.routes) work.routes;
    worker = still_worker app shared a b Refused made comes work.worker;
  }

  same_number : b.number ≡ a.number → b.number ≡ number
  same_number same = same ∙ work.number_is

  -- it was the last: nothing more can be done
  pub worked : (made : Bool) → made ≡ false → Comes app shared a b (AllRefused app a.number b.passes.items) (Ok made) → (done : Done) → done.passes.items ≡ b.passes.items
      → HasWorked app shared number done
  worked made none comes done back =
      let calls : List Entry = work.worker.0 in
      let came : Stays app a b calls × AllRefused app a.number b.passes.items calls =
      subst (λ (x : Bool). ComesOf app a b calls (AllRefused app a.number b.passes.items calls) (Ok x)) none (comes.came calls work.worker.1) in
      record {
        of = subst (AreOf shared) (sym back) comes.of;
        calls = calls;
        knows = subst (λ (all : List (PassView Object)). KnowsCalls app number all calls) (sym back)
            (subst (λ (n : ℕ). KnowsCalls app n b.passes.items calls) (same_number comes.number) came.0.stands.knows);
        own = subst (λ (n : ℕ). StartItsOwn app n calls) (same_number comes.number) came.0.stands.ours;
        ended = inl (subst (λ (all : List (PassView Object)). AllRefused app number all calls) (sym back)
            (subst (λ (n : ℕ). AllRefused app n b.passes.items calls) work.number_is came.1));
      }

  -- it met something foreign
  pub stopped : (Refused : List Entry → Type 0) → Comes app shared a b Refused (Err stops.Foreign) → (done : Done) → done.passes.items ≡ b.passes.items → HasWorked app shared number done
  stopped Refused comes done back =
      let came = comes.came work.worker.0 work.worker.1 in
      let stop : StoppedAt app b (work.worker.0 ++ came.0) = came.1 in
      let calls : List Entry = (work.worker.0 ++ came.0) ++ stop.entry ∷ [] in
      record {
        of = subst (AreOf shared) (sym back) comes.of;
        calls = calls;
        knows = subst (λ (all : List (PassView Object)). KnowsCalls app number all calls) (sym back)
            (subst (λ (n : ℕ). KnowsCalls app n b.passes.items calls) (same_number comes.number) stop.knows);
        own = subst (λ (n : ℕ). StartItsOwn app n calls) (same_number comes.number) stop.ours;
        ended = inr (stop.entry, Contains-push (work.worker.0 ++ came.0) stop.entry, stop.foreign);
      }
