-- The loops of a round: what each try more adds to what was refused.
use Rattle.std.proofs.Common.{◌≡◌, ℕ, ◌+◌, ◌<◌, ◌≤◌, ◌||◌, ◌++◌, Bool, true, false, List, length, map, sym, ap, ◌∙◌, subst, inl, inr, arith}
use Rattle.std.specs.Prelude.{Some, Ok, slice_get, option_map}
use Rattle.std.specs.List.{Contains}
use Rattle.std.proofs.lemmas.Bool.{cases_order}
use Rattle.std.proofs.lemmas.List.{length-append, length-map}
use Rattle.std.proofs.lemmas.List.Elements.{filter-append}
use Rattle.std.proofs.lemmas.Option.{get_or_from_slice_get, slice_get-get_or, slice_get-map, slice_get_within}
use Rattle.anti_kind.specs.declared.actor.Actor.TheVariants.{Carrier}
use Rattle.anti_kind.specs.declared.call.Call.TheVariants.{Pull, Ship, Take}
use Rattle.anti_kind.specs.declared.entry.Entry.{Entry}
use Rattle.anti_app.specs.declared.app.App.{App}
use Rattle.anti_app.specs.declared.app.SubDef.{SubDef}
use Rattle.anti_app.specs.Objects.{inbox_number, object_count}
use Rattle.anti_app.specs.Subs.{position_on}
use Rattle.anti_object.specs.declared.object.Object.{Object}
use Rattle.anti_proc.specs.Births.{birth_at, births, is_birth}
use Rattle.anti_proc.specs.declared.process.Process.{Process}
use Rattle.anti_proc.specs.inner.Standing.{birth_of}
use Rattle.anti_shared.specs.Passes.{SharedView}
use Rattle.anti_trace.specs.Traces.{entries_on, is_on}
use Rattle.anti_trace.specs.declared.processes.AtObject.{AtObject}
use Rattle.anti_trace.specs.inner.Living.{born_at, lists}
use Rattle.anti_play.specs.Schedule.{asking_at, bearing}
use Rattle.anti_work.specs.declared.worker.Route.{Route}
use Rattle.anti_work.specs.declared.worker.Worker.{Worker}
use Rattle.anti_work.specs.Workers.{IsNextVersion, worker_at}
use Rattle.anti_work.specs.inner.Rounds.{Comes, FirstRefused, GoRefused, GoesRefused, PullRefused, ShipRefused, TakeRefused, ends_of}
use Rattle.anti_work.specs.inner.Tries.{IsWorkerOf}
use Rattle.anti_work.specs.inner.Working.{ComesOf, IsRefusedAt, RouteStands, Stays, WorkerStands}
use Rattle.anti_work.proofs.Many.{comes_as, comes_more, still_worker}

-- where an item stands
pub stands_there : {X : Type 0} (xs : List X) (x : X) → Contains xs x → (i : ℕ) × (slice_get xs i ≡ Some x)
stands_there xs x (i, low, is) = (i, slice_get-get_or xs i x low ∙ ap Some is)

-- ---- as many processes as before, or more

born_lengths : (app : App) (w : Worker) (calls : List Entry) → WorkerStands app w calls → (o : ℕ) → length (born_at (lists w.processes) o) ≡ length (births (entries_on o calls))
born_lengths app w calls stands o =
    let ps : List Process = born_at (lists w.processes) o in
    let es : List Entry = births (entries_on o calls) in
    let same : length (map birth_of ps) ≡ length (map birth_at es) = ap length (stands.processes.born o) in
    omega (arith, same, length-map ps birth_of, length-map es birth_at)

more_births : (o : ℕ) (calls more : List Entry) → length (births (entries_on o calls)) ≤ length (births (entries_on o (calls ++ more)))
more_births o calls more =
    let whole : births (entries_on o (calls ++ more)) ≡ births (entries_on o calls) ++ births (entries_on o more) =
    ap births (filter-append (is_on o) calls more) ∙ filter-append is_birth (entries_on o calls) (entries_on o more) in
    let count : length (births (entries_on o (calls ++ more))) ≡ length (births (entries_on o calls) ++ births (entries_on o more)) = ap length whole in
    omega (arith, count, length-append (births (entries_on o calls)) (births (entries_on o more)))

many_came : (app : App) (a b : Worker) (calls : List Entry) (Refused : Type 0) (made : Bool) → WorkerStands app a calls → ComesOf app a b calls Refused (Ok made) → (o : ℕ)
    → length (born_at (lists a.processes) o) ≤ length (born_at (lists b.processes) o)
many_came app a b calls Refused true stands came o =
    omega (arith, born_lengths app a calls stands o, born_lengths app b (calls ++ came.0) came.1 o, more_births o calls came.0)
many_came app a b calls Refused false stands came o =
    let same : length (born_at (lists b.processes) o) ≡ length (born_at (lists a.processes) o) = ap (λ (all : List AtObject). length (born_at all o)) came.0.processes in
    omega (arith, same)

pub still_many : (app : App) (shared : List (SharedView Object)) (a b : Worker) (Refused : List Entry → Type 0) (made : Bool) → Comes app shared a b Refused (Ok made) → IsWorkerOf app a
    → (o : ℕ) → length (born_at (lists a.processes) o) ≤ length (born_at (lists b.processes) o)
still_many app shared a b Refused made comes worker = many_came app a b worker.0 (Refused worker.0) made worker.1 (comes.came worker.0 worker.1)

-- an object of the application has a list of processes
pub has_list : (app : App) (w : Worker) (o : ℕ) → IsWorkerOf app w → o < object_count app → o < length (lists w.processes)
has_list app w o worker low = let count = worker.1.processes.count in omega arith

pub same_count : (app : App) (shared : List (SharedView Object)) (a b : Worker) (Refused : List Entry → Type 0) (made : Bool) → Comes app shared a b Refused (Ok made) → IsWorkerOf app a
    → (o : ℕ) → o < length (lists a.processes) → o < length (lists b.processes)
same_count app shared a b Refused made comes worker o low =
    let count = worker.1.processes.count in
    has_list app b o (still_worker app shared a b Refused made comes worker) (omega arith)

-- ---- what was refused stays so

module _ (app : App) (a b : Worker) (calls : List Entry) (stays : Stays app a b calls) where
  go_lasts : (object at : ℕ) → GoRefused app object a at calls → GoRefused app object b at calls
  go_lasts object at refused p is q next start there =
      stays.refused q (refused p (subst (λ (all : List AtObject). slice_get (born_at all object) at ≡ Some p) stays.processes is) q next start there)

  pub goes_last : (object : ℕ) → GoesRefused app a object calls → GoesRefused app b object calls
  goes_last object refused at = go_lasts object at (refused at)

  pub take_lasts : (number service : ℕ) → TakeRefused app number a service calls → TakeRefused app number b service calls
  take_lasts number service refused dealt start there = stays.refused (bearing calls (inbox_number app service) (Take 1)) (refused dealt start there)

  pub pull_lasts : (number n : ℕ) → PullRefused app number a n calls → PullRefused app number b n calls
  pull_lasts number n refused sub is dealt start there =
      stays.refused (bearing calls sub.store (Pull (position_on app sub.store n))) (refused sub is dealt start there)

  ship_lasts : (number : ℕ) (ends : List (ℕ × ℕ)) (at : ℕ) → ShipRefused app number ends a at calls → ShipRefused app number ends b at calls
  ship_lasts number ends at refused store region version is next start there =
      stays.refused (asking_at calls store (Carrier number) 0 (Ship region version 1)) (refused store region version is next start there)

-- ---- one try more

module _ (app : App) (shared : List (SharedView Object)) (a b c : Worker) (first second made : Bool) (is : made ≡ (first || second)) where
  pub go_more : (object at : ℕ) → Comes app shared a b (FirstRefused (GoRefused app object b) at) (Ok first) → Comes app shared b c (GoRefused app object c at) (Ok second)
      → Comes app shared a c (FirstRefused (GoRefused app object c) (at + 1)) (Ok made)
  go_more object at =
      comes_more app shared a b c (GoRefused app object) at first second made is (λ i calls stays. go_lasts app b c calls stays object i)

  pub goes_more : (object : ℕ) → Comes app shared a b (FirstRefused (GoesRefused app b) object) (Ok first) → Comes app shared b c (GoesRefused app c object) (Ok second)
      → Comes app shared a c (FirstRefused (GoesRefused app c) (object + 1)) (Ok made)
  goes_more object = comes_more app shared a b c (GoesRefused app) object first second made is (λ i calls stays. goes_last app b c calls stays i)

  pub take_more : (service : ℕ) → Comes app shared a b (FirstRefused (TakeRefused app a.number b) service) (Ok first)
      → Comes app shared b c (TakeRefused app b.number c service) (Ok second) → Comes app shared a c (FirstRefused (TakeRefused app a.number c) (service + 1)) (Ok made)
  take_more service one two =
      comes_more app shared a b c (TakeRefused app a.number) service first second made is (λ i calls stays. take_lasts app b c calls stays a.number i) one
      (subst (λ (n : ℕ). Comes app shared b c (TakeRefused app n c service) (Ok second)) one.number two)

  pub pull_more : (n : ℕ) → Comes app shared a b (FirstRefused (PullRefused app a.number b) n) (Ok first)
      → Comes app shared b c (PullRefused app b.number c n) (Ok second) → Comes app shared a c (FirstRefused (PullRefused app a.number c) (n + 1)) (Ok made)
  pull_more n one two =
      comes_more app shared a b c (PullRefused app a.number) n first second made is (λ i calls stays. pull_lasts app b c calls stays a.number i) one
      (subst (λ (k : ℕ). Comes app shared b c (PullRefused app k c n) (Ok second)) one.number two)

  pub ship_more : (at : ℕ) → Comes app shared a b (FirstRefused (ShipRefused app a.number (map ends_of a.routes.items) b) at) (Ok first)
      → Comes app shared b c (ShipRefused app b.number (map ends_of b.routes.items) c at) (Ok second)
      → Comes app shared a c (FirstRefused (ShipRefused app a.number (map ends_of a.routes.items) c) (at + 1)) (Ok made)
  ship_more at one two =
      comes_more app shared a b c (ShipRefused app a.number (map ends_of a.routes.items)) at first second made is
      (λ i calls stays. ship_lasts app b c calls stays a.number (map ends_of a.routes.items) i) one
      (subst (λ (n : ℕ). Comes app shared b c (ShipRefused app n (map ends_of a.routes.items) c at) (Ok second)) one.number
      (subst (λ (ends : List (ℕ × ℕ)). Comes app shared b c (ShipRefused app b.number ends c at) (Ok second)) one.routes two))

-- ---- all of them

-- a process that is there stands before the end of the loop over those that were there
pub goes_all : (app : App) (shared : List (SharedView Object)) (a b : Worker) (object count at : ℕ) (made : Bool) → count ≡ length (born_at (lists a.processes) object) → count ≤ at
    → Comes app shared a b (FirstRefused (GoRefused app object b) at) (Ok made) → Comes app shared a b (GoesRefused app b object) (Ok made)
goes_all app shared a b object count at made many past comes =
    comes_as app shared a b (FirstRefused (GoRefused app object b) at) (GoesRefused app b object) (Ok made) comes
    (λ calls stands stays refused i p is.
    let there : slice_get (born_at (lists a.processes) object) i ≡ Some p = subst (λ (all : List AtObject). slice_get (born_at all object) i ≡ Some p) stays.processes is in
    let low : i < length (born_at (lists a.processes) object) = slice_get_within (born_at (lists a.processes) object) i p there in
    refused i (omega arith) p is)

-- fewer of them
pub up_to : (app : App) (shared : List (SharedView Object)) (a b : Worker) (Refused : ℕ → List Entry → Type 0) (count at : ℕ) (made : Bool) → count ≤ at
    → Comes app shared a b (FirstRefused Refused at) (Ok made) → Comes app shared a b (FirstRefused Refused count) (Ok made)
up_to app shared a b Refused count at made past comes =
    comes_as app shared a b (FirstRefused Refused at) (FirstRefused Refused count) (Ok made) comes (λ calls stands stays refused i low. refused i (omega arith))

-- ---- the next version of a route

-- there is one lowest
one_next : (number region : ℕ) (history : List Entry) (v w : ℕ) → IsNextVersion number region history v → IsNextVersion number region history w → v < w → ⊥
one_next number region history v w low high less = low.not (high.lower v low.some less)

same_version : (number region : ℕ) (history : List Entry) (v w : ℕ) → IsNextVersion number region history v → IsNextVersion number region history w → v ≡ w
same_version number region history v w one other =
    elim (cases_order v w) as (λ _. v ≡ w) [
      | inl same ↦ same
      | inr apart ↦ elim apart as (λ _. v ≡ w) [
        | inl less ↦ absurd (one_next number region history v w one other less)
        | inr more ↦ absurd (one_next number region history w v other one more)
      ]
    ]

pub ship_as : (app : App) (a c : Worker) (calls : List Entry) (at : ℕ) (route : Route) → WorkerStands app a calls → slice_get a.routes.items at ≡ Some route
    → IsRefusedAt app c calls (asking_at calls route.store (Carrier a.number) 0 (Ship route.region route.next 1))
    → ShipRefused app a.number (map ends_of a.routes.items) c at calls
ship_as app a c calls at route stands there refused store region version is next =
    let route_stands : RouteStands a.number calls route =
    subst (RouteStands a.number calls) (get_or_from_slice_get a.routes.items at route route there)
    (stands.routes at route (slice_get_within a.routes.items at route there)) in
    let mapped : slice_get (map ends_of a.routes.items) at ≡ Some (ends_of route) = slice_get-map ends_of a.routes.items at ∙ ap (option_map ends_of) there in
    let ends : ends_of route ≡ (store, region) = (let both : Some (ends_of route) ≡ Some (store, region) = sym mapped ∙ is in cc) in
    let store_is : route.store ≡ store = ap (λ (z : ℕ × ℕ). z.0) ends in
    let region_is : route.region ≡ region = ap (λ (z : ℕ × ℕ). z.1) ends in
    let its : IsNextVersion a.number route.region (entries_on route.store calls) version =
    subst (λ (r : ℕ). IsNextVersion a.number r (entries_on route.store calls) version) (sym region_is)
    (subst (λ (s : ℕ). IsNextVersion a.number region (entries_on s calls) version) (sym store_is) next) in
    let version_is : route.next ≡ version = same_version a.number route.region (entries_on route.store calls) route.next version route_stands.is_next its in
    subst (λ (s : ℕ). IsRefusedAt app c calls (asking_at calls s (Carrier a.number) 0 (Ship region version 1))) store_is
    (subst (λ (r : ℕ). IsRefusedAt app c calls (asking_at calls route.store (Carrier a.number) 0 (Ship r version 1))) region_is
    (subst (λ (v : ℕ). IsRefusedAt app c calls (asking_at calls route.store (Carrier a.number) 0 (Ship route.region v 1))) version_is refused))

-- ---- a pull, by the subscription that stands at its number

pub pull_as : (app : App) (number : ℕ) (c : Worker) (n : ℕ) (stated : SubDef) (calls : List Entry) → slice_get app.subs.items n ≡ Some stated
    → IsRefusedAt app c calls (bearing calls stated.store (Pull (position_on app stated.store n))) → PullRefused app number c n calls
pull_as app number c n stated calls there refused sub is dealt =
    let one : stated ≡ sub = (let both : Some stated ≡ Some sub = sym there ∙ is in cc) in
    subst (λ (s : SubDef). IsRefusedAt app c calls (bearing calls s.store (Pull (position_on app s.store n)))) one refused

pub pull_not : (app : App) (number : ℕ) (c : Worker) (n : ℕ) (stated : SubDef) (calls : List Entry) → slice_get app.subs.items n ≡ Some stated
    → (worker_at app stated.service ≡ number → ⊥) → PullRefused app number c n calls
pull_not app number c n stated calls there other sub is dealt =
    let one : stated ≡ sub = (let both : Some stated ≡ Some sub = sym there ∙ is in cc) in
    absurd (other (ap (λ (s : SubDef). worker_at app s.service) one ∙ dealt))
