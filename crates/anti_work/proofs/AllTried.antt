-- A round that made nothing: all that a worker tries was refused.
use Rattle.std.proofs.Common.{◌≡◌, ℕ, ◌<◌, ◌||◌, Bool, List, [], ◌∷◌, length, get_or, map, refl, sym, ap, ◌∙◌, subst, arith}
use Rattle.std.specs.Prelude.{Option, None, Some, Ok, slice_get, position}
use Rattle.std.proofs.lemmas.List.{length-map}
use Rattle.std.proofs.lemmas.List.Quantifiers.{position-Some}
use Rattle.std.proofs.lemmas.Option.{slice_get-get_or, slice_get_within}
use Rattle.anti_kind.specs.declared.actor.Actor.TheVariants.{Process as Acting}
use Rattle.anti_kind.specs.declared.actor.Birth.{Birth}
use Rattle.anti_kind.specs.declared.asking.Asking.{Asking}
use Rattle.anti_kind.specs.declared.entry.Entry.{Entry}
use Rattle.anti_app.specs.declared.app.App.{App}
use Rattle.anti_app.specs.Objects.{object_count}
use Rattle.anti_object.specs.declared.object.Object.{Object}
use Rattle.anti_proc.specs.Meaning.{process_after}
use Rattle.anti_proc.specs.Trees.{want_of}
use Rattle.anti_proc.specs.declared.process.Process.{Process}
use Rattle.anti_proc.specs.inner.Standing.{birth_of}
use Rattle.anti_shared.specs.Passes.{SharedView}
use Rattle.anti_trace.specs.Traces.{entries_by}
use Rattle.anti_trace.specs.inner.Living.{Lives, born_at, is_named, lists}
use Rattle.anti_trace.proofs.Followed.{found_there}
use Rattle.anti_trace.proofs.InOrder.{birth_equal}
use Rattle.anti_play.specs.Schedule.{asked_by, next_call}
use Rattle.anti_work.specs.declared.worker.Worker.{Worker}
use Rattle.anti_work.specs.inner.Rounds.{Comes, FirstRefused, GoesRefused, HasRoutes, PullRefused, ShipRefused, TakeRefused, ends_of}
use Rattle.anti_work.specs.inner.Trying.{AllRefused, IsRefusedBy}
use Rattle.anti_work.specs.inner.Working.{WorkerStands}
use Rattle.anti_work.proofs.Loops.{goes_last, pull_lasts, stands_there, take_lasts}
use Rattle.anti_work.proofs.Many.{comes_both}

-- ---- the next call of each process

module _ (app : App) (w : Worker) (calls : List Entry) (stands : WorkerStands app w calls) (refused : FirstRefused (GoesRefused app w) (object_count app) calls)
    (b : Birth) (q : Asking) (next : next_call app calls b ≡ Some q) where
  abbrev ps : List Process
  ps = born_at (lists w.processes) b.object

  some_process : (xs : List Process) (i : ℕ) → position (is_named b) xs ≡ Some i → Process
  some_process [] i found = absurd (cc)
  some_process (x ∷ xs) i found = x

  -- one that is not there asks for nothing, and one that is was refused
  by_place : (at : Option ℕ) → position (is_named b) ps ≡ at → Lives app calls ps at (entries_by (Acting b) calls) → IsRefusedBy app w.passes.items calls q
  by_place None found none =
      let over : next_call app calls b ≡ None = ap (λ (es : List Entry). asked_by calls b (want_of (process_after app es))) none in
      absurd (let both : None ≡ Some q = sym over ∙ next in cc)
  by_place (Some i) found live =
      let inside : b.object < length (lists w.processes) = found_there (lists w.processes) b i found in
      let low : b.object < object_count app = (let count = stands.processes.count in omega arith) in
      let p : Process = some_process ps i found in
      let at = position-Some (is_named b) ps i p found in
      let named : b ≡ birth_of (get_or ps i p) = birth_equal b (birth_of (get_or ps i p)) at.1 in
      refused b.object low i (get_or ps i p) (slice_get-get_or ps i p at.0) q (ap (next_call app calls) (sym named) ∙ next)

  pub goes_tried : IsRefusedBy app w.passes.items calls q
  goes_tried = by_place (position (is_named b) ps) refl (stands.processes.live b)

-- ---- all of it

module _ (app : App) (w : Worker) (number : ℕ) (calls : List Entry) (stands : WorkerStands app w calls) where
  all_refused : (ends : List (ℕ × ℕ)) → HasRoutes app number ends → FirstRefused (GoesRefused app w) (object_count app) calls
      → FirstRefused (TakeRefused app number w) (length app.services.items) calls → FirstRefused (PullRefused app number w) (length app.subs.items) calls
      → FirstRefused (ShipRefused app number ends w) (length ends) calls → AllRefused app number w.passes.items calls
  all_refused ends has went took pulled shipped = record {
    processes = λ b q next. goes_tried app w calls stands went b q next;
    takes = λ s low dealt. took s low dealt;
    pulls = λ n sub is dealt. pulled n (slice_get_within app.subs.items n sub is) sub is dealt;
    ships = λ o s region version is dealt among next.
        let at : (i : ℕ) × (slice_get ends i ≡ Some (o, region)) = stands_there ends (o, region) (has o s region is dealt among) in
        shipped at.0 (slice_get_within ends at.0 (o, region) at.1) o region version at.1 next;
  }

-- The loops of a round, one after another, each over what those before it left.
module _ (app : App) (shared : List (SharedView Object)) (a b c : Worker) (went took : Bool)
    (first : Comes app shared a b (FirstRefused (GoesRefused app b) (object_count app)) (Ok went))
    (second : Comes app shared b c (FirstRefused (TakeRefused app b.number c) (length app.services.items)) (Ok took)) where
  abbrev pub BothRefused : List Entry → Type 0
  BothRefused calls =
      FirstRefused (GoesRefused app c) (object_count app) calls × FirstRefused (TakeRefused app a.number c) (length app.services.items) calls

  pub two_came : Comes app shared a c BothRefused (Ok (went || took))
  two_came =
      comes_both app shared a b c (FirstRefused (GoesRefused app b) (object_count app)) (FirstRefused (TakeRefused app b.number c) (length app.services.items)) BothRefused
      went took first second
      (λ calls stays stays_then was now. (
        λ i low. goes_last app b c calls stays_then i (was i low),
        subst (λ (n : ℕ). FirstRefused (TakeRefused app n c) (length app.services.items) calls) first.number now,
      ))

  module _ (d : Worker) (pulled : Bool) (third : Comes app shared c d (FirstRefused (PullRefused app c.number d) (length app.subs.items)) (Ok pulled)) where
    abbrev pub ThreeRefused : List Entry → Type 0
    ThreeRefused calls =
        FirstRefused (GoesRefused app d) (object_count app) calls × FirstRefused (TakeRefused app a.number d) (length app.services.items) calls
        × FirstRefused (PullRefused app a.number d) (length app.subs.items) calls

    pub three_came : Comes app shared a d ThreeRefused (Ok ((went || took) || pulled))
    three_came =
        comes_both app shared a c d BothRefused (FirstRefused (PullRefused app c.number d) (length app.subs.items)) ThreeRefused (went || took) pulled two_came third
        (λ calls stays stays_then was now. (
          λ i low. goes_last app c d calls stays_then i (was.0 i low),
          λ i low. take_lasts app c d calls stays_then a.number i (was.1 i low),
          subst (λ (n : ℕ). FirstRefused (PullRefused app n d) (length app.subs.items) calls) two_came.number now,
        ))

    module _ (e : Worker) (shipped : Bool)
        (fourth : Comes app shared d e (FirstRefused (ShipRefused app d.number (map ends_of d.routes.items) e) (length d.routes.items)) (Ok shipped))
        (has : HasRoutes app a.number (map ends_of a.routes.items)) where
      pub round_came : Comes app shared a e (AllRefused app a.number e.passes.items) (Ok (((went || took) || pulled) || shipped))
      round_came =
          comes_both app shared a d e ThreeRefused (FirstRefused (ShipRefused app d.number (map ends_of d.routes.items) e) (length d.routes.items))
          (AllRefused app a.number e.passes.items) ((went || took) || pulled) shipped three_came fourth
          (λ calls stays stays_then was now.
          let many : length (map ends_of d.routes.items) ≡ length d.routes.items = length-map d.routes.items ends_of in
          all_refused app e a.number calls stays_then.stands (map ends_of d.routes.items)
          (subst (HasRoutes app a.number) (sym three_came.routes) has)
          (λ i low. goes_last app d e calls stays_then i (was.0 i low))
          (λ i low. take_lasts app d e calls stays_then a.number i (was.1 i low))
          (λ i low. pull_lasts app d e calls stays_then a.number i (was.2 i low))
          (λ i low. subst (λ (n : ℕ). ShipRefused app n (map ends_of d.routes.items) e i calls) three_came.number (now i (omega arith))))
