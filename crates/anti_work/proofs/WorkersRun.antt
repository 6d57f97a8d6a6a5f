-- Workers that were refused all that they try made a run of workers.
use Rattle.std.proofs.Common.{◌≡◌, ℕ, zero, suc, ◌+◌, ◌<◌, ◌≤◌, inl, inr, List, [], length, get_or, refl, sym, ap, subst, arith}
use Rattle.std.specs.Prelude.{All, Contains, IsTrue, Some, slice_index_or}
use Rattle.std.proofs.lemmas.List.Elements.{Contains-get_or}
use Rattle.std.proofs.lemmas.Option.{slice_get_cases}
use Rattle.anti_turn.specs.Lists.{IsFront}
use Rattle.anti_kind.specs.declared.entry.Entry.{Entry}
use Rattle.anti_shared.specs.Passes.{PassView}
use Rattle.anti_app.specs.declared.app.App.{App}
use Rattle.anti_app.specs.Objects.{object_count}
use Rattle.anti_app.specs.Sound.{is_sound}
use Rattle.anti_object.specs.declared.object.Object.{Object}
use Rattle.anti_trace.specs.Traces.{IsTrace, entries_on}
use Rattle.anti_work.specs.Workers.{HasTried, IsWorkersRun, worker_of}
use Rattle.anti_work.specs.inner.Gathering.{HaveEnded, IsEndOf}
use Rattle.anti_work.specs.inner.Knowing.{ArePasses, number_at, number_of, seen_at}
use Rattle.anti_work.specs.inner.Trying.{AllRefused, StartItsOwn}
use Rattle.anti_work.specs.inner.Works.{AreMadeBy}
use Rattle.anti_work.proofs.Merged.{IsCallOf, from_trace, inside, merged_is_legal, of_worker}
use Rattle.anti_work.proofs.Seats.{same_seats, worker_is}
use Rattle.anti_work.proofs.Tried.{has_tried}

-- the number of a pass is no less than 1
number_positive : (app : App) (passes : List (PassView Object)) (o : ℕ) → ArePasses app passes → o < object_count app → 0 < number_at passes o
number_positive app passes o are low =
    elim ((slice_get_cases passes o).1) as (λ _. 0 < number_at passes o) [
      | inl found ↦
          let some : 0 < found.0.number = (are.each o found.0 found.2).knows.positive in
          subst (λ (n : ℕ). 0 < n) (sym (ap number_of found.2)) some
      | inr past ↦ absurd (let count = are.count in let long = past.0 in omega arith)
    ]

module _ (app : App) (all : List (List (PassView Object))) (histories : ℕ → List Entry) (works : ℕ → List Entry)
    (ended : HaveEnded app all histories works)
    (are : AreMadeBy app histories (λ w o. number_at (slice_index_or all w []) o) (length all) works)
    (trace : List Entry) (order : IsTrace trace) (same : (o : ℕ) → entries_on o trace ≡ histories o)
    (sound : IsTrue (is_sound app))
    (ours : (w : ℕ) → w < length all → StartItsOwn app (w + 1) (works w)) where
  abbrev seat : ℕ → ℕ → ℕ
  seat w o = number_at (slice_index_or all w []) o

  seats_positive : All (λ e. 0 < e.seat) trace
  seats_positive k d short =
      let e : Entry = get_or trace k d in
      let there : Contains (histories e.object) e =
      from_trace app histories seat (length all) works are trace order same e (Contains-get_or trace k d short) in
      let made : IsCallOf seat (length all) works e.object e = of_worker app histories seat (length all) works are e.object e there in
      subst (λ (n : ℕ). 0 < n) (sym made.seat_is)
      (number_positive app (slice_index_or all made.worker []) e.object (ended.knows made.worker made.low).are
      (inside app histories seat (length all) works are e.object e there))

  -- a pass has seen a front of the history
  front_seen : (w : ℕ) → w < length all → (o : ℕ) → o < object_count app → IsFront (seen_at (slice_index_or all w []) o) (histories o)
  front_seen w low o there =
      let end : IsEndOf app all o (histories o) = ended.ends o there in
      subst (IsFront (seen_at (slice_index_or all w []) o)) (sym end.history_is) (end.joined.fronts w [] low)

  module _ (refused : (w : ℕ) → w < length all → AllRefused app (w + 1) (slice_index_or all w []) (works w)) (count : length all ≡ app.workers) where
    tried : (w : ℕ) → 1 ≤ w → w ≤ app.workers → HasTried app trace w
    tried zero some few = absurd (omega arith)
    tried (suc w) some few =
        let low : w < length all = omega arith in
        let number : w + 1 ≡ suc w = omega arith in
        subst (HasTried app trace) number
        (has_tried app histories seat (length all) works are trace order same sound ours w low (slice_index_or all w []) (λ o there. refl) (front_seen w low)
        (refused w low))

    -- each entry is of one of them
    known : All (λ e. (w : ℕ) × (1 ≤ w) × (w ≤ app.workers) × (worker_of app trace e.actor ≡ Some w)) trace
    known k d short =
        let e : Entry = get_or trace k d in
        let there : Contains (histories e.object) e =
        from_trace app histories seat (length all) works are trace order same e (Contains-get_or trace k d short) in
        let made : IsCallOf seat (length all) works e.object e = of_worker app histories seat (length all) works are e.object e there in (
          made.worker + 1,
          omega arith,
          (let low = made.low in omega arith),
          worker_is app histories seat (length all) works are trace order same sound ours made.worker made.low e made.own,
        )

    pub workers_run : IsWorkersRun app trace
    workers_run = record {
      legal = merged_is_legal app histories seat (length all) works are trace order same;
      seats = seats_positive;
      known = known;
      same = same_seats app histories seat (length all) works are trace order same sound ours;
      tried = tried;
    }
