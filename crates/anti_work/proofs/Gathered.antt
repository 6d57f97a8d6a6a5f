-- Where all objects were closed, each by a pass into which those of all workers were joined, the workers made the histories.
use Rattle.std.proofs.Common.{◌≡◌, ℕ, ◌+◌, ◌<◌, ◌≤◌, ◌==◌, List, [], ◌∷◌, ◌++◌, length, map, get_or, All, refl, sym, ap, subst, ◌∙◌, ⊎_elim, arith, eq-eqb}
use Rattle.std.specs.Prelude.{Contains, Option, None, Some, slice_get}
use Rattle.std.proofs.Math.ListN.{get_or-map}
use Rattle.std.proofs.lemmas.List.{length-map}
use Rattle.std.proofs.lemmas.Bool.{cases_lt}
use Rattle.std.proofs.lemmas.List.Elements.{All-nil, Contains-get_or}
use Rattle.std.proofs.lemmas.Option.{slice_get_past}
use Rattle.anti_kind.specs.declared.entry.Entry.{Entry}
use Rattle.anti_kind.specs.Objects.{Start, IsLegal}
use Rattle.anti_kind.proofs.Finding.{filter_contains}
use Rattle.anti_turn.specs.Lists.{IsFront, times}
use Rattle.anti_turn.proofs.Times.{times_other, times-append}
use Rattle.anti_shared.specs.Passes.{LegalFrom, PassView, calls_of, ended_number, numbers_of, seat_of}
use Rattle.anti_app.specs.declared.app.App.{App}
use Rattle.anti_app.specs.Objects.{object_count}
use Rattle.anti_object.specs.declared.object.Object.{Object}
use Rattle.anti_object.specs.Starts.{start_of}
use Rattle.anti_trace.specs.Traces.{entries_on}
use Rattle.anti_work.specs.inner.Gathering.{HaveEnded, IsEndOf, pair_at}
use Rattle.anti_work.specs.inner.Knowing.{mine_at, mine_of, number_at, seen_at, seen_by}
use Rattle.anti_work.specs.inner.Works.{AreMadeBy}
use Rattle.anti_work.proofs.Grown.{work_later}
use Rattle.anti_work.proofs.Times.{counted_once, counted_somewhere}

-- the number of a worker's pass of an object
abbrev number_in : ℕ → List (PassView Object) → ℕ
number_in o ps = number_at ps o

numbers_read : (o : ℕ) (all : List (List (PassView Object))) → map ended_number (map (pair_at o) all) ≡ map (number_in o) all
numbers_read o [] = refl
numbers_read o (ps ∷ all) = ap (λ (ns : List ℕ). number_at ps o ∷ ns) (numbers_read o all)

-- ---- one object

module _ (app : App) (all : List (List (PassView Object))) (o : ℕ) (history : List Entry) (end : IsEndOf app all o history) where
  ended_numbers : map ended_number end.pass.ended ≡ map (number_in o) all
  ended_numbers = ap (map ended_number) end.joined.ended ∙ numbers_read o all

  -- the first pass made no call
  not_first : (e : Entry) → Contains history e → end.pass.number ≡ e.seat → ⊥
  not_first e among same =
      let seen : Contains end.pass.seen e = subst (λ (h : List Entry). Contains h e) end.history_is among in
      let called : Contains (calls_of end.pass.number end.pass.seen) e =
      (filter_contains (λ (x : Entry). seat_of x == end.pass.number) end.pass.seen e).1 (seen, eq-eqb e.seat end.pass.number (sym same)) in
      let none : Contains [] e = subst (λ (h : List Entry). Contains h e) (sym end.knows.mine_is ∙ end.joined.none) called in
      omega (arith, none.1)

  seat_of_worker : (e : Entry) → Contains history e → 0 < times e.seat (numbers_of end.pass) → (w : ℕ) × ((w < length all) × (e.seat ≡ number_in o (get_or all w [])))
  seat_of_worker e among counted =
      let later : times e.seat (map ended_number end.pass.ended) ≡ times e.seat (map (number_in o) all) = ap (times e.seat) ended_numbers in
      let none = times_other end.pass.number e.seat (not_first e among) in
      let both = times-append e.seat (end.pass.number ∷ []) (map ended_number end.pass.ended) in
      let found = counted_somewhere (number_in o) [] e.seat all (omega arith) in
      (found.0, (found.1, sym found.2))

  each_seat : All (λ e. (w : ℕ) × ((w < length all) × (e.seat ≡ number_in o (get_or all w [])))) history
  each_seat k d within = seat_of_worker (get_or history k d) (Contains-get_or history k d within) (end.own k d within)

  seats_apart : (v w : ℕ) → v < length all → w < length all → number_in o (get_or all v []) ≡ number_in o (get_or all w []) → v ≡ w
  seats_apart v w low also =
      counted_once (number_in o) [] all v w low also
      (λ n. let most = end.knows.distinct n in
      let later : times n (map ended_number end.pass.ended) ≡ times n (map (number_in o) all) = ap (times n) ended_numbers in
      let both = times-append n (end.pass.number ∷ []) (map ended_number end.pass.ended) in
      omega arith)

  module _ (w : ℕ) (low : w < length all) where
    -- a worker's calls are those of its number in the history
    its_calls : calls_of (number_in o (get_or all w [])) history ≡ mine_at (get_or all w []) o
    its_calls =
        let Same : ℕ × List Entry → Type 0 = λ pair. pair.1 ≡ calls_of pair.0 end.pass.seen in
        let long : length (map (pair_at o) all) ≡ length all = length-map all (pair_at o) in
        let same : All Same (map (pair_at o) all) = subst (All Same) end.joined.ended end.knows.ended_are in
        ap (calls_of (number_in o (get_or all w []))) end.history_is
        ∙ sym (subst Same (get_or-map (pair_at o) all w []) (same w (pair_at o []) (omega arith)))

    its_front : IsFront (seen_at (get_or all w []) o) history
    its_front = subst (IsFront (seen_at (get_or all w []) o)) (sym end.history_is) (end.joined.fronts w [] low)

  legal_from : (start : Start) → start_of app o ≡ Some start → IsLegal start history
  legal_from start there =
      let legal : IsLegal start end.pass.seen = subst (λ (s : Option Start). LegalFrom s end.pass.seen) (end.start ∙ there) end.knows.legal in
      subst (IsLegal start) (sym end.history_is) legal

-- ---- all of them

module _ (app : App) (all : List (List (PassView Object))) (histories works : ℕ → List Entry) (ended : HaveEnded app all histories works) where
  module _ (w o : ℕ) (low : w < length all) where
    past_all : object_count app ≤ o → slice_get (get_or all w []) o ≡ None
    past_all past = let count = (ended.knows w low).are.count in slice_get_past (get_or all w []) o (omega arith)

    made_calls : calls_of (number_in o (get_or all w [])) (histories o) ≡ entries_on o (works w)
    made_calls = ⊎_elim
        (λ (there : o < object_count app). its_calls app all o (histories o) (ended.ends o there) w low ∙ (ended.knows w low).mine o)
        (λ (past : object_count app ≤ o). ap (calls_of (number_in o (get_or all w []))) (ended.none o past) ∙ sym (ap mine_of (past_all past)) ∙ (ended.knows w low).mine o)
        (cases_lt o (object_count app))

    seen_front : IsFront (seen_at (get_or all w []) o) (histories o)
    seen_front = ⊎_elim
        (λ (there : o < object_count app). its_front app all o (histories o) (ended.ends o there) w low)
        (λ (past : object_count app ≤ o). (histories o, ap (λ (h : List Entry). h ++ histories o) (sym (ap seen_by (past_all past)))))
        (cases_lt o (object_count app))

  pub are_made : AreMadeBy app histories (λ w o. number_at (get_or all w []) o) (length all) works
  are_made = record {
    legal = λ o start there. ⊎_elim
        (λ (low : o < object_count app). legal_from app all o (histories o) (ended.ends o low) start there)
        (λ (past : object_count app ≤ o). subst (IsLegal start) (sym (ended.none o past)) tt)
        (cases_lt o (object_count app));
    own = λ o. ⊎_elim
        (λ (low : o < object_count app). (ended.ends o low).objects)
        (λ (past : object_count app ≤ o). subst (All (λ (e : Entry). e.object ≡ o)) (sym (ended.none o past)) (All-nil (λ (e : Entry). e.object ≡ o)))
        (cases_lt o (object_count app));
    there = ended.none;
    work_is = λ w low. let known = ended.knows w low in
        work_later (seen_at (get_or all w [])) histories (λ o. seen_front w o low) (works w) known.placed app (w + 1) known.work;
    made = λ w o low. made_calls w o low;
    each = λ o. ⊎_elim
        (λ (low : o < object_count app). each_seat app all o (histories o) (ended.ends o low))
        (λ (past : object_count app ≤ o). let Of : Entry → Type 0 = λ e. (w : ℕ) × ((w < length all) × (e.seat ≡ number_in o (get_or all w []))) in
        subst (All Of) (sym (ended.none o past)) (All-nil Of))
        (cases_lt o (object_count app));
    apart = λ o v w there low also same. seats_apart app all o (histories o) (ended.ends o there) v w low also same;
  }
