-- The items of a list whose numbers pass a test, run by run.
use Rattle.std.proofs.Common.{◌≡◌, ℕ, zero, suc, ◌+◌, ◌-◌, ◌<◌, ◌≤◌, ◌++◌, Bool, true, false, cond, List, [], ◌∷◌, length, map, take, drop, refl, sym, ap, ap₂, ◌∙◌, arith}
use Rattle.std.specs.Prelude.{All}
use Rattle.std.specs.List.{filter, range_with_len, slice_range}
use Rattle.std.proofs.lemmas.List.{append-nil, append_assoc, drop-drop, length-drop}
use Rattle.std.proofs.lemmas.List.Concat.{flat_map-append}
use Rattle.std.proofs.lemmas.List.Elements.{All-push}
use Rattle.anti_trace.specs.declared.mark.Mark.{Mark}
use Rattle.anti_order.specs.declared.number_set.NumberRun.{NumberRun}
use Rattle.anti_order.specs.declared.pieces.Piece.{Piece}
use Rattle.anti_order.specs.declared.pieces.Piece.TheVariants.{Writes}
use Rattle.anti_order.specs.inner.NumberSets.{IsRunFrom, has}
use Rattle.anti_order.specs.inner.Pieces.{AddsRuns, IsWithin, kept_at, marks_in, marks_of}

-- ---- one run

module _ {X : Type 0} (test : ℕ → Bool) where
  passed : (d k : ℕ) (xs : List X) → ((n : ℕ) → k ≤ n → n < k + d → test n ≡ false) → kept_at test k xs ≡ kept_at test (k + d) (drop d xs)
  passed zero k xs fails = let here : k ≡ k + zero = omega arith in ap (λ (m : ℕ). kept_at test m xs) here
  passed (suc d) k [] fails = refl
  passed (suc d) k (x ∷ xs) fails =
      let on : k + 1 + d ≡ k + suc d = omega arith in
      ap (λ (t : Bool). cond t (x ∷ kept_at test (k + 1) xs) (kept_at test (k + 1) xs)) (fails k (omega arith) (omega arith))
      ∙ passed d (k + 1) xs (λ n low high. fails n (omega (arith, low)) (omega (arith, high)))
      ∙ ap (λ (m : ℕ). kept_at test m (drop d xs)) on

  run : (d k : ℕ) (xs : List X) → d ≤ length xs → ((n : ℕ) → k ≤ n → n < k + d → test n ≡ true)
      → kept_at test k xs ≡ take d xs ++ kept_at test (k + d) (drop d xs)
  run zero k xs short passes = let here : k ≡ k + zero = omega arith in ap (λ (m : ℕ). kept_at test m xs) here
  run (suc d) k [] short passes = absurd (omega (arith, short))
  run (suc d) k (x ∷ xs) short passes =
      let on : k + 1 + d ≡ k + suc d = omega arith in
      ap (λ (t : Bool). cond t (x ∷ kept_at test (k + 1) xs) (kept_at test (k + 1) xs)) (passes k (omega arith) (omega arith))
      ∙ ap (λ (ys : List X). x ∷ ys) (run d (k + 1) xs (omega (arith, short)) (λ n low high. passes n (omega (arith, low)) (omega (arith, high))))
      ∙ ap (λ (m : ℕ). x ∷ (take d xs ++ kept_at test m (drop d xs))) on

  none_left : (k : ℕ) (xs : List X) → ((n : ℕ) → k ≤ n → test n ≡ false) → kept_at test k xs ≡ []
  none_left k [] fails = refl
  none_left k (x ∷ xs) fails =
      ap (λ (t : Bool). cond t (x ∷ kept_at test (k + 1) xs) (kept_at test (k + 1) xs)) (fails k (omega arith))
      ∙ none_left (k + 1) xs (λ n low. fails n (omega (arith, low)))

  kept_agree : (other : ℕ → Bool) → ((n : ℕ) → test n ≡ other n) → (k : ℕ) (xs : List X) → kept_at test k xs ≡ kept_at other k xs
  kept_agree other same k [] = refl
  kept_agree other same k (x ∷ xs) = ap₂ (λ (t : Bool) (ys : List X). cond t (x ∷ ys) ys) (same k) (kept_agree other same (k + 1) xs)

pub kept_at-map : {X Y : Type 0} (test : ℕ → Bool) (f : X → Y) (k : ℕ) (xs : List X) → kept_at test k (map f xs) ≡ map f (kept_at test k xs)
kept_at-map test f k [] = refl
kept_at-map {Y = Y} test f k (x ∷ xs) =
    ap (λ (ys : List Y). cond (test k) (f x ∷ ys) ys) (kept_at-map test f (k + 1) xs) ∙ by_test (test k)
  where
    by_test : (t : Bool) → cond t (f x ∷ map f (kept_at test (k + 1) xs)) (map f (kept_at test (k + 1) xs))
        ≡ map f (cond t (x ∷ kept_at test (k + 1) xs) (kept_at test (k + 1) xs))
    by_test true = refl
    by_test false = refl

-- where a function gives the numbers of the items
pub kept_filter : (test : ℕ → Bool) (number : ℕ → ℕ) (k : ℕ) (xs : List ℕ) → map number xs ≡ range_with_len k (length xs)
    → kept_at test k xs ≡ filter (λ x. test (number x)) xs
kept_filter test number k [] numbers = refl
kept_filter test number k (x ∷ xs) numbers =
    let its : number x ≡ k = cc in
    let others : map number xs ≡ range_with_len (k + 1) (length xs) = cc in
    ap₂ (λ (t : Bool) (ys : List ℕ). cond t (x ∷ ys) ys) (ap test (sym its)) (kept_filter test number (k + 1) xs others)

-- ---- pieces

module _ (numbers : List ℕ) (writes : List Mark) (low : (n : ℕ) → has numbers n ≡ true → n < length writes) where
  run_within : (from : ℕ) (run : NumberRun) → IsRunFrom numbers from run → run.to ≤ length writes
  run_within from run is =
      let some = is.some in
      let last : run.to - 1 < length writes = low (run.to - 1) (is.inside (run.to - 1) (omega (arith, some)) (omega (arith, some))) in
      omega (arith, last)

  next_run : (from : ℕ) (r : NumberRun) → IsRunFrom numbers from r
      → kept_at (has numbers) from (drop from writes) ≡ slice_range writes r.from r.to ++ kept_at (has numbers) r.to (drop r.to writes)
  next_run from r is =
      let behind = is.behind in
      let some = is.some in
      let within = run_within from r is in
      let begin : from + (r.from - from) ≡ r.from = omega (arith, behind) in
      let end : r.from + (r.to - r.from) ≡ r.to = omega (arith, some) in
      let count : length (drop r.from writes) ≡ length writes - r.from = length-drop r.from writes in
      passed (has numbers) (r.from - from) from (drop from writes) (λ n after before. is.before n after (omega (arith, before, begin)))
      ∙ ap₂ (λ (k : ℕ) (ms : List Mark). kept_at (has numbers) k ms) begin
      (drop-drop (r.from - from) from writes ∙ ap (λ (k : ℕ). drop k writes) begin)
      ∙ run (has numbers) (r.to - r.from) r.from (drop r.from writes) (omega (arith, count, within))
      (λ n after before. is.inside n after (omega (arith, before, end)))
      ∙ ap₂ (λ (k : ℕ) (ms : List Mark). slice_range writes r.from r.to ++ kept_at (has numbers) k ms) end
      (drop-drop (r.to - r.from) r.from writes ∙ ap (λ (k : ℕ). drop k writes) end)

  -- Runs from the first number on were added; the writes with the numbers from `from` on are still to be added.
  pub record AreAdded (old new : List Piece) (from : ℕ) : Type 0 where
    pub marks : marks_of writes new ++ kept_at (has numbers) from (drop from writes) ≡ marks_of writes old ++ kept_at (has numbers) 0 writes
    pub within : All (IsWithin writes) old → All (IsWithin writes) new

  pub none_added : (old : List Piece) → AreAdded old old 0
  none_added old = record { marks = refl; within = λ all. all }

  pub run_added : (old new : List Piece) (from : ℕ) (r : NumberRun) → IsRunFrom numbers from r → AreAdded old new from
      → AreAdded old (new ++ Writes r.from r.to ∷ []) r.to
  run_added old new from r is are = record {
    marks =
        ap (λ (ms : List Mark). ms ++ kept_at (has numbers) r.to (drop r.to writes))
        (flat_map-append (marks_in writes) new (Writes r.from r.to ∷ [])
        ∙ ap (λ (ms : List Mark). marks_of writes new ++ ms) (append-nil (slice_range writes r.from r.to)))
        ∙ append_assoc (marks_of writes new) (slice_range writes r.from r.to) (kept_at (has numbers) r.to (drop r.to writes))
        ∙ ap (λ (ms : List Mark). marks_of writes new ++ ms) (sym (next_run from r is))
        ∙ are.marks;
    within = λ all.
        let some = is.some in
        let fits : IsWithin writes (Writes r.from r.to) = (omega (arith, some), run_within from r is) in
        All-push (IsWithin writes) new (Writes r.from r.to) (are.within all) fits;
  }

  pub all_added : (old new : List Piece) (from : ℕ) → ((n : ℕ) → from ≤ n → has numbers n ≡ false) → AreAdded old new from
      → AddsRuns writes (has numbers) old new
  all_added old new from none are = record {
    marks =
        sym (append-nil (marks_of writes new))
        ∙ ap (λ (ms : List Mark). marks_of writes new ++ ms) (sym (none_left (has numbers) from (drop from writes) none))
        ∙ are.marks;
    within = are.within;
  }

-- the same by another test
pub runs_agree : (writes : List Mark) (test other : ℕ → Bool) (old new : List Piece) → ((n : ℕ) → test n ≡ other n) → AddsRuns writes test old new
    → AddsRuns writes other old new
runs_agree writes test other old new same adds = record {
  marks = adds.marks ∙ ap (λ (ms : List Mark). marks_of writes old ++ ms) (kept_agree test other same 0 writes);
  within = adds.within;
}
