use Rattle.std.proofs.Common.{◌≡◌, ◌-◌, ◌+◌, ◌<◌, ◌≤◌, ℕ, Bool, Some, false, get_or, length, take, sym, ap, ◌∙◌, arith}
use Rattle.std.specs.Prelude.{slice_get, true}
use Rattle.std.proofs.lemmas.Bool.{lt-ltb}
use Rattle.std.proofs.lemmas.Option.{slice_get-get_or}
use Rattle.anti_order.specs.inner.NumberSets.{has}
use Rattle.anti_order.specs.inner.Writes.{number_at}
use Rattle.anti_doctor.specs.inner.Missing.{is_missed, newest_of, version_at}
use Rattle.anti_doctor.proofs.Newest.{ends_below, ends_here, goes_back, is_missed_by}
use Rattle.anti_doctor.proofs.missing.newest_missed.Goals as goal

pub returns-then-version_at-shown : goal.returns-then-version_at-shown
returns-then-version_at-shown c =
    let places = c.args.places.now in
    let n : ℕ = c.loop-left.left - 1 in
    let test : ℕ → Bool = is_missed c.args.trace.now c.args.set.now c.args.shown in
    let low : n < length places = omega arith in
    let next : n + 1 ≡ c.loop-left.left = omega arith in
    let at : slice_get places n ≡ Some (get_or places n 0) = slice_get-get_or places n 0 low in
    let most : version_at c.args.trace.now (get_or places n 0) ≤ c.args.shown = omega (arith, c.version_at.ensures) in
    sym (ends_below c.args.trace.now c.args.set.now c.args.shown places n (get_or places n 0) at c.requires.ascending most)
    ∙ ap (λ (k : ℕ). newest_of test (take k places)) next
    ∙ c.loop-left.invariant.same

pub returns-then-is_in : goal.returns-then-is_in
returns-then-is_in c =
    let places = c.args.places.now in
    let n : ℕ = c.loop-left.left - 1 in
    let test : ℕ → Bool = is_missed c.args.trace.now c.args.set.now c.args.shown in
    let low : n < length places = omega arith in
    let next : n + 1 ≡ c.loop-left.left = omega arith in
    let at : slice_get places n ≡ Some (get_or places n 0) = slice_get-get_or places n 0 low in
    let above : c.args.shown < version_at c.args.trace.now (get_or places n 0) = omega (arith, c.version_at.ensures) in
    let has_it : has c.args.set.now (number_at c.args.trace.now (get_or places n 0)) ≡ true = sym c.if-is_in.ensures in
    sym (ends_here test places n (get_or places n 0) at
    (is_missed_by c.args.trace.now c.args.set.now c.args.shown (get_or places n 0) (lt-ltb c.args.shown (version_at c.args.trace.now (get_or places n 0)) above) ∙ has_it))
    ∙ ap (λ (k : ℕ). newest_of test (take k places)) next
    ∙ c.loop-left.invariant.same

pub loop-left-preserved : goal.loop-left-preserved
loop-left-preserved c =
    let places = c.args.places.now in
    let n : ℕ = c.loop-left.left - 1 in
    let test : ℕ → Bool = is_missed c.args.trace.now c.args.set.now c.args.shown in
    let low : n < length places = omega arith in
    let next : n + 1 ≡ c.loop-left.left = omega arith in
    let at : slice_get places n ≡ Some (get_or places n 0) = slice_get-get_or places n 0 low in
    let above : c.args.shown < version_at c.args.trace.now (get_or places n 0) = omega (arith, c.version_at.ensures) in
    let not_it : has c.args.set.now (number_at c.args.trace.now (get_or places n 0)) ≡ false = sym c.if-is_in.ensures in
    record {
      within = omega arith;
      same =
          sym (goes_back test places n (get_or places n 0) at
          (is_missed_by c.args.trace.now c.args.set.now c.args.shown (get_or places n 0) (lt-ltb c.args.shown (version_at c.args.trace.now (get_or places n 0)) above) ∙ not_it))
          ∙ ap (λ (k : ℕ). newest_of test (take k places)) next
          ∙ c.loop-left.invariant.same;
    }
