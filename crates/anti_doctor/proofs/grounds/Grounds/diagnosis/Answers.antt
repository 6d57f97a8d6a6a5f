use Rattle.std.proofs.Common.{◌≡◌, ◌<◌, ℕ, List, [], ◌∷◌, length, map, refl, ap, subst, arith}
use Rattle.std.specs.Prelude.{IsTrue, false}
use Rattle.std.proofs.lemmas.List.{get_or-map, length-map}
use Rattle.anti_doctor.specs.Missed.{AreMissed, Pair}
use Rattle.anti_doctor.specs.inner.Findings.{pair_of, past_by}
use Rattle.anti_doctor.proofs.FoundOnce.{missed_inside}
use Rattle.anti_doctor.proofs.Telling.{reads_inside, tells_causes}
use Rattle.anti_doctor.proofs.grounds.Grounds.diagnosis.Goals as goal

is_empty : (es : List (ℕ × ℕ)) → length es ≡ 0 → es ≡ []
is_empty [] none = refl
is_empty (e ∷ es) none = absurd (omega (arith, none))

pub returns-then-is_empty : goal.returns-then-is_empty
returns-then-is_empty c =
    let trace = c.args.trace.now in
    let reads = c.args.reads.now in
    let sets = c.args.self.now.sets.items in
    let es = c.in_ok-found.found.entries in
    let none : es ≡ [] = is_empty es (c.if-is_empty.ensures.0 refl) in
    record {
      past = past_by c.args.self.now trace;
      tells = tells_causes trace sets c.requires.grounds.sets reads c.requires.reads;
      missed = [];
      misses = subst (λ (fs : List (ℕ × ℕ)). AreMissed trace (past_by c.args.self.now trace) reads [] (map pair_of fs)) none c.in_ok-found.ensures;
      found = (refl, c.in_ok-order.ensures);
    }

pub told-requires : goal.told-requires
told-requires c = λ k d low.
    let trace = c.args.trace.now in
    let reads = c.args.reads.now in
    let es = c.in_ok-found.found.entries in
    let count : length (map pair_of es) ≡ length es = length-map es pair_of in
    let inside = missed_inside trace (past_by c.args.self.now trace) reads [] (map pair_of es) (reads_inside trace reads c.requires.reads) c.in_ok-found.ensures
    k (pair_of d) (omega (arith, low, count)) in
    subst (λ (p : Pair). (p.write < length trace) × (p.read < length trace)) (get_or-map pair_of es k d (pair_of d) low) inside

pub returns : goal.returns
returns c =
    let trace = c.args.trace.now in
    let reads = c.args.reads.now in
    let sets = c.args.self.now.sets.items in
    let es = c.in_ok-found.found.entries in
    record {
      past = past_by c.args.self.now trace;
      tells = tells_causes trace sets c.requires.grounds.sets reads c.requires.reads;
      missed = map pair_of es;
      misses = c.in_ok-found.ensures;
      found = (
        λ none.
            let count : length (map pair_of es) ≡ length es = length-map es pair_of in
            let empty : length (map pair_of es) ≡ 0 = ap (λ (ps : List Pair). length ps) none in
            let never : IsTrue false = c.if-is_empty.ensures.1 (omega (arith, count, empty)) in
            cc,
        c.in_ok-findings.ensures,
      );
    }
