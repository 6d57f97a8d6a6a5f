use Rattle.std.proofs.Common.{◌+◌, ℕ, List, ◌∷◌, drop, get_or, sym, subst}
use Rattle.std.proofs.lemmas.List.{drop_all, drop_more}
use Rattle.anti_doctor.specs.inner.Findings.{IsFoundUpTo, past_by}
use Rattle.anti_doctor.proofs.FoundOnce.{all_found, found_more}
use Rattle.anti_doctor.proofs.grounds.Grounds.found.Goals as goal

pub loop-read-preserved : goal.loop-read-preserved
loop-read-preserved c =
    let trace = c.args.trace.now in
    let past = past_by c.args.self.now trace in
    let reads = c.args.reads.now in
    let k = c.loop-read.read-index in
    let rest : List ℕ = drop (k + 1) reads in
    let es = c.loop-read.found.entries in
    let noted = c.in_ok-note_read.ensures in
    let so_far : IsFoundUpTo trace past reads (get_or reads k 0 ∷ rest) es =
    subst (λ (rs : List ℕ). IsFoundUpTo trace past reads rs es) (drop_more reads k 0 c.loop-read-test.true) c.loop-read.invariant in
    subst (λ (fs : List (ℕ × ℕ)). IsFoundUpTo trace past reads rest fs) (sym noted.2)
    (found_more trace past reads (get_or reads k 0) rest es noted.0 so_far noted.1)

pub returns : goal.returns
returns c =
    let trace = c.args.trace.now in
    let past = past_by c.args.self.now trace in
    let reads = c.args.reads.now in
    let es = c.loop-read.found.entries in
    all_found trace past reads es
    (subst (λ (rs : List ℕ). IsFoundUpTo trace past reads rs es) (drop_all c.loop-read.read-index reads c.loop-read-test.false) c.loop-read.invariant)
