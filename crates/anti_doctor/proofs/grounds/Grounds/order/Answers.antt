use Rattle.std.proofs.Common.{◌+◌, ℕ, List, drop, subst}
use Rattle.std.proofs.lemmas.List.{drop_all, drop_more}
use Rattle.anti_order.specs.inner.Arranging.{Arranges}
use Rattle.anti_doctor.specs.inner.Findings.{past_by}
use Rattle.anti_doctor.proofs.grounds.Grounds.order.Goals as goal

pub loop-read-preserved : goal.loop-read-preserved
loop-read-preserved c =
    let trace = c.args.trace.now in
    let writes = c.args.self.now.writes in
    let past = past_by c.args.self.now trace in
    let reads = c.args.reads.now in
    let k = c.loop-read.read-index in
    let rest : List ℕ = drop (k + 1) reads in
    c.in_ok-add_read.ensures.added reads rest
    (subst (λ (rs : List ℕ). Arranges trace writes past reads rs c.loop-read.arranging) (drop_more reads k 0 c.loop-read-test.true) c.loop-read.invariant)

pub into_marks-requires : goal.into_marks-requires
into_marks-requires c = c.loop-read.invariant.over

pub returns : goal.returns
returns c =
    let trace = c.args.trace.now in
    let writes = c.args.self.now.writes in
    let past = past_by c.args.self.now trace in
    let reads = c.args.reads.now in
    c.into_marks.ensures trace past reads c.requires.grounds.writes
    (subst (λ (rs : List ℕ). Arranges trace writes past reads rs c.loop-read.arranging) (drop_all c.loop-read.read-index reads c.loop-read-test.false)
    c.loop-read.invariant)
