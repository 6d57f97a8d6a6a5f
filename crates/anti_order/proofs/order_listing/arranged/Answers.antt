use Rattle.std.proofs.Common.{ℕ, ◌+◌, List, drop, subst}
use Rattle.std.proofs.lemmas.List.{drop_all, drop_more}
use Rattle.law_causal.specs.Words.{reads}
use Rattle.law_serial.specs.Order.{is_in_past}
use Rattle.anti_order.specs.inner.Arranging.{Arranges}
use Rattle.anti_order.proofs.ReadPlaces.{all_within}
use Rattle.anti_order.proofs.order_listing.arranged.Goals as goal

pub loop-read-init : goal.loop-read-init
loop-read-init c = record {
  over = c.in_ok-arranging.ensures.over;
  arranges = λ app are.
      c.in_ok-arranging.ensures.arranges c.args.trace.now c.requires.writes (is_in_past app c.args.trace.now) c.args.reads.now;
}

pub add_read-requires-clause-read : goal.add_read-requires-clause-read
add_read-requires-clause-read c =
    all_within (λ e. reads e.call) c.args.trace.now c.args.reads.now c.requires.reads c.loop-read.read-index 0 c.loop-read-test.true

pub loop-read-preserved : goal.loop-read-preserved
loop-read-preserved c =
    let trace = c.args.trace.now in
    let writes = c.args.writes.now in
    let all = c.args.reads.now in
    let k = c.loop-read.read-index in
    record {
      over = c.in_ok-add_read.ensures.over writes c.loop-read.invariant.over;
      arranges = λ app are.
          c.in_ok-add_read.ensures.added writes (is_in_past app trace) all (drop (k + 1) all) c.requires.writes
          (subst (λ (rest : List ℕ). Arranges trace writes (is_in_past app trace) all rest c.loop-read.arranging)
          (drop_more all k 0 c.loop-read-test.true)
          (c.loop-read.invariant.arranges app are))
          (c.in_ok-past.ensures.members app are);
    }

pub returns : goal.returns
returns c = λ app are.
    let trace = c.args.trace.now in
    let writes = c.args.writes.now in
    let all = c.args.reads.now in
    c.into_marks.ensures trace (is_in_past app trace) all c.requires.writes
    (subst (λ (rest : List ℕ). Arranges trace writes (is_in_past app trace) all rest c.loop-read.arranging)
    (drop_all c.loop-read.read-index all c.loop-read-test.false) (c.loop-read.invariant.arranges app are))
