use Rattle.std.proofs.Common.{List, sym, subst, arith}
use Rattle.anti_order.specs.declared.pieces.Piece.{Piece}
use Rattle.anti_order.proofs.Kept.{AreAdded, all_added, none_added, run_added}
use Rattle.anti_order.proofs.order_listing.add_runs.Goals as goal

pub loop-found-init : goal.loop-found-init
loop-found-init c = record { runs = λ writes low. none_added c.args.numbers.now writes low c.args.pieces.now.items; within = omega arith }

pub loop-found-preserved : goal.loop-found-preserved
loop-found-preserved c =
    let numbers = c.args.numbers.now in
    let is = c.in-Some.ensures.some in
    record {
      runs = λ writes low.
          subst (λ (new : List Piece). AreAdded numbers writes low c.args.pieces.now.items new c.in-Some.found.to) (sym c.in_ok-push.ensures.items)
          (run_added numbers writes low c.args.pieces.now.items c.loop-found.pieces.items c.loop-found.from c.in-Some.found is (c.loop-found.invariant.runs writes low));
      within = is.within;
    }

pub returns : goal.returns
returns c = λ writes low.
    all_added c.args.numbers.now writes low c.args.pieces.now.items c.loop-found.pieces.items c.loop-found.from c.in_default.ensures.none (c.loop-found.invariant.runs writes low)
