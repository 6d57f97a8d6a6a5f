use Rattle.std.proofs.Common.{ℕ, Vec, Global, sym, ap, ◌∙◌}
use Rattle.law_causal.specs.Reads.{is_read_of}
use Rattle.anti_order.proofs.ReadPlaces.{kept_more, passed_more}
use Rattle.anti_order.proofs.orders.reads_of.Goals as goal
use Rattle.anti_order.proofs.orders.reads_of.Goals.{then-is_read_of+in_ok-push, else-is_read_of}

pub loop-index-preserved : goal.loop-index-preserved
loop-index-preserved c =
    let test = is_read_of c.args.birth c.args.span in
    elim c.if-is_read_of.branch [
      | then-is_read_of+in_ok-push w ↦
          ap (λ (v : Vec ℕ Global). v.items) w.places-is
          ∙ w.in_ok-push.ensures.items
          ∙ kept_more test c.args.trace.now c.loop-index.index c.at.result.now c.at.ensures c.loop-index.places.items c.loop-index.invariant
          (sym c.is_read_of.ensures ∙ w.if-is_read_of.true)
      | else-is_read_of w ↦
          ap (λ (v : Vec ℕ Global). v.items) w.places-is
          ∙ passed_more test c.args.trace.now c.loop-index.index c.at.result.now c.at.ensures c.loop-index.places.items c.loop-index.invariant
          (sym c.is_read_of.ensures ∙ w.if-is_read_of.false)
    ]
