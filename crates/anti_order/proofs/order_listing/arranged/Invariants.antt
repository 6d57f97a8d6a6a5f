use Rattle.std.proofs.Common.{drop}
use Rattle.anti_app.specs.declared.app.App.{App}
use Rattle.anti_past.specs.Pasts.{ArePastsOf}
use Rattle.law_serial.specs.Order.{is_in_past}
use Rattle.anti_order.specs.inner.Arranging.{Arranges, IsOver}
use Rattle.anti_order.proofs.order_listing.arranged.Given as goal

-- the reads so far stand in the order
abbrev pub invariant-loop-read : goal.invariant-loop-read
invariant-loop-read l = record {
  over : IsOver l.writes l.arranging;
  arranges : (app : App) → ArePastsOf app l.trace l.pasts
      → Arranges l.trace l.writes (is_in_past app l.trace) l.reads (drop l.read-index l.reads) l.arranging;
}
