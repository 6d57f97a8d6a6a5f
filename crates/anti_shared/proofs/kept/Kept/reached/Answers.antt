use Rattle.std.proofs.Common.{◌∙◌, length-set, ◌≡◌, ℕ, ◌+◌, ◌<◌, arith}
use Rattle.anti_kind.specs.Shipments.{upto}
use Rattle.anti_shared.proofs.Regions.{one_set}
use Rattle.anti_shared.proofs.kept.Kept.reached.Goals as goal

pub loop-region-preserved : goal.loop-region-preserved
loop-region-preserved g c = record {
  long = length-set c.loop-region.reached c.loop-region.region c.whole_at.result ∙ c.loop-region.invariant.long;
  asked = λ r low. one_set (λ (q k : ℕ). q < c.loop-region.region + 1 → k ≡ upto (g.M.Machine.start c.args.self.now.first) c.args.self.now.history q) c.loop-region.reached c.loop-region.region
      c.whole_at.result (omega (arith, c.loop-region.invariant.long)) (λ _. c.whole_at.ensures) (λ q apart small. c.loop-region.invariant.asked q (omega arith)) r low;
}
