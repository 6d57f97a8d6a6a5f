use Rattle.std.proofs.Common.{◌≡◌, ℕ, ◌<◌, length}
use Rattle.anti_kind.specs.Shipments.{upto}
use Rattle.anti_shared.specs.inner.Marks.{number_at}
use Rattle.anti_shared.proofs.kept.Kept.reached.Given as goal

-- the regions before this one were asked
abbrev pub invariant-loop-region : goal.invariant-loop-region
invariant-loop-region g l = record {
  long : length l.reached ≡ 8;
  asked : (r : ℕ) → r < l.region → number_at l.reached r ≡ upto (g.M.Machine.start l.self.first) l.self.history r;
}
