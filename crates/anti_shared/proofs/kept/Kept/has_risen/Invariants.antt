use Rattle.std.proofs.Common.{ℕ, ◌<◌, ◌≤◌}
use Rattle.anti_kind.specs.Shipments.{upto}
use Rattle.anti_shared.specs.inner.Marks.{number_at}
use Rattle.anti_shared.proofs.kept.Kept.has_risen.Given as goal

-- no region before this one has more than is known
abbrev pub invariant-loop-region : goal.invariant-loop-region
invariant-loop-region g l = (r : ℕ) → r < l.region → upto (g.M.Machine.start l.self.first) l.self.history r ≤ number_at l.known r
