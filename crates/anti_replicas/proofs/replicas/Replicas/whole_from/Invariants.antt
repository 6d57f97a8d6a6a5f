use Rattle.std.proofs.Common.{◌≤◌}
use Rattle.std.specs.List.{prefix_len}
use Rattle.anti_replicas.specs.inner.Marks.{has_all}
use Rattle.anti_replicas.proofs.replicas.Replicas.whole_from.Given as goal

-- the versions up to here are whole, if those are that are known to be
abbrev pub invariant-loop-at : goal.invariant-loop-at
invariant-loop-at l = l.known ≤ prefix_len (has_all l.region) l.self.kept.items → l.at ≤ prefix_len (has_all l.region) l.self.kept.items
