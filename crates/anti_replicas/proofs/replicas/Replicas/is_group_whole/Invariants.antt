use Rattle.std.proofs.Common.{◌≡◌, ℕ, ◌-◌, ◌<◌, ◌≤◌, true, false, get_or, map}
use Rattle.anti_replicas.specs.inner.Marks.{has_all}
use Rattle.anti_replicas.proofs.replicas.Replicas.is_group_whole.Given as goal

-- those that it has looked at are whole
abbrev pub invariant-loop-passed : goal.invariant-loop-passed
invariant-loop-passed l = (i : ℕ) → l.behind - l.passed ≤ i → i < l.behind → get_or (map (has_all l.region) l.self.kept.items) i false ≡ true
