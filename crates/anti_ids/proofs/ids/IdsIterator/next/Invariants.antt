use Rattle.std.proofs.Common.{◌≡◌, ◌+◌, ◌*◌, ◌≤◌, length}
use Rattle.std.specs.Prelude.{Some}
use Rattle.std.specs.Option.{option_map}
use Rattle.anti_ids.specs.declared.limits.TheConstants.{MOST_IDS}
use Rattle.anti_ids.specs.inner.Left.{left_of}
use Rattle.anti_ids.proofs.ids.IdsIterator.next.Given as goal

-- what is left has not changed, and stands within a lineage
abbrev pub invariant-loop-id : goal.invariant-loop-id
invariant-loop-id l = record {
  same : option_map (λ g. g.now) l.self-inside.gone ≡ Some l.gone;
  left : left_of l.gone l.self-inside.at l.self-inside.walk ≡ l.fn.self;
  within : l.self-inside.at + length l.self-inside.walk ≤ MOST_IDS;
  marked : l.self-inside.at + length l.self-inside.walk ≤ 64 * length l.gone;
}

abbrev pub decreases-loop-id : goal.decreases-loop-id
decreases-loop-id l = length l.self-inside.walk
