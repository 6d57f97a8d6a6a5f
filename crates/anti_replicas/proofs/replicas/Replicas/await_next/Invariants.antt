use Rattle.std.proofs.Common.{◌≡◌, take}
use Rattle.anti_replicas.specs.inner.Backlogs.{AreBehind, HaveNext}
use Rattle.anti_replicas.proofs.replicas.Replicas.await_next.Given as goal

-- the regions up to here have the group of the next version
abbrev pub invariant-loop-at : goal.invariant-loop-at
invariant-loop-at l = record {
  only : l.self ≡ record l.initial.self { backlogs = l.self.backlogs };
  behind : AreBehind l.initial.self.regions.items l.initial.self.kept.items l.self.backlogs.items;
  have : HaveNext (take l.at l.initial.self.regions.items) l.initial.self.kept.items l.self.backlogs.items;
}
