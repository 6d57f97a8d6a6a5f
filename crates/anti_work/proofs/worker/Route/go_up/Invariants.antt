use Rattle.std.proofs.Common.{◌≡◌, length}
use Rattle.anti_work.specs.inner.Shipping.{GoesUp}
use Rattle.anti_work.proofs.worker.Route.go_up.Given as goal

-- all versions below the next one were shipped
abbrev pub invariant-loop-at : goal.invariant-loop-at
invariant-loop-at l = record {
  up : GoesUp l.fn.self l.self.next l.self.ahead.items;
  store : l.self.store ≡ l.fn.self.store;
  region : l.self.region ≡ l.fn.self.region;
}

abbrev pub decreases-loop-at : goal.decreases-loop-at
decreases-loop-at l = length l.self.ahead.items
