use Rattle.std.proofs.Common.{◌≡◌, ℕ, ◌<◌, ◌≤◌}
use Rattle.anti_turn.specs.Lists.{top}
use Rattle.anti_shared.specs.inner.Marks.{AreNoted, number_at}
use Rattle.anti_shared.proofs.marking.raise_each.Given as goal

-- the marks of the regions before this one were raised
abbrev pub invariant-loop-region : goal.invariant-loop-region
invariant-loop-region g l = record {
  seat : l.seat ≡ record l.initial.seat { raised = l.seat.raised };
  noted : AreNoted l.raised l.seat.raised;
  told : (r : ℕ) → r < l.region → number_at l.reached r ≤ top r l.seat.raised;
}
