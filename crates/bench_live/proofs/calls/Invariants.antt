use Rattle.std.proofs.Common.{◌≡◌}
use Rattle.bench_live.proofs.calls.Given as goal

-- the pass is of the object
abbrev pub invariant-loop-turn : goal.invariant-loop-turn
invariant-loop-turn g l = l.pass.id ≡ l.shared.id
