use Rattle.std.proofs.Common.{◌≡◌}
use Rattle.bench_calls.proofs.ask.Given as goal

-- the pass is of the object
abbrev pub invariant-loop : goal.invariant-loop
invariant-loop g l = l.pass.id ≡ l.initial.pass.id
