use Rattle.std.proofs.Common.{◌≡◌}
use Rattle.anti_edge.proofs.real_stream.RealStreamSink.write.Given as goal

-- no failure was counted
abbrev pub invariant-loop : goal.invariant-loop
invariant-loop g l = l.self ≡ l.initial.self
