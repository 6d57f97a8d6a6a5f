use Rattle.std.proofs.Common.{◌≡◌, length}
use Rattle.anti_edge.proofs.real_stream.RealStreamSource.read.Given as goal

-- no failure was counted, and the buffer keeps its length
abbrev pub invariant-loop : goal.invariant-loop
invariant-loop g l = (l.self ≡ l.initial.self) × (length l.buf ≡ length l.initial.buf)
