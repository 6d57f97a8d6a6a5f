use Rattle.std.proofs.Common.{◌≡◌}
use Rattle.std.specs.List.{filter, range_with_len}
use Rattle.law_causal.specs.Reads.{is_at, is_read_of}
use Rattle.anti_order.proofs.orders.reads_of.Given as goal

-- the reads so far
abbrev pub invariant-loop-index : goal.invariant-loop-index
invariant-loop-index l = l.places.items ≡ filter (is_at (is_read_of l.birth l.span) l.trace) (range_with_len 0 l.index)
