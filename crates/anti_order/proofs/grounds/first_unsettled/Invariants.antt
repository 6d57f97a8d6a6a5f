use Rattle.std.proofs.Common.{◌≡◌, drop, not}
use Rattle.std.specs.List.{find}
use Rattle.anti_order.specs.inner.Grounds.{is_settled_at}
use Rattle.anti_order.proofs.grounds.first_unsettled.Given as goal

-- what is found of those to come is what is to be found
abbrev pub invariant-loop-read : goal.invariant-loop-read
invariant-loop-read l = find (λ r. not (is_settled_at l.pasts r)) (drop l.read-index l.reads) ≡ find (λ r. not (is_settled_at l.pasts r)) l.reads
