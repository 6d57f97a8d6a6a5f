use Rattle.std.proofs.Common.{◌≡◌, length}
use Rattle.std.specs.Prelude.{nat_le}
use Rattle.std.specs.List.{find}
use Rattle.anti_live.proofs.live.Live.carry_out.Given as goal

-- the first id of a store that is not there is among those that are left
abbrev pub invariant-loop-id : goal.invariant-loop-id
invariant-loop-id l = find (λ id. nat_le (length l.self.stores) id.store) l.id-iterator ≡ find (λ id. nat_le (length l.self.stores) id.store) l.client.lineage
