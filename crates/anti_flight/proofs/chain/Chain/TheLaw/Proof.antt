-- A `&` to a chain reaches each pointer and each value. Assumes `Logic`.
use mathlib.Core.List.{[], ◌++◌}
use base.Fml.{Incl-trans}
use contract.BorrowLft.{meet_⊑_left}
use denote.RattleType.{RattleType}
use denote.RawPtr.{RawPtr}
use denote.Param.Laws.{Laws}
use denote.Param.Shared.{copy_shared}
use denote.Struct.Laws.{field_copy}
use denote.Struct.Lending.{of_Lends}
use Rattle.std.specs.contracts.marker.PhantomData as marker
use Rattle.anti_flight.specs.contracts.chain.Chain as C
use Rattle.anti_flight.proofs.chain.Chain.TheLaw.Statement.{statement}
use Rattle.anti_flight.proofs.Sharing.{chain_lent_laws, Lends-chain}

pub shares : (T : RattleType) (L : Laws T) → statement T L
shares T L = of_Lends (C.struct T) (C.the_codes T.Denot T.coded (marker.the_row RawPtr).coded) (C.the_heap T) (C.the_lent T)
    (λ d p. chain_lent_laws T L.shr_laws d.head d.nodes d.tail) (copy_shared (marker.the_field RawPtr) (field_copy (marker.the_type RawPtr) tt), tt)
    (λ M 𝓤 𝓛 d p.
    Lends-chain 𝓛 (C.the_row T).lives T L (Incl-trans (meet_⊑_left (T.lives ++ []) _) (meet_⊑_left T.lives [])) d.head d.nodes d.tail)
