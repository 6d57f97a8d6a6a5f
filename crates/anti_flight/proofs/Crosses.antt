-- A chain may cross threads as its values may.
use Rattle.std.specs.Prelude.{List, [], ◌∷◌}
use mir.Syntax.{Ty}
use base.Fraction.{full_share}
use base.Fml.{Fml, ftrue}
use base.Shift.{Keyless}
use denote.Exit.{Exit, unchanged, leaves, hidden, under}
use denote.RattleType.{RattleType}
use denote.RawPtr.{Ptr, block_ptr, null_ptr, block_of, count_of, lies_at, room_for, in_block}
use denote.Builtin.{RawPtr}
use denote.Struct.Struct.{exits_of}
use denote.Struct.Owning.{shape, fields, to}
use denote.Struct.Lending.{lent_at}
use denote.Param.Send.{IsSend, IsSync, Quiet, Common, part_keyless, AllSend, owning_send, struct_send, struct_sync, sendable}
use Rattle.std.proofs.Crossing.{frees}
use Rattle.anti_flight.specs.inner.Linked.{Linked}
use Rattle.anti_flight.specs.inner.Ownership.{node_type, path, path_lent, deed_owns, rest_room, items_own, items_lent}
use Rattle.anti_flight.specs.contracts.chain.Chain as Chain

room : (τ : Ty) (p : Ptr) → Keyless (room_for τ p)
room τ (block_ptr b o) = tt
room τ null_ptr = tt

inside : (p : Ptr) (F : Fml) → Keyless F → Keyless (in_block p F)
inside (block_ptr b o) F k = k
inside null_ptr F k = tt

quiet : {D X : Type 0} (to : D → X) (e : Exit X) → Quiet e → Quiet (hidden (under to e))
quiet to unchanged q = λ x w. tt
quiet to (leaves L l S s r₀) q = λ d. q (to d)

lies : (R : RattleType) → IsSend R → (p : Ptr) (x : R.Denot) → Keyless (lies_at R full_share p x)
lies R s (block_ptr b o) x = part_keyless R s full_share x b o
lies R s null_ptr x = tt

seen : (R : RattleType) → IsSync R → (p : Ptr) (x : R.Denot) → Common (lent_at R p x)
seen R s p x κ = (inside p ftrue tt, s.shared x (block_of p) (count_of p) κ)

pointer_send : IsSend RawPtr
pointer_send = search sendable

pointer_sync : IsSync RawPtr
pointer_sync = search sendable

path-Keyless : (a : Ptr) (ps : List Ptr) → Keyless (path a ps)
path-Keyless a [] = tt
path-Keyless a (p ∷ ps) = ((lies RawPtr pointer_send _ p, lies RawPtr pointer_send _ a), path-Keyless p ps)

path_lent-Common : (a : Ptr) (ps : List Ptr) → Common (path_lent a ps)
path_lent-Common a [] κ = tt
path_lent-Common a (p ∷ ps) κ = ((seen RawPtr pointer_sync _ p κ, seen RawPtr pointer_sync _ a κ), path_lent-Common p ps κ)

module _ (T : RattleType) where
  deed-Keyless : (p : Ptr) → Keyless (deed_owns T p)
  deed-Keyless p = (frees.frees (record { memory = record { seal = tt } }) (node_type T) p, (((room _ _, room _ _), room _ _), room _ p))

  rest-Keyless : (p : Ptr) → Keyless (rest_room T p)
  rest-Keyless p = (room _ _, deed-Keyless p)

  items-Keyless : IsSend T → (ns : List (Linked T.Denot)) → Keyless (items_own T ns)
  items-Keyless s [] = tt
  items-Keyless s (n ∷ ns) = ((lies T s _ n.value, deed-Keyless n.place), items-Keyless s ns)

  items_lent-Common : IsSync T → (ns : List (Linked T.Denot)) → Common (items_lent T ns)
  items_lent-Common y [] κ = tt
  items_lent-Common y (n ∷ ns) κ = (seen T y _ n.value κ, items_lent-Common y ns κ)

  pub Chain-send : IsSend T → IsSend (Chain.the_row T)
  Chain-send s =
      let O = Chain.the_type T in let all : AllSend (fields O) = (search sendable, tt) in
      owning_send O all (λ d. (path-Keyless d.head _, (items-Keyless s d.nodes, ((room _ _, rest-Keyless d.head), (room _ _, rest-Keyless d.tail)))))
      (λ k. quiet (to O) (exits_of k (fields O)) ((struct_send (shape O) all).leaving k))

  pub Chain-sync : IsSync T → IsSync (Chain.the_row T)
  Chain-sync y = let O = Chain.the_type T in record {
    shared = λ d b o κ. ((struct_sync (shape O) (search sendable, tt)).shared (to O d) b o κ, (path_lent-Common d.head _ κ, items_lent-Common y d.nodes κ));
  }
