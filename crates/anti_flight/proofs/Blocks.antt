-- What `allocate` and `deallocate` share: a block is cut into its three fields, and made of them again. Assumes `Logic`.
use Prim.Native.Nat.{◌+◌, ℕ}
use mathlib.Core.List.{[], ◌∷◌}
use seplogic.Ra.Ura.{Ura}
use mir.Syntax.{Ty, Tys, Sym, ty_ptr, ty_struct, tcons, tnil}
use base.Logic.{SProp, ent, sep, wand, apply∗}
use base.Fml.{Fml, ftrue, fsep, froom}
use prog.Model.{rooms_at}
use types.Logic.{Logic, sem}
use types.Kit.{‵, raw, ◌⊛◌, ◌$◌, ◌∵◌, !, qed, by, move, drop, use1, use2, group, split, split3, assume, fsplit, fjoin, done}
use denote.Param.{layout}
use denote.RawPtr.{Ptr, block_ptr}
use denote.Steps.{nothing}
use Rattle.std.proofs.RawLayout.{as_raw, as_written}
use Rattle.anti_flight.specs.inner.Ownership.{node_type, link_room, value_room, rejoins}
use Rattle.anti_flight.specs.contracts.block.Node as N-type
use Rattle.anti_flight.proofs.Memory.{One, RT, vo}

module _ (E : One) where
  -- the node's type as the code writes it, and as the allocator is asked for it
  abbrev pub written : Ty
  written = layout (N-type.the_row (RT E))

  abbrev pub block : Ty
  block = node_type (RT E)

  -- the fields with nothing in them
  abbrev pub fields_room : Ptr → Fml
  fields_room p = fsep (link_room p) (value_room (RT E) p)

module _ (E : One) {M : Type 1} {𝓤 : Ura M} (𝓛 : Logic 𝓤) (b o : ℕ) where
  open 𝓛 use {H}

  abbrev ν : Sym
  ν = (N-type.the_type (RT E)).name

  abbrev fields : Tys
  fields = tcons ty_ptr (tcons ty_ptr (tcons (layout E.row) tnil))

  abbrev Joins : SProp 𝓤
  Joins = wand 𝓤 (rooms_at 𝓤 H fields 0 b o) (H.room (ty_struct ν fields) b o)

  joined : ent 𝓤 Joins (sem 𝓛 (rejoins (RT E) (block_ptr b o)))
  joined =
      qed 𝓛 (raw Joins ∷ []) ∵ assume ! (‵ (fields_room E (block_ptr b o))) $ fsplit ! $ fsplit ! $ move ! (2 ∷ []) $
      as_written ! (layout E.row) b (o + vo E) $ nothing ! $ move ! (2 ∷ 3 ∷ 1 ∷ 0 ∷ []) $ group ! 4 $
      use2 𝓛 (‵ (froom (ty_struct ν fields) b o)) (apply∗ 𝓤 (rooms_at 𝓤 H fields 0 b o) (H.room (ty_struct ν fields) b o)) $ by ! (𝓛.laws.room-raw (ty_struct ν fields) b o)

  pub block_cut : ent 𝓤 (H.room (block E) b o) (sep 𝓤 (sem 𝓛 (fields_room E (block_ptr b o))) (sem 𝓛 (rejoins (RT E) (block_ptr b o))))
  block_cut =
      qed 𝓛 (‵ (froom (block E) b o) ∷ []) ∵ as_written ! (ty_struct ν fields) b o $
      use1 𝓛 ((‵ (froom ty_ptr b (o + 0)) ⊛ ‵ (froom ty_ptr b (o + 8)) ⊛ ‵ (froom (layout E.row) b (o + vo E)) ⊛ ‵ ftrue) ⊛ raw Joins)
      (𝓛.laws.room_fields ν fields b o) $ split ! $ split3 ! $ fjoin ! $ move ! (1 ∷ []) $ split ! $ move ! (1 ∷ []) $ drop ! $
      as_raw ! (layout E.row) b (o + vo E) $ move ! (1 ∷ 0 ∷ []) $ fjoin ! $
      move ! (1 ∷ []) $ use1 𝓛 (‵ (rejoins (RT E) (block_ptr b o))) joined $ move ! (1 ∷ []) $ done !

  pub block_glue : ent 𝓤 (sep 𝓤 (sem 𝓛 (fields_room E (block_ptr b o))) (sem 𝓛 (rejoins (RT E) (block_ptr b o)))) (H.room (block E) b o)
  block_glue = apply∗ 𝓤 (sem 𝓛 (fields_room E (block_ptr b o))) (H.room (block E) b o)
