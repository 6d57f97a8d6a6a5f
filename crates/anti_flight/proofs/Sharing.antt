-- A `&` to a chain is made where one to a value is. Assumes `Logic`.
use mathlib.Core.List.{List, [], ◌∷◌, ◌++◌}
use seplogic.Ra.Ura.{Ura}
use base.Fraction.{full_share}
use base.Fml.{Lft, Incl, ftrue}
use contract.BorrowLft.{⊑_static}
use types.Logic.{Logic}
use denote.RattleType.{RattleType, RowLaws}
use denote.Param.Laws.{Laws}
use denote.Param.Shared.{copy_shared}
use denote.RawPtr.{Ptr, RawPtr, lies_at, ptr_row_laws}
use denote.Sharing.{ShrLaws}
use denote.SharingLaws.{beside_shr_laws, nothing_shr_laws}
use denote.Shares.{Shares-less}
use denote.Struct.Field.{RawPtr-field}
use denote.Struct.Laws.{RawPtr-copy}
use denote.Struct.Lending.{Lends, lent_at, lent_at_shr_laws, Lends-lies, Lends-first, Lends-both, Lends-nothing}
use Rattle.anti_flight.specs.inner.Linked.{Linked, places}
use Rattle.anti_flight.specs.inner.Ownership.{prev_of, next_of, edge, path, edge_lent, path_lent, value_of, deed_owns, item_owns, items_own, ends_own, chain_owns, item_lent, items_lent, chain_lent}

path_lent_laws : (a : Ptr) (ps : List Ptr) → ShrLaws (path_lent a ps)
path_lent_laws a [] = nothing_shr_laws
path_lent_laws a (p ∷ ps) = beside_shr_laws _ _ (beside_shr_laws _ _ (lent_at_shr_laws RawPtr ptr_row_laws (next_of a) p) (lent_at_shr_laws RawPtr ptr_row_laws (prev_of p) a)) (path_lent_laws p ps)

module _ (T : RattleType) (LT : RowLaws T) where
  items_lent_laws : (ns : List (Linked T.Denot)) → ShrLaws (items_lent T ns)
  items_lent_laws [] = nothing_shr_laws
  items_lent_laws (n ∷ ns) = beside_shr_laws _ _ (lent_at_shr_laws T LT (value_of T n.place) n.value) (items_lent_laws ns)

  pub chain_lent_laws : (head : Ptr) (ns : List (Linked T.Denot)) (tail : Ptr) → ShrLaws (chain_lent T head ns tail)
  chain_lent_laws head ns tail = beside_shr_laws _ _ (path_lent_laws head (places ns ++ tail ∷ [])) (items_lent_laws ns)

module _ {M : Type 1} {𝓤 : Ura M} (𝓛 : Logic 𝓤) (l : Lft) where
  pointer : (p x : Ptr) → Lends 𝓛 (lies_at RawPtr full_share p x) (lent_at RawPtr p x) l
  pointer p x = Lends-lies 𝓛 RawPtr l p x (Shares-less 𝓛 RawPtr [] l (⊑_static l) ((copy_shared RawPtr-field RawPtr-copy).shares M 𝓤 𝓛) x)

  Lends-path : (a : Ptr) (ps : List Ptr) → Lends 𝓛 (path a ps) (path_lent a ps) l
  Lends-path a [] = Lends-nothing 𝓛 ftrue l
  Lends-path a (p ∷ ps) =
      Lends-both 𝓛 (edge a p) (path p ps) (edge_lent a p) (path_lent p ps) l
      (Lends-both 𝓛 _ _ (lent_at RawPtr (next_of a) p) (lent_at RawPtr (prev_of p) a) l (pointer (next_of a) p) (pointer (prev_of p) a)) (Lends-path p ps)

  module _ (T : RattleType) (LT : Laws T) (inc : Incl l T.lives) where
    Lends-item : (n : Linked T.Denot) → Lends 𝓛 (item_owns T n.place n.value) (item_lent T n) l
    Lends-item n =
        Lends-first 𝓛 (lies_at T full_share (value_of T n.place) n.value) (deed_owns T n.place) (item_lent T n) l
        (Lends-lies 𝓛 T l (value_of T n.place) n.value (Shares-less 𝓛 T T.lives l inc (LT.shares 𝓛) n.value))

    Lends-items : (ns : List (Linked T.Denot)) → Lends 𝓛 (items_own T ns) (items_lent T ns) l
    Lends-items [] = Lends-nothing 𝓛 ftrue l
    Lends-items (n ∷ ns) = Lends-both 𝓛 (item_owns T n.place n.value) (items_own T ns) (item_lent T n) (items_lent T ns) l (Lends-item n) (Lends-items ns)

    pub Lends-chain : (head : Ptr) (ns : List (Linked T.Denot)) (tail : Ptr) → Lends 𝓛 (chain_owns T head ns tail) (chain_lent T head ns tail) l
    Lends-chain head ns tail =
        let ps = places ns ++ tail ∷ [] in
        Lends-both 𝓛 (path head ps) _ (path_lent head ps) (items_lent T ns) l (Lends-path head ps)
        (Lends-first 𝓛 (items_own T ns) (ends_own T head tail) (items_lent T ns) l (Lends-items ns))
