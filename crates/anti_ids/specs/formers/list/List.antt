-- `List` as a type that may hold the type that holds it.
use mathlib.Core.Path.{◌≡◌, refl, sym, ap}
use mathlib.Core.List.{[]}
use mathlib.Core.List.{List as Sequence}
use mathlib.Core.Former.{Former, this, const, pair, list, via, children}
use Prim.Native.Nat.{ℕ}
use native.Mathlib.Bridge.{le_prop}
use base.Stored.{code_map, gcons, gnum}
use denote.RattleType.{RattleType}
use denote.HoleLaws.{Alike}
use denote.HolePlaces.{Recodes, struct_places, laid}
use denote.Hole.Carrier.{listed, list-listed}
use denote.Hole.Fix.{over}
use denote.Param.Weighed.{Weighed, w_list, w_pair, w_const, w_via}
use denote.Model.Placed.{view_places}
use Rattle.std.specs.formers.vec.Vec as vec
use Rattle.std.specs.declared.alloc.Global.{Global}
use Rattle.std.specs.contracts.alloc.Global as heap
use Rattle.std.specs.contracts.impls.GlobalAllocator.TheImpl.{ghosts}
use Rattle.anti_ids.specs.List.{Listed}
use Rattle.anti_ids.specs.declared.list.List.TheInside.{Inside}
use Rattle.anti_ids.specs.declared.list.List.TheView.{view, invariant}
use Rattle.anti_ids.specs.contracts.list.List as C
use Rattle.anti_ids.specs.contracts.list.List.TheInside as I

abbrev pub the_former : Former {0} → Former {0}
the_former g = via (pair (list g) (const ℕ)) (λ X. Listed (g.Of X)) (λ X l. (l.items, l.spare)) (λ X v. record { items = v.0; spare = v.1 }) (λ X l. refl) (λ X v. refl)

abbrev pub the_weighed : {g : Former {0}} → Weighed g → Weighed (the_former g)
the_weighed {g} w = w_via (w_pair (w_list w) (w_const ℕ)) (λ X. Listed (g.Of X)) (λ X l. (l.items, l.spare)) (λ X v. record { items = v.0; spare = v.1 }) (λ X l. refl) (λ X v. refl)

pub the_empty : Listed ⊥
the_empty = record { items = []; spare = 0 }

abbrev pub the_items : (X : Type 0) → Listed X → Sequence X
the_items X l = l.items

pub the_items_listed : (X : Type 0) (l : Listed X) → listed _ (children (the_former this) X l) ≡ the_items X l
the_items_listed X l = list-listed X l.items

abbrev fields : Former {0}
fields = via (pair (vec.the_former this Global) (const ℕ)) Inside (λ X a. (a.items, a.spare)) (λ X v. record { items = v.0; spare = v.1 }) (λ X a. refl) (λ X v. refl)

module _ (R S : RattleType) (h : R.Denot → S.Denot) where
  pub the_places : Alike R S h → Alike (C.the_row R) (C.the_row S) ((the_former this).map R.Denot S.Denot h)
  the_places a = view_places fields (the_former this) view (λ X Y k u. refl) (λ X u. refl) R.Denot S.Denot h (C.the_row R).coded (C.the_row S).coded
      (invariant R.Denot) (invariant S.Denot) (λ u p q. le_prop p q) (λ u p q. le_prop p q) (λ u e. e) (λ u e. e)
      (over (I.the_row R)) (over (I.the_row S))
      (struct_places (I.the_type R) (I.the_type S) (vec.mapped h, (λ n. n, tt)) _ (λ d. refl) refl (laid _ _ _ (vec.the_places heap.the_row ghosts R S h a), ((refl, (λ n. refl, λ n. refl)), tt)))

  pub the_codes_placed : Recodes R S h → Recodes (C.the_row R) (C.the_row S) ((the_former this).map R.Denot S.Denot h)
  the_codes_placed e d = ap (λ c. gcons c (gnum d.spare)) (sym (code_map R.coded.code S.coded.code h (λ x. sym (e x)) d.items))
