-- What is carried after a write that keeps what it handed in.
use Rattle.std.proofs.Common.{◌≡◌, Bool, true, false, ◌||◌, List, [], ◌∷◌, length, Result, Ok, Err, refl, sym, ap, ◌∙◌, arith}
use Rattle.anti_ids.specs.Ids.{has_id, is_id, with_id, with_ids}
use Rattle.anti_ids.specs.Invariants.{IsAscending}
use Rattle.anti_ids.specs.declared.id.WriteId.{WriteId}
use Rattle.anti_ids.proofs.IdLemmas.{ascending_with, ascending_with_ids, has_id-with_id, has_id-with_ids, same_ids}
use Rattle.anti_shim.specs.declared.fault.ShimFault.{ShimFault}
use Rattle.anti_shim.specs.Shims.{Appends}

twice : (one many : Bool) → (one || many) ≡ ((one || many) || many)
twice true many = refl
twice false true = refl
twice false false = refl

-- ids that are there already add nothing
with_ids-twice : (id : WriteId) (ids : List WriteId) → IsAscending ids → with_id id ids ≡ with_ids (id ∷ ids) ids
with_ids-twice id ids asc =
    same_ids (with_id id ids) (with_ids (id ∷ ids) ids) (ascending_with id ids asc) (ascending_with_ids (id ∷ ids) ids asc)
    (λ i. has_id-with_id i id ids ∙ twice (is_id i id) (has_id i ids) ∙ sym (has_id-with_ids i (id ∷ ids) ids))

-- so the id alone makes what is carried
pub appends_alone : (id : WriteId) (old new : List WriteId) → IsAscending old → (result : Result WriteId ShimFault) → Appends id [] old new result → Appends id old old new result
appends_alone id old new asc (Ok given) (same, is, few) =
    let alone : with_id id old ≡ with_ids (id ∷ old) old = with_ids-twice id old asc in (same, is ∙ alone, omega (arith, few, ap length alone))
appends_alone id old new asc (Err fault) (full, stays, many) =
    let alone : with_id id old ≡ with_ids (id ∷ old) old = with_ids-twice id old asc in (full, stays, omega (arith, many, ap length alone))
