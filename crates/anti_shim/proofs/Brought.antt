-- An id that is taken out of what is carried again.
use Rattle.std.proofs.Common.{◌≡◌, Bool, true, false, not, ◌&&◌, ◌||◌, List, inl, inr, refl, sym, ap, ◌∙◌}
use Rattle.std.proofs.lemmas.Bool.{cases_Bool}
use Rattle.anti_ids.specs.Ids.{has_id, is_id, with_id, without_id}
use Rattle.anti_ids.specs.Invariants.{IsAscending}
use Rattle.anti_ids.specs.declared.id.WriteId.{WriteId}
use Rattle.anti_ids.proofs.IdLemmas.{ascending_filter, ascending_with, has_id-with_id, has_id-without_id, same_id, same_ids}

out_again : (id : WriteId) (ids : List WriteId) → has_id id ids ≡ false → (k : WriteId) → ((is_id k id || has_id k ids) && not (is_id k id)) ≡ has_id k ids
out_again id ids new k =
    elim (cases_Bool (is_id k id)) [
      | inl here ↦ ap (λ (b : Bool). (b || has_id k ids) && not b) here ∙ sym (ap (λ (x : WriteId). has_id x ids) (same_id k id here) ∙ new)
      | inr other ↦ ap (λ (b : Bool). (b || has_id k ids) && not b) other ∙ and_true (has_id k ids)
    ]
  where
    and_true : (b : Bool) → (b && true) ≡ b
    and_true true = refl
    and_true false = refl

pub without_new : (id : WriteId) (ids : List WriteId) → IsAscending ids → has_id id ids ≡ false → without_id id (with_id id ids) ≡ ids
without_new id ids asc new =
    same_ids (without_id id (with_id id ids)) ids (ascending_filter (λ (k : WriteId). not (is_id id k)) (with_id id ids) (ascending_with id ids asc)) asc
    (λ k. has_id-without_id k id (with_id id ids) ∙ ap (λ (b : Bool). b && not (is_id k id)) (has_id-with_id k id ids) ∙ out_again id ids new k)
