-- Stores are shared one by one.
use Rattle.std.proofs.Common.{◌≡◌, ℕ, ◌+◌, ◌<◌, ◌≤◌, ◌⊎◌, List, [], ◌∷◌, ◌++◌, length, take, get_or, inl, inr, sym, ap, subst, ◌∙◌, arith}
use Rattle.std.specs.Prelude.{Some, slice_get}
use Rattle.std.proofs.lemmas.List.{length-take-le, length_push}
use Rattle.std.proofs.lemmas.Option.{slice_get_within}
use Rattle.anti_object.specs.declared.object.Object.{Object}
use Rattle.anti_object.specs.Standing.{object_start}
use Rattle.anti_shared.specs.Passes.{PassView, SharedView, start_of}
use Rattle.anti_live.specs.declared.stores.LiveStore.{LiveStore}
use Rattle.anti_live.specs.Stores.{start_at}
use Rattle.anti_live.specs.inner.Lives.{AreShared, IsSharedAt}
use Rattle.anti_live.proofs.Pushed.{at_push, push_next}

module _ (stores : List LiveStore) (shareds : List (SharedView Object)) (are : AreShared stores shareds) (s : LiveStore) (x : SharedView Object) (pass : PassView Object)
    (made : IsSharedAt (length stores) s (x, pass)) where
  started : (n : ℕ) (t : LiveStore) (y : SharedView Object) → slice_get (stores ++ s ∷ []) n ≡ Some t → ((n ≡ length shareds) × (x ≡ y)) ⊎ (slice_get shareds n ≡ Some y)
      → start_of object_start y.id ≡ Some (start_at n t)
  started n t y there at =
      let many = are.count in
      elim (at_push stores s n t there) [
        | inl last ↦ elim at as (λ _. start_of object_start y.id ≡ Some (start_at n t)) [
          | inl this ↦
              subst (λ (z : ℕ × LiveStore × SharedView Object). start_of object_start z.2.id ≡ Some (start_at z.0 z.1))
              (λ i. (sym last.0 i, last.1 i, this.1 i)) made.start_is
          | inr before ↦ absurd (let low = slice_get_within shareds n y before in let n_is = last.0 in omega arith)
        ]
        | inr earlier ↦ elim at as (λ _. start_of object_start y.id ≡ Some (start_at n t)) [
          | inl this ↦ absurd (let low = slice_get_within stores n t earlier in let n_is = this.0 in omega arith)
          | inr before ↦ are.start n t y earlier before
        ]
      ]

  shared_more : AreShared (stores ++ s ∷ []) (shareds ++ x ∷ [])
  shared_more =
      let many = are.count in
      let more_stores = length_push stores s in
      let more_shareds = length_push shareds x in
      record {
        count = omega arith;
        object = λ n y at. elim (at_push shareds x n y at) [
          | inl last ↦ ap (λ (z : SharedView Object). z.id.object) (sym last.1) ∙ made.object_is ∙ sym many ∙ sym last.0
          | inr before ↦ are.object n y before
        ];
        start = λ n t y there at. started n t y there (at_push shareds x n y at);
      }

-- the stores up to this one are shared
pub next_shared : (stores : List LiveStore) (n : ℕ) (s : LiveStore) → n < length stores → s ≡ get_or stores n s → (shareds : List (SharedView Object)) → AreShared (take n stores) shareds
    → (x : SharedView Object) (pass : PassView Object) → IsSharedAt n s (x, pass) → AreShared (take (n + 1) stores) (shareds ++ x ∷ [])
next_shared stores n s low is shareds are x pass made =
    let within : n ≤ length stores = omega arith in
    subst (λ (front : List LiveStore). AreShared front (shareds ++ x ∷ [])) (push_next stores n s low is)
    (shared_more (take n stores) shareds are s x pass (subst (λ (k : ℕ). IsSharedAt k s (x, pass)) (sym (length-take-le n stores within)) made))
