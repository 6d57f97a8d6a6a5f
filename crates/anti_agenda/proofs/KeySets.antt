-- The keys that a set lists, where those that its order does not tell apart are the same.
use Rattle.std.proofs.Common.{◌≡◌, zero, suc, ◌+◌, ◌<◌, ◌⊎◌, ◌↔◌, Bool, true, false, cond, length, Contains, refl, sym, ap, ◌∙◌, inl, inr, arith}
use Rattle.std.specs.Ordering.{is_eq}
use Rattle.std.specs.declared.cmp.Ordering.{Ordering}
use Rattle.std.specs.BTreeMap.{is_at}
use Rattle.std.specs.BTreeSet.{BTreeSet, Updates, contains}
use Rattle.std.specs.Cmp.{IsTotalOrder}
use Rattle.std.proofs.lemmas.Bool.{cases_Bool, false_from_ne_true}
use Rattle.std.proofs.lemmas.Cmp.{tied_itself}
use Rattle.std.proofs.lemmas.Map.Lookups.{CmpEqualImpliesEq}
use Rattle.std.proofs.lemmas.Map.Views.{btree_set_contains_iff, tells_apart}

here_or_before : (here before : Bool) → cond here true before ≡ true → (here ≡ true) ⊎ (before ≡ true)
here_or_before true before is = inl refl
here_or_before false before is = inr is

or_there : (here : Bool) → cond here true true ≡ true
or_there true = refl
or_there false = refl

before_alone : (here before : Bool) → cond here false before ≡ true → (here ≡ false) × (before ≡ true)
before_alone true before is = absurd (cc)
before_alone false before is = (refl, is)

module _ {K : Type 0} {R : K → K → Ordering} (total : IsTotalOrder R) (exact : CmpEqualImpliesEq R) where
  own_place : (k q : K) → q ≡ k → is_at (R k) q ≡ true
  own_place k q same = ap (is_at (R k)) same ∙ ap is_eq (tied_itself total k)

  pub same_or_apart : (k q : K) → (q ≡ k) ⊎ (q ≡ k → ⊥)
  same_or_apart k q =
      elim (cases_Bool (is_at (R k) q)) [
        | inl here ↦ inl (sym (tells_apart exact k q here))
        | inr apart ↦ inr (λ same. absurd (let here : is_at (R k) q ≡ true = own_place k q same in cc))
      ]

  pub is_found : (s : BTreeSet K) (k : K) → Contains s.keys k → contains R s k ≡ true
  is_found s k = (btree_set_contains_iff total exact s k).1

  pub found_is : (s : BTreeSet K) (k : K) → contains R s k ≡ true → Contains s.keys k
  found_is s k = (btree_set_contains_iff total exact s k).0

  -- one key more
  pub with_key : (old new : BTreeSet K) (k : K) → Updates R old new k true
      → (q : K) → Contains new.keys q ↔ ((q ≡ k) ⊎ Contains old.keys q)
  with_key old new k updates q = (there, back)
    where
      there : Contains new.keys q → (q ≡ k) ⊎ Contains old.keys q
      there has =
          elim (here_or_before (is_at (R k) q) (contains R old q) (sym (updates.0 q) ∙ is_found new q has)) [
            | inl here ↦ inl (sym (tells_apart exact k q here))
            | inr before ↦ inr (found_is old q before)
          ]

      back : (q ≡ k) ⊎ Contains old.keys q → Contains new.keys q
      back (inl same) = found_is new q (updates.0 q ∙ ap (λ (t : Bool). cond t true (contains R old q)) (own_place k q same))
      back (inr had) =
          found_is new q
          (updates.0 q ∙ ap (λ (t : Bool). cond (is_at (R k) q) true t) (is_found old q had) ∙ or_there (is_at (R k) q))

  -- one key fewer
  pub without_key : (old new : BTreeSet K) (k : K) → Updates R old new k false
      → (q : K) → Contains new.keys q ↔ (Contains old.keys q × (q ≡ k → ⊥))
  without_key old new k updates q = (there, back)
    where
      there : Contains new.keys q → Contains old.keys q × (q ≡ k → ⊥)
      there has =
          let parts = before_alone (is_at (R k) q) (contains R old q) (sym (updates.0 q) ∙ is_found new q has) in
          (found_is old q parts.1, λ same. absurd (let here : is_at (R k) q ≡ true = own_place k q same in cc))

      back : Contains old.keys q × (q ≡ k → ⊥) → Contains new.keys q
      back kept =
          let apart : is_at (R k) q ≡ false =
          false_from_ne_true (is_at (R k) q) (λ here. kept.1 (sym (tells_apart exact k q here))) in
          found_is new q (updates.0 q ∙ ap (λ (t : Bool). cond t false (contains R old q)) apart ∙ is_found old q kept.0)

  pub fewer_keys : (old new : BTreeSet K) (k : K) (was : Bool) → was ≡ contains R old k → length new.keys + cond was 1 0 ≡ length old.keys
      → Contains old.keys k → length new.keys < length old.keys
  fewer_keys old new k was test count has =
      let one : cond was 1 0 ≡ suc zero = ap (λ (t : Bool). cond t 1 0) (test ∙ is_found old k has) in
      omega (arith, count, one)
