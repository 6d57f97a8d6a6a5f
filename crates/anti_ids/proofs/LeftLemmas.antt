-- What is left of the ids of a block, as some of them are gone.
use Rattle.std.proofs.Common.{◌≡◌, ℕ, zero, suc, ◌+◌, ◌<◌, ◌≤◌, List, [], ◌∷◌, Bool, true, false, not, ◌||◌, ◌&&◌, length, get_or, if◌then◌else◌, refl, sym, ap, ◌∙◌, subst, inl, inr, arith}
use Rattle.std.specs.Prelude.{◌≢◌}
use Rattle.std.specs.declared.cmp.Ordering.TheVariants.{Less}
use Rattle.std.proofs.lemmas.Bool.{cond_both, cond-true, cond-false, cases_Bool, or_parts, or_from, or_left}
use Rattle.std.proofs.lemmas.Option.{get_or_from_slice_get}
use Rattle.anti_ids.specs.Each.{Each}
use Rattle.anti_ids.specs.declared.id.WriteId.{WriteId}
use Rattle.anti_ids.specs.Ids.{id_cmp, is_id, has_id, with_id, without_id}
use Rattle.anti_ids.specs.Invariants.{IsAscending, IsLineage}
use Rattle.anti_ids.specs.declared.held_ids.HeldIds.{HeldIds}
use Rattle.anti_ids.specs.declared.held_ids.HeldIds.TheVariants.{Own, Short, Long}
use Rattle.anti_ids.specs.inner.Places.{StandsAt}
use Rattle.anti_ids.specs.inner.Left.{gone_in, is_gone, left_of}
use Rattle.anti_ids.specs.inner.Held.{IsHeld, held_ids}
use Rattle.anti_ids.proofs.IdLemmas.{ascending_with, has_id-with_id, has_id-without_id, is_id-itself, not_after, not_among, same_id, same_ids}
use Rattle.anti_ids.proofs.Places.{each_at}

-- where none is gone all are left
pub all_left : (words : List ℕ) (k : ℕ) (ids : List WriteId) → ((n : ℕ) → is_gone words n ≡ false) → left_of words k ids ≡ ids
all_left words k [] none = refl
all_left words k (i ∷ is) none =
    cond-false (is_gone words k) (left_of words (k + 1) is) (i ∷ left_of words (k + 1) is) (none k) ∙ ap (λ (x : List WriteId). i ∷ x) (all_left words (k + 1) is none)

-- the first is gone, or is left
pub first_gone : (words : List ℕ) (k : ℕ) (i : WriteId) (is : List WriteId) → is_gone words k ≡ true → left_of words k (i ∷ is) ≡ left_of words (k + 1) is
first_gone words k i is gone = cond-true (is_gone words k) (left_of words (k + 1) is) (i ∷ left_of words (k + 1) is) gone

pub first_left : (words : List ℕ) (k : ℕ) (i : WriteId) (is : List WriteId) → is_gone words k ≡ false → left_of words k (i ∷ is) ≡ i ∷ left_of words (k + 1) is
first_left words k i is left = cond-false (is_gone words k) (left_of words (k + 1) is) (i ∷ left_of words (k + 1) is) left

-- What holds of a set holds of what is left of it.
pub each_left : (P : WriteId → Type 0) (words : List ℕ) (k : ℕ) (ids : List WriteId) → Each P ids → Each P (left_of words k ids)
each_left P words k [] each = tt
each_left P words k (i ∷ is) each =
    let more : Each P (left_of words (k + 1) is) = each_left P words (k + 1) is each.1 in
    cond_both (is_gone words k) (left_of words (k + 1) is) (i ∷ left_of words (k + 1) is) (Each P) (λ _. more) (λ _. (each.0, more))

pub ascending_left : (words : List ℕ) (k : ℕ) (ids : List WriteId) → IsAscending ids → IsAscending (left_of words k ids)
ascending_left words k [] asc = tt
ascending_left words k (i ∷ is) asc =
    let more : IsAscending (left_of words (k + 1) is) = ascending_left words (k + 1) is asc.1 in
    cond_both (is_gone words k) (left_of words (k + 1) is) (i ∷ left_of words (k + 1) is) IsAscending (λ _. more)
    (λ _. (each_left (λ j. id_cmp i j ≡ Less) words (k + 1) is asc.0, more))

pub length-left-le : (words : List ℕ) (k : ℕ) (ids : List WriteId) → length (left_of words k ids) ≤ length ids
length-left-le words k [] = omega arith
length-left-le words k (i ∷ is) =
    let more : length (left_of words (k + 1) is) ≤ length is = length-left-le words (k + 1) is in
    cond_both (is_gone words k) (left_of words (k + 1) is) (i ∷ left_of words (k + 1) is) (λ x. length x ≤ suc (length is)) (λ _. omega arith) (λ _. omega arith)

one_more : (b : Bool) (i : WriteId) (rest : List WriteId) (gone all : ℕ) → length rest + gone ≡ all → length (if b then rest else (i ∷ rest)) + ((if b then 1 else 0) + gone) ≡ suc all
one_more true i rest gone all more = omega (arith, more)
one_more false i rest gone all more = omega (arith, more)

-- those that are left and those that are gone are all
pub length-left : (words : List ℕ) (k : ℕ) (ids : List WriteId) → length (left_of words k ids) + gone_in words k (length ids) ≡ length ids
length-left words k [] = omega arith
length-left words k (i ∷ is) = one_more (is_gone words k) i (left_of words (k + 1) is) (gone_in words (k + 1) (length is)) (length is) (length-left words (k + 1) is)

pub lineage_left : (words : List ℕ) (ids : List WriteId) → IsLineage ids → IsLineage (left_of words 0 ids)
lineage_left words ids l =
    record {
      ascending = ascending_left words 0 ids l.ascending;
      written = each_left (λ i. 1 ≤ i.version) words 0 ids l.written;
      short = omega (arith, length-left-le words 0 ids, l.short);
    }

-- an id that is not there is not left
pub absent_left : (i : WriteId) (words : List ℕ) (k : ℕ) (ids : List WriteId) → has_id i ids ≡ false → has_id i (left_of words k ids) ≡ false
absent_left i words k [] absent = refl
absent_left i words k (j ∷ js) absent =
    let apart = or_parts (is_id i j) (has_id i js) absent in
    let more : has_id i (left_of words (k + 1) js) ≡ false = absent_left i words (k + 1) js apart.1 in
    cond_both (is_gone words k) (left_of words (k + 1) js) (j ∷ left_of words (k + 1) js) (λ x. has_id i x ≡ false) (λ _. more)
    (λ _. or_from (is_id i j) (has_id i (left_of words (k + 1) js)) apart.0 more)

-- taking out what is not there changes nothing
pub without_absent : (i : WriteId) (ids : List WriteId) → has_id i ids ≡ false → without_id i ids ≡ ids
without_absent i [] absent = refl
without_absent i (j ∷ js) absent =
    let apart = or_parts (is_id i j) (has_id i js) absent in
    cond-true (not (is_id i j)) (j ∷ without_id i js) (without_id i js) (ap not apart.0) ∙ ap (λ (x : List WriteId). j ∷ x) (without_absent i js apart.1)

-- an id is left where it is not gone
pub left_at : (i : WriteId) (words : List ℕ) (k : ℕ) (ids : List WriteId) (at n : ℕ) (d : WriteId) → IsAscending ids → at < length ids → get_or ids at d ≡ i → n ≡ k + at
    → has_id i (left_of words k ids) ≡ not (is_gone words n)
left_at i words k [] at n d asc within here place = absurd (omega arith)
left_at i words k (j ∷ js) zero n d asc within here place =
    let is_place : n ≡ k = omega arith in
    let behind : has_id j (left_of words (k + 1) js) ≡ false = not_among j (left_of words (k + 1) js) (each_left (λ x. id_cmp j x ≡ Less) words (k + 1) js asc.0) in
    let told : has_id j (left_of words k (j ∷ js)) ≡ not (is_gone words k) =
    elim (cases_Bool (is_gone words k)) [
      | inl gone ↦ ap (λ (x : List WriteId). has_id j x) (first_gone words k j js gone) ∙ behind ∙ sym (ap not gone)
      | inr left ↦
          ap (λ (x : List WriteId). has_id j x) (first_left words k j js left) ∙ or_left (is_id j j) (has_id j (left_of words (k + 1) js)) (is_id-itself j) ∙ sym (ap not left)
    ] in
    ap (λ (x : WriteId). has_id x (left_of words k (j ∷ js))) (sym here) ∙ told ∙ ap (λ (x : ℕ). not (is_gone words x)) (sym is_place)
left_at i words k (j ∷ js) (suc at) n d asc within here place =
    let low : id_cmp j i ≡ Less = subst (λ (x : WriteId). id_cmp j x ≡ Less) here (each_at (λ x. id_cmp j x ≡ Less) js at d asc.0 (omega arith)) in
    let more : has_id i (left_of words (k + 1) js) ≡ not (is_gone words n) = left_at i words (k + 1) js at n d asc.1 (omega arith) here (omega arith) in
    cond_both (is_gone words k) (left_of words (k + 1) js) (j ∷ left_of words (k + 1) js) (λ x. has_id i x ≡ not (is_gone words n)) (λ _. more)
    (λ _. ap (λ (b : Bool). b || has_id i (left_of words (k + 1) js)) (not_after i j low) ∙ more)

-- what is left is the same where the same are gone from an index on
same_left : (words changed : List ℕ) (k : ℕ) (ids : List WriteId) → ((n : ℕ) → k ≤ n → is_gone changed n ≡ is_gone words n) → left_of changed k ids ≡ left_of words k ids
same_left words changed k [] same = refl
same_left words changed k (i ∷ is) same =
    let more : left_of changed (k + 1) is ≡ left_of words (k + 1) is = same_left words changed (k + 1) is (λ n le. same n (omega arith)) in
    let here : is_gone changed k ≡ is_gone words k = same k (omega arith) in
    elim (cases_Bool (is_gone words k)) [
      | inl gone ↦ first_gone changed k i is (here ∙ gone) ∙ more ∙ sym (first_gone words k i is gone)
      | inr left ↦ first_left changed k i is (here ∙ left) ∙ ap (λ (x : List WriteId). i ∷ x) more ∙ sym (first_left words k i is left)
    ]

-- with one more gone, what is left is the set without it
pub left_without : (i : WriteId) (words changed : List ℕ) (k : ℕ) (ids : List WriteId) (at n : ℕ) (d : WriteId) → IsAscending ids → at < length ids → get_or ids at d ≡ i → n ≡ k + at
    → is_gone changed n ≡ true → ((m : ℕ) → m ≢ n → is_gone changed m ≡ is_gone words m) → left_of changed k ids ≡ without_id i (left_of words k ids)
left_without i words changed k [] at n d asc within here place gone_now others = absurd (omega arith)
left_without i words changed k (j ∷ js) zero n d asc within here place gone_now others =
    let is_place : n ≡ k = omega arith in
    let rest : left_of changed (k + 1) js ≡ left_of words (k + 1) js = same_left words changed (k + 1) js (λ m le. others m (λ e. omega arith)) in
    let now : left_of changed k (j ∷ js) ≡ left_of words (k + 1) js = first_gone changed k j js (ap (λ (x : ℕ). is_gone changed x) (sym is_place) ∙ gone_now) ∙ rest in
    let behind : has_id j (left_of words (k + 1) js) ≡ false = not_among j (left_of words (k + 1) js) (each_left (λ x. id_cmp j x ≡ Less) words (k + 1) js asc.0) in
    let out : without_id j (left_of words (k + 1) js) ≡ left_of words (k + 1) js = without_absent j (left_of words (k + 1) js) behind in
    let told : left_of words (k + 1) js ≡ without_id j (left_of words k (j ∷ js)) =
    elim (cases_Bool (is_gone words k)) [
      | inl gone ↦ sym out ∙ ap (λ (x : List WriteId). without_id j x) (sym (first_gone words k j js gone))
      | inr left ↦
          sym (ap (λ (x : List WriteId). without_id j x) (first_left words k j js left) ∙ cond-false (not (is_id j j)) (j ∷ without_id j (left_of words (k + 1) js)) (without_id j (left_of words (k + 1) js)) (ap not (is_id-itself j)) ∙ out)
    ] in
    now ∙ told ∙ ap (λ (x : WriteId). without_id x (left_of words k (j ∷ js))) here
left_without i words changed k (j ∷ js) (suc at) n d asc within here place gone_now others =
    let low : id_cmp j i ≡ Less = subst (λ (x : WriteId). id_cmp j x ≡ Less) here (each_at (λ x. id_cmp j x ≡ Less) js at d asc.0 (omega arith)) in
    let more : left_of changed (k + 1) js ≡ without_id i (left_of words (k + 1) js) = left_without i words changed (k + 1) js at n d asc.1 (omega arith) here (omega arith) gone_now others in
    let same : is_gone changed k ≡ is_gone words k = others k (λ e. omega arith) in
    elim (cases_Bool (is_gone words k)) [
      | inl gone ↦ first_gone changed k j js (same ∙ gone) ∙ more ∙ ap (λ (x : List WriteId). without_id i x) (sym (first_gone words k j js gone))
      | inr left ↦
          first_left changed k j js (same ∙ left) ∙ ap (λ (x : List WriteId). j ∷ x) more
          ∙ sym (ap (λ (x : List WriteId). without_id i x) (first_left words k j js left) ∙ cond-true (not (is_id i j)) (j ∷ without_id i (left_of words (k + 1) js)) (without_id i (left_of words (k + 1) js)) (ap not (not_after i j low)))
    ]

in_again : (is has : Bool) → (is ≡ true → has ≡ true) → (is || (has && not is)) ≡ has
in_again true has there = sym (there refl)
in_again false true there = refl
in_again false false there = refl

-- an id that has its place in a block is left where it is not gone, and one more gone takes it out
module _ (i : WriteId) (ids : List WriteId) (at : ℕ) (asc : IsAscending ids) (place : StandsAt i ids at) where
  here : get_or ids at i ≡ i
  here = get_or_from_slice_get ids at i i place.is

  pub left_where : (words : List ℕ) → has_id i (left_of words 0 ids) ≡ not (is_gone words at)
  left_where words = left_at i words 0 ids at at i asc place.within here (omega arith)

  pub left_without_one : (words changed : List ℕ) → is_gone changed at ≡ true → ((m : ℕ) → m ≢ at → is_gone changed m ≡ is_gone words m)
      → left_of changed 0 ids ≡ without_id i (left_of words 0 ids)
  left_without_one words changed gone_now others = left_without i words changed 0 ids at at i asc place.within here (omega arith) gone_now others

  -- one that is gone no more comes in
  pub left_with_one : (words changed : List ℕ) → is_gone words at ≡ true → is_gone changed at ≡ false → ((m : ℕ) → m ≢ at → is_gone changed m ≡ is_gone words m)
      → left_of changed 0 ids ≡ with_id i (left_of words 0 ids)
  left_with_one words changed gone back others =
      let whole = left_of changed 0 ids in
      let rising : IsAscending whole = ascending_left changed 0 ids asc in
      let out : left_of words 0 ids ≡ without_id i whole = left_without_one changed words gone (λ m apart. sym (others m apart)) in
      let there : has_id i whole ≡ true = left_where changed ∙ ap not back in
      let members : (j : WriteId) → has_id j whole ≡ has_id j (with_id i (without_id i whole)) = λ j.
      sym (has_id-with_id j i (without_id i whole) ∙ ap (λ (b : Bool). is_id j i || b) (has_id-without_id j i whole)
      ∙ in_again (is_id j i) (has_id j whole) (λ is. ap (λ (x : WriteId). has_id x whole) (same_id j i is) ∙ there)) in
      same_ids whole (with_id i (without_id i whole)) rising (ascending_with i (without_id i whole) (subst IsAscending out (ascending_left words 0 ids asc))) members
      ∙ ap (λ (x : List WriteId). with_id i x) (sym out)

-- how a lineage is held does not change that it is one
pub lineage_held : (h : HeldIds) → IsHeld h → IsLineage (held_ids h)
lineage_held (Own ids) l = l.lineage
lineage_held (Short short) l = lineage_left short.words short.block l.lineage
lineage_held (Long long) l = lineage_left long.words.value long.block l.lineage
