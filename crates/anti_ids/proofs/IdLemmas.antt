-- The order of ids, ids among others, and the sets that lineages are.
use Rattle.std.proofs.Common.{◌≡◌, ℕ, suc, ◌+◌, ◌≤◌, ◌++◌, List, [], ◌∷◌, Bool, true, false, not, ◌||◌, ◌&&◌, length, refl, sym, ap, ◌∙◌, subst, inl, inr, arith}
use Rattle.std.specs.Prelude.{◌==◌}
use Rattle.std.specs.declared.cmp.Ordering.{Ordering}
use Rattle.std.specs.declared.cmp.Ordering.TheVariants.{Less, Equal, Greater}
use Rattle.std.specs.Cmp.{IsTotalOrder, Equal-is}
use Rattle.std.specs.Ordering.{ordering_reverse, ordering_then, is_eq, nat_cmp}
use Rattle.std.specs.Cmp.Lexicographic.{slice_cmp}
use Rattle.std.specs.List.{filter, Contains}
use Rattle.std.proofs.lemmas.Cmp.{then_total, on_total, nat_cmp_total, nat_list_cmp_total, tied_itself, eq_by_cmp_equiv}
use Rattle.std.proofs.lemmas.List.Folds.{list_any_at}
use Rattle.std.proofs.lemmas.Map.Lookups.{exact_unsigned, exact_bytes}
use Rattle.std.proofs.lemmas.Map.Views.{any-filter_same}
use Rattle.std.proofs.lemmas.Bool.{cond_both, cond-true, cond-false, cases_Bool, both_ways, false≢true, or_cases, or_parts, or_from, or_left, or_right, and_from, and_parts}
use Rattle.anti_ids.specs.Each.{Each}
use Rattle.anti_ids.specs.declared.id.WriteId.{WriteId}
use Rattle.anti_ids.specs.declared.limits.TheConstants.{MOST_IDS}
use Rattle.anti_ids.specs.Ids.{id_cmp, is_id, has_id, placed, with_id, with_ids, without_id, ids_of}
use Rattle.anti_ids.specs.Invariants.{IsAscending, IsLineage}

pub id_total : IsTotalOrder id_cmp
id_total = then_total (on_total (λ (i : WriteId). i.store) nat_cmp_total) (then_total (on_total (λ (i : WriteId). i.version) nat_cmp_total) (on_total (λ (i : WriteId). i.key) nat_list_cmp_total))

reversed : (a b : Ordering) → a ≡ ordering_reverse b → a ≡ Greater → b ≡ Less
reversed a Less e g = refl
reversed a Equal e g = absurd (cc)
reversed a Greater e g = absurd (cc)

-- what comes after comes the other way round before, and what comes before after
pub turned : (i j : WriteId) → id_cmp i j ≡ Greater → id_cmp j i ≡ Less
turned i j g = reversed (id_cmp i j) (id_cmp j i) (id_total.antisymm i j) g

pub turned_back : (i j : WriteId) → id_cmp i j ≡ Less → id_cmp j i ≡ Greater
turned_back i j l = id_total.antisymm j i ∙ ap ordering_reverse l

-- ids that tie are the same
first_ties : (a b : Ordering) → ordering_then a b ≡ Equal → a ≡ Equal
first_ties Less b e = e
first_ties Equal b e = refl
first_ties Greater b e = e

second_ties : (a b : Ordering) → ordering_then a b ≡ Equal → b ≡ Equal
second_ties Less b e = absurd (cc)
second_ties Equal b e = e
second_ties Greater b e = absurd (cc)

abbrev id_of : ℕ → List ℕ → ℕ → WriteId
id_of store key version = record { store = store; key = key; version = version }

same_parts : (i j : WriteId) → i.store ≡ j.store → i.key ≡ j.key → i.version ≡ j.version → i ≡ j
same_parts i j s k v =
    ap (λ (x : ℕ). id_of x i.key i.version) s ∙ ap (λ (x : List ℕ). id_of j.store x i.version) k ∙ ap (λ (x : ℕ). id_of j.store j.key x) v

pub same_from_tie : (i j : WriteId) → id_cmp i j ≡ Equal → i ≡ j
same_from_tie i j e =
    let by_store = nat_cmp i.store j.store in
    let by_version = nat_cmp i.version j.version in
    let by_key = slice_cmp nat_cmp i.key j.key in
    let rest : ordering_then by_version by_key ≡ Equal = second_ties by_store (ordering_then by_version by_key) e in
    same_parts i j (exact_unsigned i.store j.store (first_ties by_store (ordering_then by_version by_key) e)) (exact_bytes i.key j.key (second_ties by_version by_key rest))
    (exact_unsigned i.version j.version (first_ties by_version by_key rest))

pub same_id : (i j : WriteId) → is_id i j ≡ true → i ≡ j
same_id i j t = same_from_tie i j ((Equal-is (id_cmp i j)).0 t)

pub is_id-itself : (i : WriteId) → is_id i i ≡ true
is_id-itself i = ap is_eq (tied_itself id_total i)

-- ids before or after an id are no other names of it
pub not_before : (i j : WriteId) → id_cmp i j ≡ Less → is_id i j ≡ false
not_before i j e = ap is_eq e

pub not_after : (i j : WriteId) → id_cmp j i ≡ Less → is_id i j ≡ false
not_after i j e = ap is_eq (turned_back j i e)

-- facts of each id
pub each_weaker : (P Q : WriteId → Type 0) → ((i : WriteId) → P i → Q i) → (ids : List WriteId) → Each P ids → Each Q ids
each_weaker P Q weaker [] each = tt
each_weaker P Q weaker (i ∷ is) each = (weaker i each.0, each_weaker P Q weaker is each.1)

pub each_filter : (P : WriteId → Type 0) (p : WriteId → Bool) (ids : List WriteId) → Each P ids → Each P (filter p ids)
each_filter P p [] each = tt
each_filter P p (i ∷ is) each =
    let more : Each P (filter p is) = each_filter P p is each.1 in
    cond_both (p i) (i ∷ filter p is) (filter p is) (Each P) (λ _. (each.0, more)) (λ _. more)

-- a fact of each id is one of every id that is among them, and the other way round
pub each_has : (P : WriteId → Type 0) (ids : List WriteId) → Each P ids → (i : WriteId) → has_id i ids ≡ true → P i
each_has P [] each i has = absurd (cc)
each_has P (j ∷ js) each i has =
    elim (or_cases (is_id i j) (has_id i js) has) [ inl here ↦ subst P (sym (same_id i j here)) each.0 | inr further ↦ each_has P js each.1 i further ]

pub each_from_has : (P : WriteId → Type 0) (ids : List WriteId) → ((i : WriteId) → has_id i ids ≡ true → P i) → Each P ids
each_from_has P [] all = tt
each_from_has P (i ∷ is) all =
    (all i (or_left (is_id i i) (has_id i is) (is_id-itself i)), each_from_has P is (λ k has. all k (or_right (is_id k i) (has_id k is) has)))

pub has_id-from_Contains : (i : WriteId) (ids : List WriteId) → Contains ids i → has_id i ids ≡ true
has_id-from_Contains i ids h = list_any_at (λ j. is_id i j) ids h.0 i h.1 (ap (λ (j : WriteId). is_id i j) h.2 ∙ is_id-itself i)

pub Contains-from_has_id : (i : WriteId) (ids : List WriteId) → has_id i ids ≡ true → Contains ids i
Contains-from_has_id i ids has = each_has (Contains ids) ids (each_contained ids) i has
  where
    each_contained : (ids : List WriteId) → Each (Contains ids) ids
    each_contained [] = tt
    each_contained (j ∷ js) =
        ((0, omega arith, refl), each_weaker (Contains js) (Contains (j ∷ js)) (λ k h. (suc h.0, omega (arith, h.1), h.2)) js (each_contained js))

pub each_further : (i j : WriteId) (js : List WriteId) → id_cmp i j ≡ Less → Each (λ k. id_cmp j k ≡ Less) js → Each (λ k. id_cmp i k ≡ Less) js
each_further i j js e each = each_weaker (λ k. id_cmp j k ≡ Less) (λ k. id_cmp i k ≡ Less) (λ k l. id_total.trans i j k e l) js each

-- an id before all is not among them
pub not_among : (i : WriteId) (js : List WriteId) → Each (λ k. id_cmp i k ≡ Less) js → has_id i js ≡ false
not_among i [] each = refl
not_among i (k ∷ ks) each = or_from (is_id i k) (has_id i ks) (not_before i k each.0) (not_among i ks each.1)

-- what an id found first says: it stands before j, is j, or stands behind it
pub before_first : (o : Ordering) (i j : WriteId) (js further : List WriteId) → o ≡ Less → placed o i j js further ≡ i ∷ j ∷ js
before_first Less i j js further e = refl
before_first Equal i j js further e = absurd (cc)
before_first Greater i j js further e = absurd (cc)

pub is_first : (o : Ordering) (i j : WriteId) (js further : List WriteId) → o ≡ Equal → placed o i j js further ≡ j ∷ js
is_first Less i j js further e = absurd (cc)
is_first Equal i j js further e = refl
is_first Greater i j js further e = absurd (cc)

pub behind_first : (o : Ordering) (i j : WriteId) (js further : List WriteId) → o ≡ Greater → placed o i j js further ≡ j ∷ further
behind_first Less i j js further e = absurd (cc)
behind_first Equal i j js further e = absurd (cc)
behind_first Greater i j js further e = refl

-- an id behind all goes to the end
pub with_id-last : (i : WriteId) (ids : List WriteId) → Each (λ j. id_cmp i j ≡ Greater) ids → with_id i ids ≡ ids ++ i ∷ []
with_id-last i [] each = refl
with_id-last i (j ∷ js) each =
    behind_first (id_cmp i j) i j js (with_id i js) each.0 ∙ ap (λ (x : List WriteId). j ∷ x) (with_id-last i js each.1)

-- Which ids are among those of a set that was made of others.
or_twice : (a b c : Bool) → a ≡ b → (a || c) ≡ (b || (a || c))
or_twice true b c e = rw (← e) refl
or_twice false b c e = rw (← e) refl

or_swap : (a b c : Bool) → (a || (b || c)) ≡ (b || (a || c))
or_swap true true c = refl
or_swap true false c = refl
or_swap false true c = refl
or_swap false false c = refl

or_regroup : (a b c : Bool) → (a || (b || c)) ≡ ((b || a) || c)
or_regroup true true c = refl
or_regroup true false c = refl
or_regroup false true c = refl
or_regroup false false c = refl

or_comm : (a b : Bool) → (a || b) ≡ (b || a)
or_comm true true = refl
or_comm true false = refl
or_comm false true = refl
or_comm false false = refl

and_swap : (a b : Bool) → (a && b) ≡ (b && a)
and_swap true true = refl
and_swap true false = refl
and_swap false true = refl
and_swap false false = refl

pub has_id-with_id : (k i : WriteId) (js : List WriteId) → has_id k (with_id i js) ≡ (is_id k i || has_id k js)
has_id-with_id k i [] = refl
has_id-with_id k i (j ∷ js) = has_id-placed (id_cmp i j) refl (has_id-with_id k i js)
  where
    has_id-placed : (o : Ordering) → id_cmp i j ≡ o → has_id k (with_id i js) ≡ (is_id k i || has_id k js)
        → has_id k (placed o i j js (with_id i js)) ≡ (is_id k i || (is_id k j || has_id k js))
    has_id-placed Less e more = refl
    has_id-placed Equal e more = or_twice (is_id k j) (is_id k i) (has_id k js) (ap (λ (x : WriteId). is_id k x) (sym (same_from_tie i j e)))
    has_id-placed Greater e more = ap (λ (b : Bool). is_id k j || b) more ∙ or_swap (is_id k j) (is_id k i) (has_id k js)

pub has_id-with_ids : (k : WriteId) (is js : List WriteId) → has_id k (with_ids is js) ≡ (has_id k is || has_id k js)
has_id-with_ids k [] js = refl
has_id-with_ids k (i ∷ is) js =
    has_id-with_ids k is (with_id i js) ∙ ap (λ (b : Bool). has_id k is || b) (has_id-with_id k i js) ∙ or_regroup (has_id k is) (is_id k i) (has_id k js)

pub has_id-filter : (k : WriteId) (p : WriteId → Bool) (js : List WriteId) → has_id k (filter p js) ≡ (has_id k js && p k)
has_id-filter k p js =
    any-filter_same (λ j. is_id k j) p (p k) (λ j t. ap p (sym (same_id k j t))) js ∙ and_swap (p k) (has_id k js)

pub is_id-turned : (i j : WriteId) → is_id i j ≡ is_id j i
is_id-turned i j = (eq_by_cmp_equiv id_total).symm i j

pub has_id-without_id : (k i : WriteId) (js : List WriteId) → has_id k (without_id i js) ≡ (has_id k js && not (is_id k i))
has_id-without_id k i js = has_id-filter k (λ j. not (is_id i j)) js ∙ ap (λ (b : Bool). has_id k js && not b) (is_id-turned i k)

pub has_id-ids_of : (k : WriteId) (store : ℕ) (js : List WriteId) → has_id k (ids_of store js) ≡ (has_id k js && k.store == store)
has_id-ids_of k store js = has_id-filter k (λ j. j.store == store) js

-- Sets are in order, and what holds of their parts holds of them.
pub each_with : (P : WriteId → Type 0) (i : WriteId) (js : List WriteId) → P i → Each P js → Each P (with_id i js)
each_with P i [] p each = (p, tt)
each_with P i (j ∷ js) p each = each_placed P (id_cmp i j) i j js (with_id i js) p each (each_with P i js p each.1)
  where
    each_placed : (P : WriteId → Type 0) (o : Ordering) (i j : WriteId) (js further : List WriteId) → P i → Each P (j ∷ js) → Each P further → Each P (placed o i j js further)
    each_placed P Less i j js further p each more = (p, each)
    each_placed P Equal i j js further p each more = each
    each_placed P Greater i j js further p each more = (each.0, more)

pub each_with_ids : (P : WriteId → Type 0) (is js : List WriteId) → Each P is → Each P js → Each P (with_ids is js)
each_with_ids P [] js each_is each_js = each_js
each_with_ids P (i ∷ is) js each_is each_js = each_with_ids P is (with_id i js) each_is.1 (each_with P i js each_is.0 each_js)

ascending_placed : (o : Ordering) (i j : WriteId) (js : List WriteId) → o ≡ id_cmp i j → IsAscending (j ∷ js) → IsAscending (with_id i js) → IsAscending (placed o i j js (with_id i js))
ascending_placed Less i j js e asc more = ((sym e, each_further i j js (sym e) asc.0), asc)
ascending_placed Equal i j js e asc more = asc
ascending_placed Greater i j js e asc more = (each_with (λ k. id_cmp j k ≡ Less) i js (turned i j (sym e)) asc.0, more)

pub ascending_with : (i : WriteId) (js : List WriteId) → IsAscending js → IsAscending (with_id i js)
ascending_with i [] asc = (tt, tt)
ascending_with i (j ∷ js) asc = ascending_placed (id_cmp i j) i j js refl asc (ascending_with i js asc.1)

pub ascending_with_ids : (is js : List WriteId) → IsAscending js → IsAscending (with_ids is js)
ascending_with_ids [] js asc = asc
ascending_with_ids (i ∷ is) js asc = ascending_with_ids is (with_id i js) (ascending_with i js asc)

pub ascending_filter : (p : WriteId → Bool) (ids : List WriteId) → IsAscending ids → IsAscending (filter p ids)
ascending_filter p [] asc = tt
ascending_filter p (i ∷ is) asc =
    let more : IsAscending (filter p is) = ascending_filter p is asc.1 in
    cond_both (p i) (i ∷ filter p is) (filter p is) IsAscending (λ _. (each_filter (λ k. id_cmp i k ≡ Less) p is asc.0, more)) (λ _. more)

-- Ascending ids are fixed by which ids are among them.
module _ (x y : WriteId) (xs ys : List WriteId) (asc_x : IsAscending (x ∷ xs)) (asc_y : IsAscending (y ∷ ys))
    (same : (i : WriteId) → has_id i (x ∷ xs) ≡ has_id i (y ∷ ys)) where
  same_first : x ≡ y
  same_first =
      elim (or_cases (is_id x y) (has_id x ys) (sym (same x) ∙ or_left (is_id x x) (has_id x xs) (is_id-itself x))) [
        | inl here ↦ same_id x y here
        | inr further ↦
            let above : id_cmp y x ≡ Less = each_has (λ k. id_cmp y k ≡ Less) ys asc_y.0 x further in
            let gone : has_id y (x ∷ xs) ≡ false = not_among y (x ∷ xs) (above, each_further y x xs above asc_x.0) in
            let there : has_id y (y ∷ ys) ≡ true = or_left (is_id y y) (has_id y ys) (is_id-itself y) in
            absurd (both_ways (has_id y (x ∷ xs)) gone (same y ∙ there))
      ]

  same_rest : (i : WriteId) → has_id i xs ≡ has_id i ys
  same_rest i =
      elim (cases_Bool (is_id i x)) [
        | inl here ↦
            let is : i ≡ x = same_id i x here in
            let gone_x : has_id x xs ≡ false = not_among x xs asc_x.0 in
            let gone_y : has_id y ys ≡ false = not_among y ys asc_y.0 in
            ap (λ (k : WriteId). has_id k xs) is ∙ gone_x ∙ sym gone_y ∙ ap (λ (k : WriteId). has_id k ys) (sym (is ∙ same_first))
        | inr other ↦
            let other_y : is_id i y ≡ false = ap (λ (k : WriteId). is_id i k) (sym same_first) ∙ other in
            ap (λ (b : Bool). b || has_id i xs) (sym other) ∙ same i ∙ ap (λ (b : Bool). b || has_id i ys) other_y
      ]

pub same_ids : (xs ys : List WriteId) → IsAscending xs → IsAscending ys → ((i : WriteId) → has_id i xs ≡ has_id i ys) → xs ≡ ys
same_ids [] [] asc_x asc_y same = refl
same_ids [] (y ∷ ys) asc_x asc_y same = absurd (false≢true (same y ∙ or_left (is_id y y) (has_id y ys) (is_id-itself y)))
same_ids (x ∷ xs) [] asc_x asc_y same = absurd (false≢true (sym (same x) ∙ or_left (is_id x x) (has_id x xs) (is_id-itself x)))
same_ids (x ∷ xs) (y ∷ ys) asc_x asc_y same =
    let first : x ≡ y = same_first x y xs ys asc_x asc_y same in
    let rest : xs ≡ ys = same_ids xs ys asc_x.1 asc_y.1 (same_rest x y xs ys asc_x asc_y same) in
    cc

-- How many ids a set has.
pub with_id-there : (i : WriteId) (js : List WriteId) → IsAscending js → has_id i js ≡ true → with_id i js ≡ js
with_id-there i js asc has =
    same_ids (with_id i js) js (ascending_with i js asc) asc (λ k. has_id-with_id k i js ∙ held k)
  where
    held : (k : WriteId) → (is_id k i || has_id k js) ≡ has_id k js
    held k =
        elim (cases_Bool (is_id k i)) [
          | inl here ↦ or_left (is_id k i) (has_id k js) here ∙ sym (ap (λ (x : WriteId). has_id x js) (same_id k i here) ∙ has)
          | inr other ↦ ap (λ (b : Bool). b || has_id k js) other
        ]

pub length-with_id : (i : WriteId) (js : List WriteId) → has_id i js ≡ false → length (with_id i js) ≡ length js + 1
length-with_id i [] new = refl
length-with_id i (j ∷ js) new =
    let apart = or_parts (is_id i j) (has_id i js) new in length_placed (id_cmp i j) apart.0 (length-with_id i js apart.1)
  where
    length_placed : (o : Ordering) → is_eq o ≡ false → length (with_id i js) ≡ length js + 1 → length (placed o i j js (with_id i js)) ≡ suc (length js) + 1
    length_placed Less e more = omega arith
    length_placed Equal e more = absurd (cc)
    length_placed Greater e more = omega arith

pub length-with_id-le : (i : WriteId) (js : List WriteId) → length (with_id i js) ≤ length js + 1
length-with_id-le i [] = omega arith
length-with_id-le i (j ∷ js) = length_placed (id_cmp i j) (length-with_id-le i js)
  where
    length_placed : (o : Ordering) → length (with_id i js) ≤ length js + 1 → length (placed o i j js (with_id i js)) ≤ suc (length js) + 1
    length_placed Less more = omega arith
    length_placed Equal more = omega arith
    length_placed Greater more = omega arith

pub le-length-with_id : (i : WriteId) (js : List WriteId) → length js ≤ length (with_id i js)
le-length-with_id i [] = omega arith
le-length-with_id i (j ∷ js) = length_placed (id_cmp i j) (le-length-with_id i js)
  where
    length_placed : (o : Ordering) → length js ≤ length (with_id i js) → suc (length js) ≤ length (placed o i j js (with_id i js))
    length_placed Less more = omega arith
    length_placed Equal more = omega arith
    length_placed Greater more = omega arith

pub length-with_ids-le : (is js : List WriteId) → length (with_ids is js) ≤ length js + length is
length-with_ids-le [] js = omega arith
length-with_ids-le (i ∷ is) js = omega (arith, length-with_ids-le is (with_id i js), length-with_id-le i js)

pub le-length-with_ids : (is js : List WriteId) → length js ≤ length (with_ids is js)
le-length-with_ids [] js = omega arith
le-length-with_ids (i ∷ is) js = omega (arith, le-length-with_ids is (with_id i js), le-length-with_id i js)

-- a union has the ids of the one list, and of the other those that are new
filter_same : (p q : WriteId → Bool) (ids : List WriteId) → Each (λ i. p i ≡ q i) ids → filter p ids ≡ filter q ids
filter_same p q [] each = refl
filter_same p q (i ∷ is) each = rw (each.0, filter_same p q is each.1) refl

pub length-with_ids : (is js : List WriteId) → IsAscending is → IsAscending js → length (with_ids is js) ≡ length js + length (filter (λ k. not (has_id k js)) is)
length-with_ids [] js asc_is asc_js = omega arith
length-with_ids (i ∷ is) js asc_is asc_js =
    let more = length-with_ids is (with_id i js) asc_is.1 (ascending_with i js asc_js) in
    let as_before : filter (λ k. not (has_id k (with_id i js))) is ≡ filter (λ k. not (has_id k js)) is = filter_same (λ k. not (has_id k (with_id i js))) (λ k. not (has_id k js)) is (each_weaker (λ k. id_cmp i k ≡ Less) (λ k. not (has_id k (with_id i js)) ≡ not (has_id k js)) (λ k l. ap not (has_id-with_id k i js ∙ ap (λ (b : Bool). b || has_id k js) (not_after k i l))) is asc_is.0) in
    let counted : length (filter (λ k. not (has_id k (with_id i js))) is) ≡ length (filter (λ k. not (has_id k js)) is) = ap length as_before in
    elim (cases_Bool (has_id i js)) [
      | inl old ↦
          let same : length (with_id i js) ≡ length js = ap length (with_id-there i js asc_js old) in
          let left : filter (λ k. not (has_id k js)) (i ∷ is) ≡ filter (λ k. not (has_id k js)) is = cond-false (not (has_id i js)) (i ∷ filter (λ k. not (has_id k js)) is) (filter (λ k. not (has_id k js)) is) (ap not old) in
          rw left (omega (arith, more, counted, same))
      | inr new ↦
          let longer : length (with_id i js) ≡ length js + 1 = length-with_id i js new in
          let kept : filter (λ k. not (has_id k js)) (i ∷ is) ≡ i ∷ filter (λ k. not (has_id k js)) is = cond-true (not (has_id i js)) (i ∷ filter (λ k. not (has_id k js)) is) (filter (λ k. not (has_id k js)) is) (ap not new) in
          rw kept (omega (arith, more, counted, longer))
    ]

pub length-filter-le : (p : WriteId → Bool) (ids : List WriteId) → length (filter p ids) ≤ length ids
length-filter-le p [] = omega arith
length-filter-le p (i ∷ is) =
    let more : length (filter p is) ≤ length is = length-filter-le p is in
    cond_both (p i) (i ∷ filter p is) (filter p is) (λ x. length x ≤ suc (length is)) (λ _. omega arith) (λ _. omega arith)

-- taking out an id that is there leaves fewer
pub length-without_id : (i : WriteId) (ids : List WriteId) → has_id i ids ≡ true → length (without_id i ids) + 1 ≤ length ids
length-without_id i [] has = absurd (cc)
length-without_id i (j ∷ js) has =
    elim (cases_Bool (is_id i j)) [
      | inl here ↦
          let gone : without_id i (j ∷ js) ≡ without_id i js = cond-false (not (is_id i j)) (j ∷ without_id i js) (without_id i js) (ap not here) in
          rw gone (omega (arith, length-filter-le (λ k. not (is_id i k)) js))
      | inr other ↦
          let kept : without_id i (j ∷ js) ≡ j ∷ without_id i js = cond-true (not (is_id i j)) (j ∷ without_id i js) (without_id i js) (ap not other) in
          let further : has_id i js ≡ true = ap (λ (b : Bool). b || has_id i js) (sym other) ∙ has in
          rw kept (omega (arith, length-without_id i js further))
    ]

-- ascending ids that are all among others are no more than these
pub length-part : (xs ys : List WriteId) → IsAscending xs → ((i : WriteId) → has_id i xs ≡ true → has_id i ys ≡ true) → length xs ≤ length ys
length-part [] ys asc among = omega arith
length-part (x ∷ xs) ys asc among =
    let there : has_id x ys ≡ true = among x (or_left (is_id x x) (has_id x xs) (is_id-itself x)) in
    let others : (i : WriteId) → has_id i xs ≡ true → has_id i (without_id x ys) ≡ true =
    λ i has. has_id-without_id i x ys
    ∙ and_from (has_id i ys) (not (is_id i x)) (among i (or_right (is_id i x) (has_id i xs) has))
    (ap not (not_after i x (each_has (λ k. id_cmp x k ≡ Less) xs asc.0 i has))) in
    omega (arith, length-part xs (without_id x ys) asc.1 others, length-without_id x ys there)

-- a union of parts of a set has no more ids than the set
pub length-with_ids-part : (is js whole : List WriteId) → IsAscending js → ((i : WriteId) → has_id i is ≡ true → has_id i whole ≡ true) → ((i : WriteId) → has_id i js ≡ true → has_id i whole ≡ true)
    → length (with_ids is js) ≤ length whole
length-with_ids-part is js whole asc part_is part_js =
    length-part (with_ids is js) whole (ascending_with_ids is js asc)
    (λ i has. elim (or_cases (has_id i is) (has_id i js) (sym (has_id-with_ids i is js) ∙ has)) [ inl one ↦ part_is i one | inr other ↦ part_js i other ])

-- a union is the same either way round
pub with_ids-comm : (is js : List WriteId) → IsAscending is → IsAscending js → with_ids is js ≡ with_ids js is
with_ids-comm is js asc_is asc_js =
    same_ids (with_ids is js) (with_ids js is) (ascending_with_ids is js asc_js) (ascending_with_ids js is asc_is)
    (λ i. has_id-with_ids i is js ∙ or_comm (has_id i is) (has_id i js) ∙ sym (has_id-with_ids i js is))

-- so the first of the ids that are added may be the last
or_regroup_left : (a b c : Bool) → ((a || b) || c) ≡ (a || (b || c))
or_regroup_left true b c = refl
or_regroup_left false b c = refl

pub with_ids-cons : (i : WriteId) (is js : List WriteId) → IsAscending js → with_ids (i ∷ is) js ≡ with_id i (with_ids is js)
with_ids-cons i is js asc =
    same_ids (with_ids (i ∷ is) js) (with_id i (with_ids is js)) (ascending_with_ids (i ∷ is) js asc) (ascending_with i (with_ids is js) (ascending_with_ids is js asc))
    (λ k. has_id-with_ids k (i ∷ is) js ∙ or_regroup_left (is_id k i) (has_id k is) (has_id k js)
    ∙ ap (λ (b : Bool). is_id k i || b) (sym (has_id-with_ids k is js)) ∙ sym (has_id-with_id k i (with_ids is js)))

-- how many there are then
pub length-with_ids-old : (i : WriteId) (is js : List WriteId) → IsAscending js → (has_id i js || has_id i is) ≡ true → length (with_ids (i ∷ is) js) ≡ length (with_ids is js)
length-with_ids-old i is js asc old =
    ap length (with_ids-cons i is js asc ∙ with_id-there i (with_ids is js) (ascending_with_ids is js asc) (has_id-with_ids i is js ∙ or_comm (has_id i is) (has_id i js) ∙ old))

pub length-with_ids-new : (i : WriteId) (is js : List WriteId) → IsAscending js → (has_id i js || has_id i is) ≡ false → length (with_ids (i ∷ is) js) ≡ length (with_ids is js) + 1
length-with_ids-new i is js asc new =
    ap length (with_ids-cons i is js asc) ∙ length-with_id i (with_ids is js) (has_id-with_ids i is js ∙ or_comm (has_id i is) (has_id i js) ∙ new)

pub with_ids-nil : (is : List WriteId) → IsAscending is → with_ids is [] ≡ is
with_ids-nil is asc = with_ids-comm is [] asc tt

-- ids in front of others are among all, and so are those behind them
pub has_id-front : (k : WriteId) (front rest : List WriteId) → has_id k front ≡ true → has_id k (front ++ rest) ≡ true
has_id-front k [] rest has = absurd (cc)
has_id-front k (i ∷ is) rest has =
    elim (or_cases (is_id k i) (has_id k is) has) [
      | inl here ↦ or_left (is_id k i) (has_id k (is ++ rest)) here
      | inr further ↦ or_right (is_id k i) (has_id k (is ++ rest)) (has_id-front k is rest further)
    ]

pub has_id-behind : (k : WriteId) (front rest : List WriteId) → has_id k rest ≡ true → has_id k (front ++ rest) ≡ true
has_id-behind k [] rest has = has
has_id-behind k (i ∷ is) rest has = or_right (is_id k i) (has_id k (is ++ rest)) (has_id-behind k is rest has)

-- ids that are all there add nothing
pub with_ids-past : (front rest js : List WriteId) → IsAscending js → ((i : WriteId) → has_id i front ≡ true → has_id i js ≡ true) → with_ids (front ++ rest) js ≡ with_ids rest js
with_ids-past [] rest js asc there = refl
with_ids-past (i ∷ is) rest js asc there =
    ap (λ (x : List WriteId). with_ids (is ++ rest) x) (with_id-there i js asc (there i (or_left (is_id i i) (has_id i is) (is_id-itself i))))
    ∙ with_ids-past is rest js asc (λ k has. there k (or_right (is_id k i) (has_id k is) has))

-- Lineages made of others.
pub lineage_with : (i : WriteId) (ids changed : List WriteId) → IsLineage ids → 1 ≤ i.version → changed ≡ with_id i ids → length changed ≤ MOST_IDS → IsLineage changed
lineage_with i ids changed l v e short =
    record {
      ascending = subst IsAscending (sym e) (ascending_with i ids l.ascending);
      written = subst (λ (x : List WriteId). Each (λ k. 1 ≤ k.version) x) (sym e) (each_with (λ k. 1 ≤ k.version) i ids v l.written);
      short = short;
    }

pub lineage_with_ids : (is ids changed : List WriteId) → Each (λ k. 1 ≤ k.version) is → IsLineage ids → changed ≡ with_ids is ids → length changed ≤ MOST_IDS → IsLineage changed
lineage_with_ids is ids changed v l e short =
    record {
      ascending = subst IsAscending (sym e) (ascending_with_ids is ids l.ascending);
      written = subst (λ (x : List WriteId). Each (λ k. 1 ≤ k.version) x) (sym e) (each_with_ids (λ k. 1 ≤ k.version) is ids v l.written);
      short = short;
    }

pub lineage_filter : (p : WriteId → Bool) (ids : List WriteId) → IsLineage ids → IsLineage (filter p ids)
lineage_filter p ids l =
    record {
      ascending = ascending_filter p ids l.ascending;
      written = each_filter (λ k. 1 ≤ k.version) p ids l.written;
      short = omega (arith, length-filter-le p ids, l.short);
    }

pub lineage_without : (i : WriteId) (ids : List WriteId) → IsLineage ids → IsLineage (without_id i ids)
lineage_without i ids l = lineage_filter (λ j. not (is_id i j)) ids l

pub lineage_ids_of : (store : ℕ) (ids : List WriteId) → IsLineage ids → IsLineage (ids_of store ids)
lineage_ids_of store ids l = lineage_filter (λ j. j.store == store) ids l

pub among_filter : (p : WriteId → Bool) (ids : List WriteId) (i : WriteId) → has_id i (filter p ids) ≡ true → has_id i ids ≡ true
among_filter p ids i has = (and_parts (has_id i ids) (p i) (sym (has_id-filter i p ids) ∙ has)).0

pub among_ids_of : (store : ℕ) (ids : List WriteId) (i : WriteId) → has_id i (ids_of store ids) ≡ true → has_id i ids ≡ true
among_ids_of store ids i has = among_filter (λ j. j.store == store) ids i has
