-- Ids that are gone past.
use Rattle.std.proofs.Common.{◌≡◌, ℕ, zero, suc, ◌+◌, ◌-◌, ◌<◌, ◌≤◌, ◌++◌, List, [], ◌∷◌, true, false, length, take, drop, get_or, min, sym, ap, ◌∙◌, subst, arith}
use Rattle.std.specs.Prelude.{Ok, Err, Some, slice_get, nat_lt, ◌==◌, IsTrue, ◌↔◌}
use Rattle.std.proofs.Math.Seq.{drop-append-add}
use Rattle.std.proofs.lemmas.Bool.{ltb-true, lt-ltb, eqb-true, eq-eqb}
use Rattle.std.proofs.lemmas.List.{append-nil, append_assoc, drop_at, drop_more, get_or_at, length-append, take_at, take_min, take_more, take_rest}
use Rattle.std.proofs.lemmas.Option.{get_or_from_slice_get}
use Rattle.anti_ids.specs.Each.{Each}
use Rattle.anti_ids.specs.declared.id.WriteId.{WriteId}
use Rattle.anti_ids.specs.Ids.{id_cmp}
use Rattle.std.specs.declared.cmp.Ordering.TheVariants.{Less, Equal, Greater}
use Rattle.anti_ids.specs.Invariants.{IsAscending, IsLineage}
use Rattle.anti_ids.specs.inner.Parts.{joined}
use Rattle.anti_ids.specs.inner.Places.{IsPlace}
use Rattle.anti_ids.specs.inner.Stores.{Passed, PassedSame, StandFrom}
use Rattle.anti_ids.proofs.IdLemmas.{each_weaker, same_from_tie}
use Rattle.anti_ids.proofs.Places.{each_at, goes_to, stands_at}
use Rattle.anti_ids.proofs.PartLemmas.{joined_behind, each_append, ascending_back}
use Rattle.anti_ids.proofs.StoreLemmas.{false_from, store_rises, upto_last}

take_both : (n : ℕ) (xs ys : List WriteId) → take n (xs ++ ys) ≡ take n xs ++ take (n - length xs) ys
take_both zero xs ys =
    let none : 0 ≡ 0 - length xs = omega arith in ap (λ (m : ℕ). take m ys) none
take_both (suc n) [] ys =
    let all : suc n ≡ suc n - 0 = omega arith in ap (λ (m : ℕ). take m ys) all
take_both (suc n) (x ∷ xs) ys =
    let less : n - length xs ≡ suc n - suc (length xs) = omega arith in
    ap (λ (zs : List WriteId). x ∷ zs) (take_both n xs ys ∙ ap (λ (m : ℕ). take n xs ++ take m ys) less)

-- so many ids of a part, and the rest of the parts behind it
took : (ids front js : List WriteId) (left : ℕ) → front ≡ take (min left (length ids)) ids → length front ≡ min left (length ids)
    → front ++ take (left - length front) js ≡ take left (ids ++ js)
took ids front js left is size =
    let rest : left - length front ≡ left - length ids = omega (arith, size) in
    ap (λ (x : List WriteId). x ++ take (left - length front) js) (is ∙ take_min left ids)
    ∙ ap (λ (m : ℕ). take left ids ++ take m js) rest
    ∙ sym (take_both left ids js)

pub took_first : (ps : List (List WriteId)) (ids front : List WriteId) (left : ℕ) → 0 < length ps → ids ≡ get_or ps 0 ids → front ≡ take (min left (length ids)) ids
    → length front ≡ min left (length ids) → front ++ take (left - length front) (joined (take (length ps - 1) (drop 1 ps))) ≡ take left (joined ps)
took_first ps ids front left some first is size =
    ap (λ (qs : List (List WriteId)). front ++ take (left - length front) (joined qs)) (take_rest ps 1)
    ∙ took ids front (joined (drop 1 ps)) left is size
    ∙ ap (λ (x : List WriteId). take left (x ++ joined (drop 1 ps))) first
    ∙ ap (λ (x : List WriteId). take left x) (sym (joined_behind ps 0 ids some))

pub drop_past : (part rest : List WriteId) (n : ℕ) → length part ≤ n → drop n (part ++ rest) ≡ drop (n - length part) rest
drop_past part rest n past =
    let sum : n ≡ length part + (n - length part) = omega (arith, past) in
    ap (λ (m : ℕ). drop m (part ++ rest)) sum ∙ drop-append-add part rest (n - length part)

-- where the last id is of a store below a bound, all are
pub below_so : (bound : ℕ) (last : WriteId) (ids : List WriteId) → IsAscending ids → slice_get ids (length ids - 1) ≡ Some last
    → IsTrue (nat_lt last.store bound) ↔ Each (λ i. i.store < bound) ids
below_so bound last [] asc at = absurd (cc)
below_so bound last (j ∷ js) asc at =
    let place = length (j ∷ js) - 1 in
    let is : get_or (j ∷ js) place last ≡ last = get_or_from_slice_get (j ∷ js) place last last at in (
      λ below. let less = ltb-true last.store bound below in
          each_weaker (λ i. i.store ≤ last.store) (λ i. i.store < bound) (λ i le. omega (arith, le, less)) (j ∷ js) (upto_last last (j ∷ js) place asc (omega arith) at),
      λ each. lt-ltb last.store bound (subst (λ (i : WriteId). i.store < bound) is (each_at (λ i. i.store < bound) (j ∷ js) place last each (omega arith))),
    )

pub more_passed : (P : WriteId → Type 0) (ids rest part more : List WriteId) (count n : ℕ) → Passed P ids rest count → rest ≡ part ++ more → Each P part → count + length part ≡ n
    → Passed P ids more n
more_passed P ids rest part more count n passed step low sum =
    record {
      front = passed.front ++ part;
      is = passed.is ∙ ap (λ (x : List WriteId). passed.front ++ x) step ∙ sym (append_assoc passed.front part more);
      size = omega (arith, length-append passed.front part, passed.size, sum);
      low = each_append P passed.front part passed.low low;
    }

pub passed_within : (P : WriteId → Type 0) (ids rest : List WriteId) (count : ℕ) → Passed P ids rest count → count + length rest ≡ length ids
passed_within P ids rest count passed = omega (arith, passed.size, ap length passed.is, length-append passed.front rest)

pub passed_ascending : (P : WriteId → Type 0) (ids rest : List WriteId) (count : ℕ) → Passed P ids rest count → IsAscending ids → IsAscending rest
passed_ascending P ids rest count passed asc = ascending_back passed.front rest (subst IsAscending passed.is asc)

-- where the first id is of no store below a bound, none is
pub none_further : (bound : ℕ) (first : WriteId) (rest : List WriteId) → IsAscending (first ∷ rest) → bound ≤ first.store → Each (λ i. bound ≤ i.store) (first ∷ rest)
none_further bound first rest asc here =
    (here, each_weaker (λ i. id_cmp first i ≡ Less) (λ i. bound ≤ i.store) (λ i less. omega (arith, here, store_rises first i less)) rest asc.0)

pub first_of : (ids : List WriteId) (first : WriteId) → 0 < length ids → first ≡ get_or ids 0 first → ids ≡ first ∷ take (length ids - 1) (drop 1 ids)
first_of ids first some is =
    drop_more ids 0 first some ∙ ap (λ (i : WriteId). i ∷ drop 1 ids) (sym is) ∙ ap (λ (x : List WriteId). first ∷ x) (sym (take_rest ids 1))

-- all behind a part that has one of no store below a bound are of none
pub high_all : (bound : ℕ) (part rest more : List WriteId) (count : ℕ) → Passed (λ i. i.store < bound) part rest count → Each (λ i. bound ≤ i.store) rest → IsAscending (part ++ more)
    → (Each (λ i. i.store < bound) part → ⊥) → Each (λ i. bound ≤ i.store) (rest ++ more)
high_all bound part [] more count passed high asc some =
    absurd (some (subst (λ (x : List WriteId). Each (λ i. i.store < bound) x) (sym (passed.is ∙ append-nil passed.front)) passed.low))
high_all bound part (r ∷ rs) more count passed high asc some =
    none_further bound r (rs ++ more)
    (ascending_back passed.front (r ∷ rs ++ more) (subst IsAscending (ap (λ (x : List WriteId). x ++ more) passed.is ∙ append_assoc passed.front (r ∷ rs) more) asc)) high.0

pub lineage_back : (P : WriteId → Type 0) (ids rest : List WriteId) (count : ℕ) → Passed P ids rest count → IsLineage ids → IsLineage rest
lineage_back P ids rest count passed l =
    record {
      ascending = passed_ascending P ids rest count passed l.ascending;
      written = each_back passed.front (subst (λ (x : List WriteId). Each (λ i. 1 ≤ i.version) x) passed.is l.written);
      short = omega (arith, passed_within P ids rest count passed, l.short);
    }
  where
    each_back : (front : List WriteId) → Each (λ i. 1 ≤ i.version) (front ++ rest) → Each (λ i. 1 ≤ i.version) rest
    each_back [] each = each
    each_back (x ∷ xs) each = each_back xs each.1

-- the ids of a store stand behind those of lesser stores, and in front of those of greater ones
pub own_between : (store : ℕ) (ids rest back : List WriteId) (from len : ℕ) → Passed (λ i. i.store < store) ids rest from → Each (λ i. store ≤ i.store) rest → Passed (λ i. i.store < store + 1) rest back len
    → Each (λ i. store + 1 ≤ i.store) back → StandFrom store ids from len
own_between store ids rest back from len lesser high own greater =
    record {
      front = lesser.front;
      own = own.front;
      back = back;
      is = lesser.is ∙ ap (λ (x : List WriteId). lesser.front ++ x) own.is;
      at = lesser.size;
      size = own.size;
      before = each_weaker (λ i. i.store < store) (λ i. (i.store == store) ≡ false) (λ i less. false_from (i.store == store) (λ same. omega (arith, less, eqb-true i.store store same))) lesser.front lesser.low;
      of_it = both own.front (each_front own.front back (subst (λ (x : List WriteId). Each (λ i. store ≤ i.store) x) own.is high)) own.low;
      behind = each_weaker (λ i. store + 1 ≤ i.store) (λ i. (i.store == store) ≡ false) (λ i more. false_from (i.store == store) (λ same. omega (arith, more, eqb-true i.store store same))) back greater;
    }
  where
    both : (xs : List WriteId) → Each (λ i. store ≤ i.store) xs → Each (λ i. i.store < store + 1) xs → Each (λ i. (i.store == store) ≡ true) xs
    both [] low high = tt
    both (x ∷ xs) low high = (same x.store low.0 high.0, both xs low.1 high.1)
      where
        same : (s : ℕ) → store ≤ s → s < store + 1 → (s == store) ≡ true
        same s least most = eq-eqb s store (omega arith)

    each_front : (xs ys : List WriteId) → Each (λ i. store ≤ i.store) (xs ++ ys) → Each (λ i. store ≤ i.store) xs
    each_front [] ys each = tt
    each_front (x ∷ xs) ys each = (each.0, each_front xs ys each.1)

-- where an id stands or goes, behind those that come before it
pub goes_between : (i : WriteId) (ids rest : List WriteId) (at : ℕ) → Passed (λ j. id_cmp j i ≡ Less) ids rest at → Each (λ j. id_cmp j i ≡ Greater) rest → IsPlace i ids (Err at)
goes_between i ids rest at passed high =
    let front = passed.front in
    let before : take at ids ≡ front = ap (λ (x : List WriteId). take at x) passed.is ∙ take_at front rest at passed.size in
    let behind : drop at ids ≡ rest = ap (λ (x : List WriteId). drop at x) passed.is ∙ drop_at front rest at passed.size in
    goes_to i ids at (omega (arith, passed_within (λ j. id_cmp j i ≡ Less) ids rest at passed))
    (subst (λ (x : List WriteId). Each (λ j. id_cmp j i ≡ Less) x) (sym before) passed.low)
    (subst (λ (x : List WriteId). Each (λ j. id_cmp j i ≡ Greater) x) (sym behind) high)

pub stands_between : (i y : WriteId) (ids rest : List WriteId) (at : ℕ) → IsAscending ids → Passed (λ j. id_cmp j i ≡ Less) ids (y ∷ rest) at → id_cmp y i ≡ Equal → IsPlace i ids (Ok at)
stands_between i y ids rest at asc passed tie =
    let front = passed.front in
    let within = passed_within (λ j. id_cmp j i ≡ Less) ids (y ∷ rest) at passed in
    let here : get_or ids at i ≡ y = ap (λ (x : List WriteId). get_or x at i) passed.is ∙ get_or_at front y rest i at passed.size in
    stands_at i ids at i asc (omega (arith, within)) (here ∙ same_from_tie y i tie)

-- two lists with the same front and the same id behind it
pub same_longer : (xs ys : List WriteId) (at : ℕ) (x y : WriteId) → at < length xs → at < length ys → get_or xs at x ≡ x → get_or ys at y ≡ y → x ≡ y
    → take at xs ≡ take at ys → take (at + 1) xs ≡ take (at + 1) ys
same_longer xs ys at x y within_xs within_ys is_x is_y same front =
    let here : get_or xs at x ≡ get_or ys at y = is_x ∙ same ∙ sym is_y in
    take_more xs at x within_xs
    ∙ ap (λ (z : List WriteId). z ++ get_or xs at x ∷ []) front
    ∙ ap (λ (z : WriteId). take at ys ++ z ∷ []) here
    ∙ sym (take_more ys at y within_ys)

-- so many ids more at the front of both
pub passed_on : (ids rest more others others_rest others_more : List WriteId) → PassedSame ids rest others others_rest → PassedSame rest more others_rest others_more
    → PassedSame ids more others others_more
passed_on ids rest more others others_rest others_more so_far further =
    record {
      front = so_far.front ++ further.front;
      is = so_far.is ∙ ap (λ (x : List WriteId). so_far.front ++ x) further.is ∙ sym (append_assoc so_far.front further.front more);
      others_are = so_far.others_are ∙ ap (λ (x : List WriteId). so_far.front ++ x) further.others_are ∙ sym (append_assoc so_far.front further.front others_more);
    }
