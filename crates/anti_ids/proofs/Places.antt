-- Where an id stands among ascending ids, or goes.
use Rattle.std.proofs.Common.{◌≡◌, ℕ, zero, suc, ◌+◌, ◌-◌, ◌<◌, ◌≤◌, ◌++◌, List, [], ◌∷◌, Bool, true, false, not, length, take, drop, get_or, refl, sym, ap, ◌∙◌, subst, add-one, arith}
use Rattle.std.specs.Prelude.{Result, Ok, Err, Some, slice_get, IsTrue, ◌↔◌}
use Rattle.std.specs.declared.cmp.Ordering.{Ordering}
use Rattle.std.specs.declared.cmp.Ordering.TheVariants.{Less, Equal, Greater}
use Rattle.std.specs.Ordering.{is_lt, ordering_index}
use Rattle.std.specs.List.{All, AllWithin}
use Rattle.std.specs.List.Sorted.{IsNonDecreasingBy, IsBinarySearchResult, IsSearchInRange}
use Rattle.std.proofs.lemmas.List.{drop_more, take-append-drop, get_or-take, get_or-drop, length-take, length-drop, take_all, drop_all}
use Rattle.std.proofs.lemmas.Cmp.{tied_itself}
use Rattle.std.proofs.lemmas.List.Sorted.{searchable_from_sorted}
use Rattle.std.proofs.lemmas.Bool.{cond-true, cond-false, or_left, or_right, or_from}
use Rattle.std.proofs.lemmas.Option.{get_or_from_slice_get, slice_get-get_or}
use Rattle.anti_ids.specs.Each.{Each}
use Rattle.anti_ids.specs.declared.id.WriteId.{WriteId}
use Rattle.anti_ids.specs.Ids.{id_cmp, is_id, has_id, with_id, without_id}
use Rattle.anti_ids.specs.Invariants.{IsAscending}
use Rattle.anti_ids.specs.inner.Places.{StandsAt, GoesTo, IsPlace}
use Rattle.anti_ids.proofs.IdLemmas.{id_total, turned, turned_back, same_from_tie, is_id-itself, not_before, not_after, before_first, is_first, behind_first}

-- what stands before and behind an id that is not there
before_all : (i : WriteId) (js : List WriteId) → Each (λ j. id_cmp j i ≡ Greater) js
    → (has_id i js ≡ false) × (with_id i js ≡ i ∷ js) × (without_id i js ≡ js)
before_all i [] each = (refl, refl, refl)
before_all i (j ∷ js) each =
    let before : id_cmp i j ≡ Less = turned j i each.0 in
    let further = before_all i js each.1 in (
      or_from (is_id i j) (has_id i js) (not_before i j before) further.0,
      before_first (id_cmp i j) i j js (with_id i js) before,
      cond-true (not (is_id i j)) (j ∷ without_id i js) (without_id i js) (ap not (not_before i j before)) ∙ ap (λ (x : List WriteId). j ∷ x) further.2,
    )

between : (i : WriteId) (before behind : List WriteId) → Each (λ j. id_cmp j i ≡ Less) before → Each (λ j. id_cmp j i ≡ Greater) behind
    → (has_id i (before ++ behind) ≡ false) × (with_id i (before ++ behind) ≡ before ++ i ∷ behind) × (without_id i (before ++ behind) ≡ before ++ behind)
between i [] behind low high = before_all i behind high
between i (j ∷ js) behind low high =
    let further = between i js behind low.1 high in (
      or_from (is_id i j) (has_id i (js ++ behind)) (not_after i j low.0) further.0,
      behind_first (id_cmp i j) i j (js ++ behind) (with_id i (js ++ behind)) (turned_back j i low.0) ∙ ap (λ (x : List WriteId). j ∷ x) further.1,
      cond-true (not (is_id i j)) (j ∷ without_id i (js ++ behind)) (without_id i (js ++ behind)) (ap not (not_after i j low.0)) ∙ ap (λ (x : List WriteId). j ∷ x) further.2,
    )

-- what stands before and behind an id that is there
first_there : (i : WriteId) (js : List WriteId) → Each (λ j. id_cmp i j ≡ Less) js
    → (has_id i (i ∷ js) ≡ true) × (with_id i (i ∷ js) ≡ i ∷ js) × (without_id i (i ∷ js) ≡ js)
first_there i js each = (
  or_left (is_id i i) (has_id i js) (is_id-itself i),
  is_first (id_cmp i i) i i js (with_id i js) (tied_itself id_total i),
  cond-false (not (is_id i i)) (i ∷ without_id i js) (without_id i js) (ap not (is_id-itself i)) ∙ none_out js each,
)
  where
    none_out : (js : List WriteId) → Each (λ j. id_cmp i j ≡ Less) js → without_id i js ≡ js
    none_out [] each = refl
    none_out (j ∷ js) each =
        cond-true (not (is_id i j)) (j ∷ without_id i js) (without_id i js) (ap not (not_before i j each.0)) ∙ ap (λ (x : List WriteId). j ∷ x) (none_out js each.1)

pub above_behind : (P : WriteId → Type 0) (i : WriteId) (before behind : List WriteId) → Each P (before ++ i ∷ behind) → P i
above_behind P i [] behind each = each.0
above_behind P i (j ∷ js) behind each = above_behind P i js behind each.1

there : (i : WriteId) (before behind : List WriteId) → IsAscending (before ++ i ∷ behind)
    → (has_id i (before ++ i ∷ behind) ≡ true) × (with_id i (before ++ i ∷ behind) ≡ before ++ i ∷ behind) × (without_id i (before ++ i ∷ behind) ≡ before ++ behind)
there i [] behind asc = first_there i behind asc.0
there i (j ∷ js) behind asc =
    let low : id_cmp j i ≡ Less = above_behind (λ k. id_cmp j k ≡ Less) i js behind asc.0 in
    let rest = js ++ i ∷ behind in
    let further = there i js behind asc.1 in (
      or_right (is_id i j) (has_id i rest) further.0,
      behind_first (id_cmp i j) i j rest (with_id i rest) (turned_back j i low) ∙ ap (λ (x : List WriteId). j ∷ x) further.1,
      cond-true (not (is_id i j)) (j ∷ without_id i rest) (without_id i rest) (ap not (not_after i j low)) ∙ ap (λ (x : List WriteId). j ∷ x) further.2,
    )

-- the facts of the ids before an index and from it on
each_from_all : (P : WriteId → Type 0) (ids : List WriteId) → All P ids → Each P ids
each_from_all P [] all = tt
each_from_all P (i ∷ is) all = (all 0 i (omega arith), each_from_all P is (λ k d lt. all (suc k) d (omega arith)))

each_before : (P : WriteId → Type 0) (ids : List WriteId) (n : ℕ) → AllWithin P ids 0 n → Each P (take n ids)
each_before P ids n within =
    each_from_all P (take n ids)
    (λ k d lt. let below : k < n = omega (arith, length-take n ids) in subst P (sym (get_or-take n ids k d below)) (within k d (omega arith) below))

each_behind : (P : WriteId → Type 0) (ids : List WriteId) (n : ℕ) → AllWithin P ids n (length ids) → Each P (drop n ids)
each_behind P ids n within =
    each_from_all P (drop n ids)
    (λ k d lt. subst P (sym (get_or-drop n ids k d)) (within (n + k) d (omega arith) (omega (arith, length-drop n ids))))

-- ascending ids are sorted as a search wants them
adjacent : (ids : List WriteId) → IsAscending ids → (k : ℕ) (d : WriteId) → suc k < length ids → id_cmp (get_or ids k d) (get_or ids (suc k) d) ≡ Less
adjacent [] asc k d lt = absurd (omega arith)
adjacent (i ∷ []) asc k d lt = absurd (omega arith)
adjacent (i ∷ j ∷ js) asc zero d lt = asc.0.0
adjacent (i ∷ j ∷ js) asc (suc k) d lt = adjacent (j ∷ js) asc.1 k d (omega arith)

pub searchable : (i : WriteId) (ids : List WriteId) → IsAscending ids → IsNonDecreasingBy (λ j. ordering_index (id_cmp j i)) ids
searchable i ids asc =
    searchable_from_sorted id_total (λ (j : WriteId). j) ids i
    (λ k d low lt. rw add-one (ap is_lt (turned_back (get_or ids k d) (get_or ids (suc k) d) (adjacent ids asc k d (omega arith)))))

-- an id between those before it and those behind it has its place
pub stands_at : (i : WriteId) (ids : List WriteId) (at : ℕ) (d : WriteId) → IsAscending ids → at < length ids → get_or ids at d ≡ i → StandsAt i ids at
stands_at i ids at d asc within here =
    let parts : ids ≡ take at ids ++ i ∷ drop (at + 1) ids =
    sym (take-append-drop at ids) ∙ ap (λ (x : List WriteId). take at ids ++ x) (drop_more ids at d within ∙ ap (λ (x : WriteId). x ∷ drop (at + 1) ids) here) in
    let at_place = there i (take at ids) (drop (at + 1) ids) (subst IsAscending parts asc) in
    record {
      within = within;
      is = slice_get-get_or ids at d within ∙ ap (λ (x : WriteId). Some x) here;
      there = ap (λ (x : List WriteId). has_id i x) parts ∙ at_place.0;
      with = ap (λ (x : List WriteId). with_id i x) parts ∙ at_place.1 ∙ sym parts;
      without = ap (λ (x : List WriteId). without_id i x) parts ∙ at_place.2;
    }

pub goes_to : (i : WriteId) (ids : List WriteId) (at : ℕ) → at ≤ length ids → Each (λ j. id_cmp j i ≡ Less) (take at ids) → Each (λ j. id_cmp j i ≡ Greater) (drop at ids) → GoesTo i ids at
goes_to i ids at within low high =
    let parts : ids ≡ take at ids ++ drop at ids = sym (take-append-drop at ids) in
    let at_place = between i (take at ids) (drop at ids) low high in
    record {
      within = within;
      low = low;
      high = high;
      absent = ap (λ (x : List WriteId). has_id i x) parts ∙ at_place.0;
      with = ap (λ (x : List WriteId). with_id i x) parts ∙ at_place.1;
      without = ap (λ (x : List WriteId). without_id i x) parts ∙ at_place.2 ∙ sym parts;
    }

pub found_place : (i : WriteId) (ids : List WriteId) (r : Result ℕ ℕ) → IsAscending ids → IsSearchInRange r (length ids) → IsBinarySearchResult (λ j. id_cmp j i) ids r → IsPlace i ids r
found_place i ids (Ok at) asc within found =
    stands_at i ids at i asc within (same_from_tie (get_or ids at i) i (found i))
found_place i ids (Err at) asc within found =
    let split = found (searchable i ids asc) in
    goes_to i ids at within (each_before (λ j. id_cmp j i ≡ Less) ids at split.0) (each_behind (λ j. id_cmp j i ≡ Greater) ids at split.1)

pub last_place : (i : WriteId) (ids : List WriteId) → Each (λ j. id_cmp j i ≡ Less) ids → IsPlace i ids (Err (length ids))
last_place i ids each =
    goes_to i ids (length ids) (omega arith)
    (subst (λ (x : List WriteId). Each (λ j. id_cmp j i ≡ Less) x) (sym (take_all (length ids) ids (omega arith))) each)
    (subst (λ (x : List WriteId). Each (λ j. id_cmp j i ≡ Greater) x) (sym (drop_all (length ids) ids (omega arith))) tt)

-- where the last id stands before an id, all do
pub all_before : (i : WriteId) (ids : List WriteId) (last : ℕ) (d : WriteId) → IsAscending ids → suc last ≡ length ids → id_cmp (get_or ids last d) i ≡ Less
    → Each (λ j. id_cmp j i ≡ Less) ids
all_before i [] last d asc l e = tt
all_before i (j ∷ []) zero d asc l e = (e, tt)
all_before i (j ∷ []) (suc last) d asc l e = absurd (omega arith)
all_before i (j ∷ k ∷ ks) zero d asc l e = absurd (omega arith)
all_before i (j ∷ k ∷ ks) (suc last) d asc l e =
    let more : Each (λ j. id_cmp j i ≡ Less) (k ∷ ks) = all_before i (k ∷ ks) last d asc.1 (omega arith) e in (id_total.trans j k i asc.0.0 more.0, more)

pub is_less : (o : Ordering) → is_lt o ≡ true → o ≡ Less
is_less Less t = refl
is_less Equal t = absurd (cc)
is_less Greater t = absurd (cc)

pub each_at : (P : WriteId → Type 0) (ids : List WriteId) (k : ℕ) (d : WriteId) → Each P ids → k < length ids → P (get_or ids k d)
each_at P [] k d each lt = absurd (omega arith)
each_at P (i ∷ is) zero d each lt = each.0
each_at P (i ∷ is) (suc k) d each lt = each_at P is k d each.1 (omega arith)

pub goes_behind : (i last : WriteId) (ids : List WriteId) (o : Ordering) (lower : Bool) → IsAscending ids → slice_get ids (length ids - 1) ≡ Some last → o ≡ id_cmp last i → lower ≡ is_lt o
    → IsTrue lower ↔ Each (λ j. id_cmp j i ≡ Less) ids
goes_behind i last [] o lower asc at e t = absurd (cc)
goes_behind i last (j ∷ js) o lower asc at e t =
    let place = length (j ∷ js) - 1 in
    let is : get_or (j ∷ js) place last ≡ last = get_or_from_slice_get (j ∷ js) place last last at in
    let named : id_cmp (get_or (j ∷ js) place last) i ≡ o = ap (λ (k : WriteId). id_cmp k i) is ∙ sym e in (
      λ is_lower. all_before i (j ∷ js) place last asc (omega arith) (named ∙ is_less o (sym t ∙ is_lower)),
      λ each. t ∙ ap is_lt (sym named ∙ each_at (λ k. id_cmp k i ≡ Less) (j ∷ js) place last each (omega arith)),
    )
