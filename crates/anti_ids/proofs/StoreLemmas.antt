-- Ids ascend by their stores, so those of a store stand side by side.
use Rattle.std.proofs.Common.{◌≡◌, ℕ, zero, suc, ◌+◌, ◌≤◌, ◌++◌, List, [], ◌∷◌, ◌==◌, Bool, true, false, length, take, drop, refl, sym, ap, subst, ◌∙◌, inl, inr, arith}
use Rattle.std.specs.Prelude.{Option, None, Some, slice_get}
use Rattle.std.specs.declared.cmp.Ordering.{Ordering}
use Rattle.std.specs.declared.cmp.Ordering.TheVariants.{Less, Greater}
use Rattle.std.specs.Cmp.{nat_cmp_is}
use Rattle.std.specs.Cmp.Lexicographic.{slice_cmp}
use Rattle.std.specs.Ordering.{nat_cmp, ordering_then}
use Rattle.std.proofs.lemmas.Bool.{cases_lt, cond_both}
use Rattle.std.proofs.lemmas.List.{append-nil, drop_at, length-append, take_at}
use Rattle.std.proofs.lemmas.List.Elements.{filter-append}
use Rattle.anti_ids.specs.Each.{Each}
use Rattle.anti_ids.specs.Invariants.{IsAscending}
use Rattle.anti_ids.specs.Ids.{id_cmp, ids_of}
use Rattle.anti_ids.specs.declared.id.WriteId.{WriteId}
use Rattle.anti_ids.specs.declared.held_ids.HeldIds.{HeldIds}
use Rattle.anti_ids.specs.declared.held_ids.HeldIds.TheVariants.{Own, Short, Long}
use Rattle.anti_ids.specs.inner.Held.{base_ids, held_ids, range_of}
use Rattle.anti_ids.specs.inner.Left.{is_gone, left_of}
use Rattle.anti_ids.specs.inner.Stores.{StandFrom}
use Rattle.anti_ids.proofs.LeftLemmas.{each_left, first_gone, first_left}

pub false_from : (t : Bool) → (t ≡ true → ⊥) → t ≡ false
false_from true never = absurd (never refl)
false_from false never = refl

-- an id before another is of no later store
pub store_rises : (i j : WriteId) → id_cmp i j ≡ Less → i.store ≤ j.store
store_rises i j less =
    let rest = ordering_then (nat_cmp i.version j.version) (slice_cmp nat_cmp i.key j.key) in
    elim (cases_lt j.store i.store) [
      | inl later ↦ absurd (later_first (ap (λ (o : Ordering). ordering_then o rest) (nat_cmp_is i.store j.store Greater later) ∙ less))
      | inr other ↦ omega arith
    ]
  where
    later_first : Greater ≡ Less → ⊥
    later_first never = absurd (cc)

-- where no id is of a store, the ids of the store are none
pub none_of : (store : ℕ) (ids : List WriteId) → Each (λ j. (j.store == store) ≡ false) ids → ids_of store ids ≡ []
none_of store [] each = refl
none_of store (j ∷ js) each = rw (each.0) (none_of store js each.1)

abbrev given_or : WriteId → Option WriteId → WriteId
given_or other None = other
given_or other (Some i) = i

-- no id is of a later store than the last
pub upto_last : (last : WriteId) (ids : List WriteId) (n : ℕ) → IsAscending ids → length ids ≡ suc n → slice_get ids n ≡ Some last → Each (λ j. j.store ≤ last.store) ids
upto_last last [] n ascending count is = absurd (omega (arith, count))
upto_last last (i ∷ []) zero ascending count is =
    let same : i ≡ last = ap (given_or i) is in let itself : i.store ≤ i.store = omega arith in
    (subst (λ (l : WriteId). i.store ≤ l.store) same itself, tt)
upto_last last (i ∷ []) (suc n) ascending count is = absurd (omega (arith, count))
upto_last last (i ∷ j ∷ js) zero ascending count is = absurd (omega (arith, count))
upto_last last (i ∷ j ∷ js) (suc n) ascending count is =
    let further = upto_last last (j ∷ js) n ascending.1 (omega (arith, count)) is in
    let rises = store_rises i j ascending.0.0 in let later = further.0 in (omega (arith, rises, later), further)

-- where all ids are of a store, they are those of the store
all_of : (store : ℕ) (ids : List WriteId) → Each (λ j. (j.store == store) ≡ true) ids → ids_of store ids ≡ ids
all_of store [] each = refl
all_of store (j ∷ js) each = rw (each.0) (ap (λ (x : List WriteId). j ∷ x) (all_of store js each.1))

own_only : (store : ℕ) (front own back : List WriteId) → Each (λ j. (j.store == store) ≡ false) front → Each (λ j. (j.store == store) ≡ true) own → Each (λ j. (j.store == store) ≡ false) back
    → ids_of store (front ++ (own ++ back)) ≡ own
own_only store front own back before of_it behind =
    filter-append (λ j. j.store == store) front (own ++ back)
    ∙ ap (λ (x : List WriteId). x ++ ids_of store (own ++ back)) (none_of store front before)
    ∙ filter-append (λ j. j.store == store) own back
    ∙ ap (λ (x : List WriteId). ids_of store own ++ x) (none_of store back behind)
    ∙ append-nil (ids_of store own)
    ∙ all_of store own of_it

left-append : (words : List ℕ) (k : ℕ) (xs ys : List WriteId) → left_of words k (xs ++ ys) ≡ left_of words k xs ++ left_of words (k + length xs) ys
left-append words k [] ys = let same : k ≡ k + 0 = omega arith in ap (λ (n : ℕ). left_of words n ys) same
left-append words k (x ∷ xs) ys =
    let next : k + 1 + length xs ≡ k + suc (length xs) = omega arith in
    let more : left_of words (k + 1) (xs ++ ys) ≡ left_of words (k + 1) xs ++ left_of words (k + suc (length xs)) ys =
    left-append words (k + 1) xs ys ∙ ap (λ (n : ℕ). left_of words (k + 1) xs ++ left_of words n ys) next in
    cond_both (is_gone words k) (left_of words (k + 1) xs) (x ∷ left_of words (k + 1) xs) (λ z. left_of words k (x ∷ (xs ++ ys)) ≡ z ++ left_of words (k + suc (length xs)) ys)
    (λ gone. first_gone words k x (xs ++ ys) gone ∙ more)
    (λ left. first_left words k x (xs ++ ys) left ∙ ap (λ (z : List WriteId). x ∷ z) more)

-- The ids of a store are those of the range where they stand.
module _ (store : ℕ) (ids : List WriteId) (from len : ℕ) (stand : StandFrom store ids from len) where
  range_within : from + len ≤ length ids
  range_within =
      omega (arith, stand.at, stand.size, ap length stand.is, length-append stand.front (stand.own ++ stand.back), length-append stand.own stand.back)

  range_own : take len (drop from ids) ≡ stand.own
  range_own =
      ap (λ (x : List WriteId). take len (drop from x)) stand.is
      ∙ ap (λ (x : List WriteId). take len x) (drop_at stand.front (stand.own ++ stand.back) from stand.at)
      ∙ take_at stand.own stand.back len stand.size

  ids_in_range : take len (drop from ids) ≡ ids_of store ids
  ids_in_range =
      range_own ∙ sym (ap (λ (x : List WriteId). ids_of store x) stand.is ∙ own_only store stand.front stand.own stand.back stand.before stand.of_it stand.behind)

  left_in_range : (words : List ℕ) → left_of words from (take len (drop from ids)) ≡ ids_of store (left_of words 0 ids)
  left_in_range words =
      let P : WriteId → Type 0 = λ j. (j.store == store) ≡ false in
      let size : 0 + length stand.front ≡ from = omega (arith, stand.at) in
      let apart : left_of words 0 ids ≡ left_of words 0 stand.front ++ (left_of words from stand.own ++ left_of words (from + length stand.own) stand.back) =
      ap (λ (x : List WriteId). left_of words 0 x) stand.is
      ∙ left-append words 0 stand.front (stand.own ++ stand.back)
      ∙ ap (λ (n : ℕ). left_of words 0 stand.front ++ left_of words n (stand.own ++ stand.back)) size
      ∙ ap (λ (x : List WriteId). left_of words 0 stand.front ++ x) (left-append words from stand.own stand.back) in
      ap (λ (x : List WriteId). left_of words from x) range_own
      ∙ sym (ap (λ (x : List WriteId). ids_of store x) apart
      ∙ own_only store (left_of words 0 stand.front) (left_of words from stand.own) (left_of words (from + length stand.own) stand.back)
      (each_left P words 0 stand.front stand.before) (each_left (λ j. (j.store == store) ≡ true) words from stand.own stand.of_it) (each_left P words (from + length stand.own) stand.back stand.behind))

-- where the ids of a store stand in memory, those that are held stand
pub range_held : (store from len : ℕ) (h : HeldIds) → StandFrom store (base_ids h) from len → range_of from len h ≡ ids_of store (held_ids h)
range_held store from len (Own ids) stand = ids_in_range store ids.items from len stand
range_held store from len (Short short) stand = left_in_range store short.block from len stand short.words
range_held store from len (Long long) stand = left_in_range store long.block from len stand long.words.value

none_in_range : (from : ℕ) (h : HeldIds) → range_of from 0 h ≡ []
none_in_range from (Own ids) = refl
none_in_range from (Short short) = refl
none_in_range from (Long long) = refl

-- where there are none in memory, no id of the store is held
pub none_held : (store from len : ℕ) (h : HeldIds) → StandFrom store (base_ids h) from len → len ≡ 0 → [] ≡ ids_of store (held_ids h)
none_held store from len h stand none =
    sym (none_in_range from h) ∙ range_held store from 0 h (subst (λ (n : ℕ). StandFrom store (base_ids h) from n) none stand)
