-- Where a binary search finds a version among ascending ones, or the place that it would have.
use Rattle.std.proofs.Common.{◌≡◌, ℕ, suc, ◌+◌, ◌-◌, ◌<◌, ◌≤◌, Bool, true, false, List, [], ◌∷◌, ◌++◌, length, get_or, drop, refl, sym, ap, subst, ◌∙◌, ⊎_elim, length-append, arith}
use Rattle.std.specs.Cmp.{nat_cmp_is}
use Rattle.std.specs.Ordering.{nat_cmp, ordering_index}
use Rattle.std.specs.List.{insert, remove}
use Rattle.std.specs.List.Sorted.{IsNonDecreasingBy, IsPartitionPoint}
use Rattle.std.specs.declared.cmp.Ordering.{Ordering}
use Rattle.std.specs.declared.cmp.Ordering.TheVariants.{Less, Equal, Greater}
use Rattle.std.proofs.lemmas.Bool.{cases_lt}
use Rattle.std.proofs.lemmas.Cmp.{ranked}
use Rattle.std.proofs.lemmas.List.{get_or_append_left, get_or-append_right, get_or_at, take_at, drop_at}
use Rattle.anti_queue.specs.inner.Splits.{with_if, IsSplit}

-- The answers of the comparison.

index_less : (w v : ℕ) → w < v → ordering_index (nat_cmp w v) ≡ 0
index_less w v less = ap ordering_index (sym (nat_cmp_is w v Less less))

index_greater : (w v : ℕ) → v < w → ordering_index (nat_cmp w v) ≡ 2
index_greater w v more = ap ordering_index (sym (nat_cmp_is w v Greater more))

index_few : (o : Ordering) → ordering_index o ≤ 2
index_few Less = omega arith
index_few Equal = omega arith
index_few Greater = omega arith

equal_is : (w v : ℕ) → nat_cmp w v ≡ Equal → w ≡ v
equal_is w v is = ranked w v Equal (sym is)

less_is : (w v : ℕ) → nat_cmp w v ≡ Less → w < v
less_is w v is = ranked w v Less (sym is)

greater_is : (w v : ℕ) → nat_cmp w v ≡ Greater → v < w
greater_is w v is = ranked w v Greater (sym is)

-- The versions of a split, by their places.

module _ (xs : List ℕ) (v : ℕ) (below above : List ℕ) where
  low : (stands : Bool) → IsSplit xs v stands below above → (i d : ℕ) → i < length below → get_or xs i d < v
  low stands split i d short =
      subst (λ (w : ℕ). w < v) (sym (ap (λ (ys : List ℕ). get_or ys i d) split.parts ∙ get_or_append_left below (with_if stands v above) d i short)) (split.lower i d short)

  here : IsSplit xs v true below above → (i d : ℕ) → length below ≡ i → get_or xs i d ≡ v
  here split i d same = ap (λ (ys : List ℕ). get_or ys i d) split.parts ∙ get_or_at below v above d i same

  -- past the version, and where it does not stand
  past : IsSplit xs v true below above → (i d : ℕ) → length below < i → i < length xs → v < get_or xs i d
  past split i d more short =
      let k : ℕ = i - length below - 1 in
      let same : i - length below ≡ suc k = omega arith in
      let many : length xs ≡ length below + suc (length above) = ap length split.parts ∙ length-append below (v ∷ above) in
      let at : get_or xs i d ≡ get_or above k d =
      ap (λ (ys : List ℕ). get_or ys i d) split.parts ∙ get_or-append_right below (v ∷ above) (length below) i d refl (omega arith) ∙ ap (λ (n : ℕ). get_or (v ∷ above) n d) same in
      subst (λ (w : ℕ). v < w) (sym at) (split.higher k d (omega arith))

  beyond : IsSplit xs v false below above → (i d : ℕ) → length below ≤ i → i < length xs → v < get_or xs i d
  beyond split i d more short =
      let many : length xs ≡ length below + length above = ap length split.parts ∙ length-append below above in
      let at : get_or xs i d ≡ get_or above (i - length below) d = ap (λ (ys : List ℕ). get_or ys i d) split.parts ∙ get_or-append_right below above (length below) i d refl more in
      subst (λ (w : ℕ). v < w) (sym at) (split.higher (i - length below) d (omega arith))

  -- a version that is found stands at its place
  found_by : (stands : Bool) → IsSplit xs v stands below above → (i : ℕ) → i < length xs → get_or xs i 0 ≡ v → (stands ≡ true) × (i ≡ length below)
  found_by true split i short is =
      ⊎_elim (λ (before : i < length below). absurd (omega (arith, low true split i 0 before)))
      (λ (from : length below ≤ i).
      ⊎_elim (λ (after : length below < i). absurd (omega (arith, past split i 0 after short)))
      (λ (upto : i ≤ length below). (refl, omega arith))
      (cases_lt (length below) i))
      (cases_lt i (length below))
  found_by false split i short is =
      ⊎_elim (λ (before : i < length below). absurd (omega (arith, low false split i 0 before)))
      (λ (from : length below ≤ i). absurd (omega (arith, beyond split i 0 from short)))
      (cases_lt i (length below))

  -- a place with lesser ones before it and greater ones from it on is that of a version that does not stand
  gap_by : (stands : Bool) → IsSplit xs v stands below above → (i : ℕ) → i ≤ length xs → ((k : ℕ) → k < i → get_or xs k 0 < v) → ((k : ℕ) → i ≤ k → k < length xs → v < get_or xs k 0)
      → (stands ≡ false) × (i ≡ length below)
  gap_by true split i within lesser greater =
      let many : length xs ≡ length below + suc (length above) = ap length split.parts ∙ length-append below (v ∷ above) in
      let at : get_or xs (length below) 0 ≡ v = here split (length below) 0 refl in
      ⊎_elim (λ (before : length below < i). absurd (omega (arith, lesser (length below) before)))
      (λ (from : i ≤ length below). absurd (omega (arith, greater (length below) from (omega arith))))
      (cases_lt (length below) i)
  gap_by false split i within lesser greater =
      ⊎_elim (λ (before : i < length below).
      let many : length xs ≡ length below + length above = ap length split.parts ∙ length-append below above in
      absurd (omega (arith, low false split i 0 before, greater i (omega arith) (omega arith))))
      (λ (from : length below ≤ i).
      ⊎_elim (λ (after : length below < i). absurd (omega (arith, lesser (length below) after, beyond split (length below) 0 (omega arith) (omega arith))))
      (λ (upto : i ≤ length below). (refl, omega arith))
      (cases_lt (length below) i))
      (cases_lt i (length below))

  -- the answers rise, so that a binary search finds its way
  rising_by : (stands : Bool) → IsSplit xs v stands below above → IsNonDecreasingBy (λ w. ordering_index (nat_cmp w v)) xs
  rising_by true split i j d le short =
      ⊎_elim (λ (before : i < length below). omega (arith, index_less (get_or xs i d) v (low true split i d before)))
      (λ (from : length below ≤ i).
      ⊎_elim (λ (after : length below < j). omega (arith, index_greater (get_or xs j d) v (past split j d after short), index_few (nat_cmp (get_or xs i d) v)))
      (λ (upto : j ≤ length below). let same : i ≡ j = omega arith in omega (arith, ap (λ (n : ℕ). ordering_index (nat_cmp (get_or xs n d) v)) same))
      (cases_lt (length below) j))
      (cases_lt i (length below))
  rising_by false split i j d le short =
      ⊎_elim (λ (before : i < length below). omega (arith, index_less (get_or xs i d) v (low false split i d before)))
      (λ (from : length below ≤ i). omega (arith, index_greater (get_or xs j d) v (beyond split j d (omega arith) short), index_few (nat_cmp (get_or xs i d) v)))
      (cases_lt i (length below))

-- What a list becomes.

past_one : (v : ℕ) (ps qs : List ℕ) → drop (suc (length ps)) (ps ++ v ∷ qs) ≡ qs
past_one v [] qs = refl
past_one v (p ∷ ps) qs = past_one v ps qs

skipped : (v : ℕ) (ps qs : List ℕ) (n : ℕ) → length ps ≡ n → drop (suc n) (ps ++ v ∷ qs) ≡ qs
skipped v ps qs n is = subst (λ (m : ℕ). drop (suc m) (ps ++ v ∷ qs) ≡ qs) is (past_one v ps qs)

module _ (xs : List ℕ) (v : ℕ) (stands : Bool) (below above : List ℕ) (split : IsSplit xs v stands below above) where
  as_parts : (b : Bool) → stands ≡ b → xs ≡ below ++ with_if b v above
  as_parts b is = split.parts ∙ ap (λ (t : Bool). below ++ with_if t v above) is

  -- the search found it at the place i
  module _ (i : ℕ) (short : i < length xs) (at : (d : ℕ) → nat_cmp (get_or xs i d) v ≡ Equal) where
    place : (stands ≡ true) × (i ≡ length below)
    place = found_by xs v below above stands split i short (equal_is (get_or xs i 0) v (at 0))

    pub found_stays : xs ≡ below ++ with_if true v above
    found_stays = as_parts true place.0

    pub found_goes : remove xs i ≡ below ++ with_if false v above
    found_goes =
        let same : length below ≡ i = sym place.1 in
        ap (λ (ys : List ℕ). remove ys i) found_stays
        ∙ ap (λ (ys : List ℕ). ys ++ drop (suc i) (below ++ v ∷ above)) (take_at below (v ∷ above) i same)
        ∙ ap (λ (ys : List ℕ). below ++ ys) (skipped v below above i same)

  -- the search found it nowhere, and its place is i
  module _ (i : ℕ) (within : i ≤ length xs) (point : IsPartitionPoint (λ w. nat_cmp w v ≡ Less) (λ w. nat_cmp w v ≡ Greater) xs i) where
    gap : (stands ≡ false) × (i ≡ length below)
    gap =
        gap_by xs v below above stands split i within
        (λ k less. less_is (get_or xs k 0) v (point.0 k 0 (omega arith) less))
        (λ k from short. greater_is (get_or xs k 0) v (point.1 k 0 from short))

    pub absent_stays : xs ≡ below ++ with_if false v above
    absent_stays = as_parts false gap.0

    pub absent_comes : insert xs i v ≡ below ++ with_if true v above
    absent_comes =
        let same : length below ≡ i = sym gap.1 in
        ap (λ (ys : List ℕ). insert ys i v) absent_stays
        ∙ ap (λ (ys : List ℕ). ys ++ v ∷ drop i (below ++ above)) (take_at below above i same)
        ∙ ap (λ (ys : List ℕ). below ++ v ∷ ys) (drop_at below above i same)

  pub rising : IsNonDecreasingBy (λ w. ordering_index (nat_cmp w v)) xs
  rising = rising_by xs v below above stands split
