-- Which groups of versions are whole, by what is there of each version: what a version more makes of them, and how far they tell that all is there.
use Rattle.std.proofs.Common.{◌≡◌, ◌≢◌, ℕ, zero, suc, ◌+◌, ◌-◌, ◌*◌, ◌/◌, ◌<◌, ◌≤◌, ◌⊎◌, Bool, true, false, List, [], ◌∷◌, ◌++◌, length, map, get_or, set, ⊎_elim, refl, sym, ap, ◌∙◌, true≢false, arith}
use Rattle.std.specs.List.{range_with_len, prefix_len}
use Rattle.std.proofs.lemmas.Bool.{cases_eq, cases_lt}
use Rattle.std.proofs.lemmas.List.{same_lists, length-map, length-set, get_or-map, get_or_past, get_or-set_same, get_or-set_other}
use Rattle.std.proofs.lemmas.List.Folds.{list_all_at}
use Rattle.std.proofs.lemmas.List.FromFn.{get_or-range_with_len, length-range_with_len, map-range_with_len_more}
use Rattle.std.proofs.lemmas.List.Sums.{prefix_len-le-length, prefix_len_passes, prefix_len_stops, AllPass-from_list_all, list_all-from_AllPass}
use Rattle.anti_replicas.specs.inner.Backlogs.{group_whole}
use Rattle.anti_replicas.proofs.Numbers.{all_alike}

-- which of so many groups are whole
abbrev pub groups : List Bool → ℕ → List Bool
groups bs n = map (group_whole bs) (range_with_len 0 n)

pub groups_length : (bs : List Bool) (n : ℕ) → length (groups bs n) ≡ n
groups_length bs n = length-map (range_with_len 0 n) (group_whole bs) ∙ length-range_with_len 0 n

pub group_there : (bs : List Bool) (n j : ℕ) (d : Bool) → j < n → get_or (groups bs n) j d ≡ group_whole bs j
group_there bs n j d short =
    let at : 0 + j ≡ j = omega arith in
    get_or-map (group_whole bs) (range_with_len 0 n) j 0 d (omega (arith, length-range_with_len 0 n)) ∙ ap (group_whole bs) (get_or-range_with_len 0 n j 0 short ∙ at)

-- the place of a version among those of its group
module _ (bs : List Bool) (j i : ℕ) (low : j * 8 ≤ i) (high : i < j * 8 + 8) where
  its_place : get_or (range_with_len (j * 8) 8) (i - j * 8) 0 ≡ i
  its_place = let at : j * 8 + (i - j * 8) ≡ i = omega arith in get_or-range_with_len (j * 8) 8 (i - j * 8) 0 (omega arith) ∙ at

  short : i - j * 8 < length (range_with_len (j * 8) 8)
  short = omega (arith, length-range_with_len (j * 8) 8)

  -- each version of a group that is whole is there
  pub in_whole : group_whole bs j ≡ true → get_or bs i false ≡ true
  in_whole all = sym (ap (λ (x : ℕ). get_or bs x false) its_place) ∙ AllPass-from_list_all (λ x. get_or bs x false) (range_with_len (j * 8) 8) all (i - j * 8) 0 short

  -- and one without a version is not
  pub not_whole : get_or bs i false ≡ false → group_whole bs j ≡ false
  not_whole off = list_all_at (λ x. get_or bs x false) (range_with_len (j * 8) 8) (i - j * 8) 0 short (ap (λ (x : ℕ). get_or bs x false) its_place ∙ off)

-- and where each is there, the group is whole
pub whole_by : (bs : List Bool) (j : ℕ) → ((i : ℕ) → j * 8 ≤ i → i < j * 8 + 8 → get_or bs i false ≡ true) → group_whole bs j ≡ true
whole_by bs j each = list_all-from_AllPass (λ x. get_or bs x false) (range_with_len (j * 8) 8) (λ k d short.
    let at : get_or (range_with_len (j * 8) 8) k d ≡ j * 8 + k = get_or-range_with_len (j * 8) 8 k d (omega (arith, length-range_with_len (j * 8) 8)) in
    each (get_or (range_with_len (j * 8) 8) k d) (omega arith) (omega (arith, length-range_with_len (j * 8) 8)))

group_alike : (cs bs : List Bool) (j : ℕ) → ((i : ℕ) → j * 8 ≤ i → i < j * 8 + 8 → get_or cs i false ≡ get_or bs i false) → group_whole cs j ≡ group_whole bs j
group_alike cs bs j same = all_alike (λ x. get_or cs x false) (λ x. get_or bs x false) (range_with_len (j * 8) 8) (λ k d short.
    let at : get_or (range_with_len (j * 8) 8) k d ≡ j * 8 + k = get_or-range_with_len (j * 8) 8 k d (omega (arith, length-range_with_len (j * 8) 8)) in
    same (get_or (range_with_len (j * 8) 8) k d) (omega arith) (omega (arith, length-range_with_len (j * 8) 8)))

groups_alike : (cs bs : List Bool) (n : ℕ) → ((j : ℕ) → j < n → group_whole cs j ≡ group_whole bs j) → groups cs n ≡ groups bs n
groups_alike cs bs n same = same_lists (groups cs n) (groups bs n) (groups_length cs n ∙ sym (groups_length bs n)) (λ k d short.
    let within : k < n = omega (arith, groups_length cs n) in
    group_there cs n k d within ∙ same k within ∙ sym (group_there bs n k d within))

-- A version that is not there is as none.

none_more : (bs : List Bool) (i : ℕ) → get_or (bs ++ false ∷ []) i false ≡ get_or bs i false
none_more [] zero = refl
none_more [] (suc i) = refl
none_more (b ∷ bs) zero = refl
none_more (b ∷ bs) (suc i) = none_more bs i

pub groups_push : (bs : List Bool) (n : ℕ) → groups (bs ++ false ∷ []) n ≡ groups bs n
groups_push bs n = groups_alike (bs ++ false ∷ []) bs n (λ j less. group_alike (bs ++ false ∷ []) bs j (λ i low high. none_more bs i))

-- a further group, of which nothing is there
pub groups_more : (bs : List Bool) (n : ℕ) → length bs ≤ n * 8 → groups bs (n + 1) ≡ groups bs n ++ false ∷ []
groups_more bs n all =
    map-range_with_len_more (group_whole bs) 0 n n (omega arith)
    ∙ ap (λ (b : Bool). groups bs n ++ b ∷ []) (not_whole bs n (n * 8) (omega arith) (omega arith) (get_or_past bs (n * 8) false all))

-- The version at the index i comes.
module _ (i : ℕ) (bs : List Bool) (within : i < length bs) (was : get_or bs i false ≡ false) where
  pub group_was : group_whole bs (i / 8) ≡ false
  group_was = not_whole bs (i / 8) i (omega arith) (omega arith) was

  elsewhere : (j : ℕ) → j ≢ i / 8 → group_whole (set bs i true) j ≡ group_whole bs j
  elsewhere j other = group_alike (set bs i true) bs j (λ x low high. get_or-set_other bs i x true false (λ same. other (omega (arith, same))))

  -- its group is whole now
  pub groups_set : (n : ℕ) → i / 8 < n → group_whole (set bs i true) (i / 8) ≡ true → groups (set bs i true) n ≡ set (groups bs n) (i / 8) true
  groups_set n short on =
      same_lists (groups (set bs i true) n) (set (groups bs n) (i / 8) true)
      (groups_length (set bs i true) n ∙ sym (length-set (groups bs n) (i / 8) true ∙ groups_length bs n)) (λ k d less.
      let inside : k < n = omega (arith, groups_length (set bs i true) n) in
      group_there (set bs i true) n k d inside
      ∙ ⊎_elim (λ (same : k ≡ i / 8).
      ap (group_whole (set bs i true)) same ∙ on
      ∙ sym (ap (λ (x : ℕ). get_or (set (groups bs n) (i / 8) true) x d) same ∙ get_or-set_same (groups bs n) (i / 8) true d (omega (arith, groups_length bs n))))
      (λ (other : k ≢ i / 8). elsewhere k other ∙ sym (get_or-set_other (groups bs n) (i / 8) k true d other ∙ group_there bs n k d inside))
      (cases_eq k (i / 8)))

  -- it is not whole yet
  pub groups_same : (n : ℕ) → group_whole (set bs i true) (i / 8) ≡ false → groups (set bs i true) n ≡ groups bs n
  groups_same n off = groups_alike (set bs i true) bs n (λ j less.
      ⊎_elim (λ (same : j ≡ i / 8). ap (group_whole (set bs i true)) same ∙ off ∙ sym (ap (group_whole bs) same ∙ group_was))
      (λ (other : j ≢ i / 8). elsewhere j other)
      (cases_eq j (i / 8)))

-- Where so many groups are whole, from the first on, their versions are there.
pub groups_prefix : (bs : List Bool) (n : ℕ) → prefix_len (λ b. b) (groups bs n) * 8 ≤ prefix_len (λ b. b) bs
groups_prefix bs n = ⊎_elim (λ (less : u < k * 8). absurd (true≢false (sym (whole less) ∙ missing (cases_lt u (length bs))))) (λ (more : k * 8 ≤ u). more) (cases_lt u (k * 8)) where
  u : ℕ
  u = prefix_len (λ b. b) bs

  k : ℕ
  k = prefix_len (λ b. b) (groups bs n)

  whole : u < k * 8 → get_or bs u false ≡ true
  whole less =
      let few : k ≤ n = omega (arith, prefix_len-le-length (λ b. b) (groups bs n), groups_length bs n) in
      let j : ℕ = u / 8 in
      let before : j < k = omega arith in
      in_whole bs j u (omega arith) (omega arith) (sym (group_there bs n j true (omega arith)) ∙ prefix_len_passes (λ b. b) (groups bs n) j true before)

  missing : (u < length bs) ⊎ (length bs ≤ u) → get_or bs u false ≡ false
  missing cases = ⊎_elim (λ (short : u < length bs). prefix_len_stops (λ b. b) bs false short) (λ (past : length bs ≤ u). get_or_past bs u false past) cases
