-- The bits of the parts that came to a region: what is told by those that stand below the first that is missing, and what a mark changes.
use Rattle.std.proofs.Common.{◌≡◌, ◌≢◌, ℕ, ◌+◌, ◌-◌, ◌*◌, ◌%◌, ◌^◌, ◌<◌, ◌≤◌, true, false, not, List, length, get_or, replicate, Some, None, refl, sym, ap, ◌∙◌, ◌==◌, eq-eqb, leb, ⊎_elim, arith}
use Rattle.std.specs.Int.{bit_at, trailing_ones, w8}
use Rattle.std.specs.Int.Count.{count_trailing_zeros}
use Rattle.std.specs.List.{range_with_len}
use Rattle.std.specs.Prelude.{bit_or}
use Rattle.std.proofs.lemmas.Bool.{cases_eq, cases_lt, le-leb, lt-leb}
use Rattle.std.proofs.lemmas.List.{get_or-replicate, get_or-set_same, get_or-set_other}
use Rattle.std.proofs.lemmas.List.Folds.{list_all_at}
use Rattle.std.proofs.lemmas.List.FromFn.{get_or-range_with_len, length-range_with_len}
use Rattle.std.proofs.lemmas.List.Sums.{list_all-from_AllPass}
use Rattle.std.proofs.lemmas.Nat.Bits.{bit_at-zero, bit_at-trailing_ones, bit_at_ones, bit_at_set_same, bit_at_set_other}
use Rattle.anti_replicas.specs.declared.kept_write.KeptWrite.{KeptWrite}
use Rattle.anti_replicas.specs.inner.Marks.{mask_at, came, first_missing, has_all, marked}
use Rattle.anti_replicas.proofs.Numbers.{none_fails, find_at}

-- where no bit is set
pub unmarked : (k : KeptWrite) (g p : ℕ) → k.marks ≡ replicate 8 0 → g < 8 → came k g p ≡ false
unmarked k g p none low =
    ap (λ (ms : List ℕ). bit_at (get_or ms g 0) (p - 1) == 1) none
    ∙ ap (λ (m : ℕ). bit_at m (p - 1) == 1) (get_or-replicate 8 g 0 0 low)
    ∙ ap (λ (b : ℕ). b == 1) (bit_at-zero (p - 1))

full_front : trailing_ones w8 255 ≡ 8
unfolding count_trailing_zeros
full_front = refl

-- A byte, and how many of its lowest bits are set.
module _ (n : ℕ) (low : n < 256) where
  bits_below : (i : ℕ) → i < trailing_ones w8 n → bit_at n i ≡ 1
  bits_below i less = ⊎_elim
      (λ (full : n ≡ 255). ap (λ (m : ℕ). bit_at m i) full ∙ bit_at_ones 8 i (omega (arith, ap (trailing_ones w8) full, full_front)))
      (λ (other : n ≢ 255). (bit_at-trailing_ones w8 n (omega (arith, other))).2 i less)
      (cases_eq n 255)

  bit_here : bit_at n (trailing_ones w8 n) ≡ 0
  bit_here = ⊎_elim
      (λ (full : n ≡ 255). ap (λ (m : ℕ). bit_at m (trailing_ones w8 m)) full ∙ ap (bit_at 255) full_front)
      (λ (other : n ≢ 255). (bit_at-trailing_ones w8 n (omega (arith, other))).1)
      (cases_eq n 255)

-- The parts below the first bit that is not set came, and the next did not.
module _ (k : KeptWrite) (g : ℕ) (low : mask_at k g < 256) where
  abbrev front : ℕ
  front = trailing_ones w8 (mask_at k g)

  -- by its index, counted from 0
  part_at : (i d : ℕ) → i < k.parts → get_or (range_with_len 1 k.parts) i d ≡ 1 + i
  part_at i d short = get_or-range_with_len 1 k.parts i d short

  part_came : (i d : ℕ) → i < k.parts → i < front → came k g (get_or (range_with_len 1 k.parts) i d) ≡ true
  part_came i d short less =
      ap (came k g) (part_at i d short) ∙ eq-eqb (bit_at (mask_at k g) (1 + i - 1)) 1 (ap (bit_at (mask_at k g)) (omega arith) ∙ bits_below (mask_at k g) low i less)

  part_missing : (d : ℕ) → front < k.parts → came k g (get_or (range_with_len 1 k.parts) front d) ≡ false
  part_missing d short =
      ap (came k g) (part_at front d short) ∙ ap (λ (b : ℕ). b == 1) (ap (bit_at (mask_at k g)) (omega arith) ∙ bit_here (mask_at k g) low)

  all_came : k.parts ≤ front → has_all g k ≡ true
  all_came all = list_all-from_AllPass (came k g) (range_with_len 1 k.parts) (λ i d short.
      let within : i < k.parts = omega (arith, length-range_with_len 1 k.parts) in
      part_came i d within (omega arith))

  pub whole_by_front : leb k.parts front ≡ has_all g k
  whole_by_front = ⊎_elim
      (λ (short : front < k.parts).
      lt-leb k.parts front short ∙ sym (list_all_at (came k g) (range_with_len 1 k.parts) front 0 (omega (arith, length-range_with_len 1 k.parts)) (part_missing 0 short)))
      (λ (all : k.parts ≤ front). le-leb k.parts front all ∙ sym (all_came all))
      (cases_lt front k.parts)

  pub missing_by_front : front < k.parts → first_missing k g ≡ Some (front + 1)
  missing_by_front short =
      let next : 1 + front ≡ front + 1 = omega arith in
      find_at (λ p. not (came k g p)) (range_with_len 1 k.parts) front 0 (omega (arith, length-range_with_len 1 k.parts))
      (λ i d less. ap not (part_came i d (omega arith) less))
      (ap not (part_missing 0 short))
      ∙ ap (λ (p : ℕ). Some p) (part_at front 0 short ∙ next)

  pub none_missing : k.parts ≤ front → first_missing k g ≡ None
  none_missing all = none_fails (came k g) (range_with_len 1 k.parts) (all_came all)

-- The mark of a part at a region.
module _ (k : KeptWrite) (region part : ℕ) (first : 1 ≤ part) (few : part ≤ 4) where
  pub mark_same : region < length k.marks → came (marked region part k) region part ≡ true
  mark_same within =
      ap (λ (m : ℕ). bit_at m (part - 1) == 1) (get_or-set_same k.marks region (bit_or (mask_at k region) (1 * 2 ^ (part - 1) % 2 ^ 8)) 0 within)
      ∙ ap (λ (b : ℕ). b == 1) (bit_at_set_same w8 (mask_at k region) (part - 1) (omega arith))

  pub mark_part : (p : ℕ) → region < length k.marks → 1 ≤ p → p ≢ part → came (marked region part k) region p ≡ came k region p
  mark_part p within some other =
      ap (λ (m : ℕ). bit_at m (p - 1) == 1) (get_or-set_same k.marks region (bit_or (mask_at k region) (1 * 2 ^ (part - 1) % 2 ^ 8)) 0 within)
      ∙ ap (λ (b : ℕ). b == 1) (bit_at_set_other w8 (mask_at k region) (part - 1) (omega arith) (p - 1) (λ same. other (omega (arith, same))))

  pub mark_region : (g p : ℕ) → g ≢ region → came (marked region part k) g p ≡ came k g p
  mark_region g p other = ap (λ (m : ℕ). bit_at m (p - 1) == 1) (get_or-set_other k.marks region g (bit_or (mask_at k region) (1 * 2 ^ (part - 1) % 2 ^ 8)) 0 other)
