-- Sets of numbers, by their bits.
use Rattle.std.proofs.Common.{◌≡◌, ℕ, zero, suc, ◌+◌, ◌-◌, ◌*◌, ◌/◌, ◌%◌, ◌^◌, ◌<◌, ◌≤◌, ◌&&◌, ◌||◌, Bool, true, false, cond, not, List, length, get_or, set, replicate, min, max, bit_or, bit_and, refl, sym, ap, ap₂, ◌∙◌, inl, inr, arith, w64}
use Rattle.std.specs.Prelude.{◌==◌, nat_lt}
use Rattle.std.specs.Int.{bit_at, trailing_zeros}
use Rattle.std.proofs.lemmas.Bool.{cases_eq, cases_lt, eq-eqb, ne_eqb, le-ltb, lt-ltb}
use Rattle.std.proofs.lemmas.List.{get_or-replicate, get_or-set_other, get_or-set_same, get_or_past, length-replicate, length-set}
use Rattle.std.proofs.lemmas.Nat.{shr-shr}
use Rattle.std.proofs.lemmas.Nat.Bits.{bit_at-lt, bit_at-trailing_zeros, bit_at-zero, bit_at_above, bit_at_and, bit_at_ones, bit_at_ones_above, bit_at_or, bit_at_set_other, bit_at_set_same}
use Rattle.anti_order.specs.inner.NumberSets.{has, is_bit, room}

-- ---- one word

-- a number by a word and a bit
same_number : (n m : ℕ) → n / 64 ≡ m / 64 → n % 64 ≡ m % 64 → n ≡ m
same_number n m word bit = omega (arith, word, bit)

module _ (words : List ℕ) (q word n : ℕ) where
  has_word : n / 64 ≡ q → word ≡ get_or words q 0 → has words n ≡ is_bit word (n % 64)
  has_word here is = ap (λ (k : ℕ). is_bit (get_or words k 0) (n % 64)) here ∙ ap (λ (w : ℕ). is_bit w (n % 64)) (sym is)

  has-set : q < length words → n / 64 ≡ q → has (set words q word) n ≡ is_bit word (n % 64)
  has-set low here =
      ap (λ (k : ℕ). is_bit (get_or (set words q word) k 0) (n % 64)) here
      ∙ ap (λ (w : ℕ). is_bit w (n % 64)) (get_or-set_same words q word 0 low)

  has-unset : (n / 64 ≡ q → ⊥) → has (set words q word) n ≡ has words n
  has-unset apart = ap (λ (w : ℕ). is_bit w (n % 64)) (get_or-set_other words q (n / 64) word 0 apart)

pub has_past : (words : List ℕ) (n : ℕ) → room words ≤ n → has words n ≡ false
has_past words n past =
    ap (λ (w : ℕ). is_bit w (n % 64)) (get_or_past words (n / 64) 0 (omega (arith, past))) ∙ ap (λ (b : ℕ). b == 1) (bit_at-zero (n % 64))

-- ---- one number more

module _ (words : List ℕ) (number word n : ℕ) (low : number / 64 < length words) (is : word ≡ get_or words (number / 64) 0) where
  abbrev more : ℕ
  more = bit_or word (1 * 2 ^ (number % 64) % 2 ^ 64)

  in_word : n / 64 ≡ number / 64 → is_bit more (n % 64) ≡ (n == number || has words n)
  in_word here =
      elim (cases_eq (n % 64) (number % 64)) [
        | inl same ↦
            ap (λ (i : ℕ). is_bit more i) same
            ∙ ap (λ (b : ℕ). b == 1) (bit_at_set_same w64 word (number % 64) (omega arith))
            ∙ sym (ap (λ (t : Bool). t || has words n) (eq-eqb n number (same_number n number here same)))
        | inr apart ↦
            ap (λ (b : ℕ). b == 1) (bit_at_set_other w64 word (number % 64) (omega arith) (n % 64) apart)
            ∙ sym (has_word words (number / 64) word n here is)
            ∙ sym (ap (λ (t : Bool). t || has words n) (ne_eqb n number (λ e. apart (ap (λ (m : ℕ). m % 64) e))))
      ]

  pub inserted : has (set words (number / 64) more) n ≡ (n == number || has words n)
  inserted =
      elim (cases_eq (n / 64) (number / 64)) [
        | inl here ↦ has-set words (number / 64) more n low here ∙ in_word here
        | inr apart ↦
            has-unset words (number / 64) more n apart
            ∙ sym (ap (λ (t : Bool). t || has words n) (ne_eqb n number (λ e. apart (ap (λ (m : ℕ). m / 64) e))))
      ]

pub not_inserted : (words : List ℕ) (number n : ℕ) → length words ≤ number / 64 → n < room words → has words n ≡ (n == number || has words n)
not_inserted words number n past low =
    let apart : n ≡ number → ⊥ = λ e. absurd (omega (arith, past, low, e)) in
    sym (ap (λ (t : Bool). t || has words n) (ne_eqb n number apart))

-- ---- all numbers below a count

pub all_in : (words : List ℕ) (count n : ℕ) → words ≡ replicate (count / 64 + 1) (2 ^ 64 - 1)
    → has (set words (count / 64) (2 ^ (count % 64) - 1)) n ≡ nat_lt n count
all_in words count n is =
    let ones : ℕ = 2 ^ (count % 64) - 1 in
    let many : length words ≡ count / 64 + 1 = ap length is ∙ length-replicate (count / 64 + 1) (2 ^ 64 - 1) in
    elim (cases_eq (n / 64) (count / 64)) [
      | inl here ↦ has-set words (count / 64) ones n (omega (arith, many)) here ∙ in_last here
      | inr apart ↦ has-unset words (count / 64) ones n apart ∙ in_others many apart
    ]
  where
    in_last : n / 64 ≡ count / 64 → is_bit (2 ^ (count % 64) - 1) (n % 64) ≡ nat_lt n count
    in_last here =
        elim (cases_lt (n % 64) (count % 64)) [
          | inl low ↦
              ap (λ (b : ℕ). b == 1) (bit_at_ones (count % 64) (n % 64) low) ∙ sym (lt-ltb n count (omega (arith, here, low)))
          | inr high ↦
              ap (λ (b : ℕ). b == 1) (bit_at_ones_above (count % 64) (n % 64) high) ∙ sym (le-ltb n count (omega (arith, here, high)))
        ]

    in_others : length words ≡ count / 64 + 1 → (n / 64 ≡ count / 64 → ⊥) → has words n ≡ nat_lt n count
    in_others many apart =
        elim (cases_lt (n / 64) (count / 64)) [
          | inl low ↦
              ap (λ (ws : List ℕ). has ws n) is
              ∙ ap (λ (w : ℕ). is_bit w (n % 64)) (get_or-replicate (count / 64 + 1) (n / 64) (2 ^ 64 - 1) 0 (omega (arith, low)))
              ∙ ap (λ (b : ℕ). b == 1) (bit_at_ones 64 (n % 64) (omega arith))
              ∙ sym (lt-ltb n count (omega (arith, low)))
          | inr high ↦
              let later : count / 64 < n / 64 = omega (arith, high, apart) in
              has_past words n (omega (arith, many, later)) ∙ sym (le-ltb n count (omega (arith, later)))
        ]

-- ---- two sets, word by word

-- The words before k are those of two sets that are joined by a test, and the others those of the first.
pub record AreJoined (join : Bool → Bool → Bool) (old others new : List ℕ) (k : ℕ) : Type 0 where
  pub done : (n : ℕ) → n / 64 < k → has new n ≡ join (has old n) (has others n)
  pub left : (n : ℕ) → k ≤ n / 64 → has new n ≡ has old n
  pub count : length new ≡ length old

pub join_none : (join : Bool → Bool → Bool) (old others : List ℕ) → AreJoined join old others old 0
join_none join old others = record { done = λ n low. absurd (omega (arith, low)); left = λ n high. refl; count = refl }

module _ (join : Bool → Bool → Bool) (old others new : List ℕ) (k word : ℕ) (so_far : AreJoined join old others new k) where
  pub join_more : k < length new → ((n : ℕ) → n / 64 ≡ k → is_bit word (n % 64) ≡ join (has new n) (has others n))
      → AreJoined join old others (set new k word) (k + 1)
  join_more low is = record {
    done = λ n before.
        elim (cases_eq (n / 64) k) [
          | inl here ↦
              has-set new k word n low here
              ∙ is n here
              ∙ ap (λ (t : Bool). join t (has others n)) (so_far.left n (omega (arith, here)))
          | inr apart ↦ has-unset new k word n apart ∙ so_far.done n (omega (arith, before, apart))
        ];
    left = λ n behind.
        has-unset new k word n (λ e. absurd (omega (arith, behind, e))) ∙ so_far.left n (omega (arith, behind));
    count = length-set new k word ∙ so_far.count;
  }

  pub joined : join false false ≡ false → length new ≤ k → room old ≡ room others → (n : ℕ) → has new n ≡ join (has old n) (has others n)
  joined none all same n =
      elim (cases_lt (n / 64) k) [
        | inl low ↦ so_far.done n low
        | inr high ↦
            let count = so_far.count in
            let past : room old ≤ n = omega (arith, high, all, count) in
            so_far.left n high
            ∙ has_past old n past
            ∙ sym none
            ∙ sym (ap₂ join (has_past old n past) (has_past others n (omega (arith, past, same))))
      ]

-- bits of two words
both_bits : (a b : ℕ) → a < 2 → b < 2 → (min a b == 1) ≡ (a == 1 && b == 1)
both_bits zero zero one other = refl
both_bits zero (suc zero) one other = refl
both_bits (suc zero) zero one other = refl
both_bits (suc zero) (suc zero) one other = refl
both_bits (suc (suc a)) b one other = absurd (omega (arith, one))
both_bits a (suc (suc b)) one other = absurd (omega (arith, other))

one_bit : (a b : ℕ) → a < 2 → b < 2 → (max a b == 1) ≡ (a == 1 || b == 1)
one_bit zero zero one other = refl
one_bit zero (suc zero) one other = refl
one_bit (suc zero) zero one other = refl
one_bit (suc zero) (suc zero) one other = refl
one_bit (suc (suc a)) b one other = absurd (omega (arith, one))
one_bit a (suc (suc b)) one other = absurd (omega (arith, other))

other_bit : (b : ℕ) → b < 2 → (1 - b == 1) ≡ not (b == 1)
other_bit zero low = refl
other_bit (suc zero) low = refl
other_bit (suc (suc b)) low = absurd (omega (arith, low))

module _ (words others : List ℕ) (k a b n : ℕ) (first : a ≡ get_or words k 0) (second : b ≡ get_or others k 0) (here : n / 64 ≡ k) where
  bits_of_both : (c : ℕ) → is_bit (bit_and a c) (n % 64) ≡ (has words n && is_bit c (n % 64))
  bits_of_both c =
      ap (λ (t : ℕ). t == 1) (bit_at_and a c (n % 64))
      ∙ both_bits (bit_at a (n % 64)) (bit_at c (n % 64)) (bit_at-lt a (n % 64)) (bit_at-lt c (n % 64))
      ∙ ap (λ (t : Bool). t && is_bit c (n % 64)) (sym (has_word words k a n here first))

  pub kept_bits : is_bit (bit_and a b) (n % 64) ≡ (has words n && has others n)
  kept_bits = bits_of_both b ∙ ap (λ (t : Bool). has words n && t) (sym (has_word others k b n here second))

  pub joined_bits : is_bit (bit_or a b) (n % 64) ≡ (has words n || has others n)
  joined_bits =
      ap (λ (t : ℕ). t == 1) (bit_at_or a b (n % 64))
      ∙ one_bit (bit_at a (n % 64)) (bit_at b (n % 64)) (bit_at-lt a (n % 64)) (bit_at-lt b (n % 64))
      ∙ ap₂ (λ (s t : Bool). s || t) (sym (has_word words k a n here first)) (sym (has_word others k b n here second))

  pub removed_bits : (c : ℕ) → ((i : ℕ) → i < 64 → bit_at c i ≡ 1 - bit_at b i) → is_bit (bit_and a c) (n % 64) ≡ (has words n && not (has others n))
  removed_bits c other =
      bits_of_both c
      ∙ ap (λ (t : Bool). has words n && t)
      (ap (λ (t : ℕ). t == 1) (other (n % 64) (omega arith))
      ∙ other_bit (bit_at b (n % 64)) (bit_at-lt b (n % 64))
      ∙ ap not (sym (has_word others k b n here second)))

-- ---- the next number

-- a bit that is as it is wanted, or not
wanted_bit : (inside : Bool) (b : ℕ) → b < 2 → cond inside b (1 - b) ≡ 1 → (b == 1) ≡ inside
wanted_bit true zero low is = absurd (omega (arith, is))
wanted_bit true (suc zero) low is = refl
wanted_bit false zero low is = refl
wanted_bit false (suc zero) low is = absurd (omega (arith, is))
wanted_bit inside (suc (suc b)) low is = absurd (omega (arith, low))

other_wanted : (inside : Bool) (b : ℕ) → b < 2 → cond inside b (1 - b) ≡ 0 → (b == 1) ≡ not inside
other_wanted true zero low is = refl
other_wanted true (suc zero) low is = absurd (omega (arith, is))
other_wanted false zero low is = absurd (omega (arith, is))
other_wanted false (suc zero) low is = refl
other_wanted inside (suc (suc b)) low is = absurd (omega (arith, low))

module _ (words : List ℕ) (inside : Bool) (at word face : ℕ) (is : word ≡ get_or words (at / 64) 0) (fits : face < 2 ^ 64)
    (faces : (i : ℕ) → i < 64 → bit_at face i ≡ cond inside (bit_at word i) (1 - bit_at word i)) where
  abbrev rest : ℕ
  rest = face / 2 ^ (at % 64)

  rest_bit : (i : ℕ) → bit_at rest i ≡ bit_at face (at % 64 + i)
  rest_bit i = ap (λ (x : ℕ). x % 2) (shr-shr face (at % 64) i)

  -- a number of this word, by a bit of the rest
  of_word : (n d : ℕ) → n ≡ at + d → at % 64 + d < 64 → (n / 64 ≡ at / 64) × (n % 64 ≡ at % 64 + d)
  of_word n d behind low = (omega (arith, behind, low), omega (arith, behind, low))

  is_wanted : (n d : ℕ) → n ≡ at + d → at % 64 + d < 64 → bit_at rest d ≡ 1 → has words n ≡ inside
  is_wanted n d behind low set =
      let place = of_word n d behind low in
      let bit : bit_at face (n % 64) ≡ 1 = ap (bit_at face) place.1 ∙ sym (rest_bit d) ∙ set in
      has_word words (at / 64) word n place.0 is
      ∙ wanted_bit inside (bit_at word (n % 64)) (bit_at-lt word (n % 64)) (sym (faces (n % 64) (omega arith)) ∙ bit)

  is_other : (n d : ℕ) → n ≡ at + d → at % 64 + d < 64 → bit_at rest d ≡ 0 → has words n ≡ not inside
  is_other n d behind low clear =
      let place = of_word n d behind low in
      let bit : bit_at face (n % 64) ≡ 0 = ap (bit_at face) place.1 ∙ sym (rest_bit d) ∙ clear in
      has_word words (at / 64) word n place.0 is
      ∙ other_wanted inside (bit_at word (n % 64)) (bit_at-lt word (n % 64)) (sym (faces (n % 64) (omega arith)) ∙ bit)

  -- none in the rest of the word
  pub none_in_rest : rest ≡ 0 → (n : ℕ) → at ≤ n → n < (at / 64 + 1) * 64 → has words n ≡ not inside
  none_in_rest none n behind before =
      is_other n (n - at) (omega (arith, behind)) (omega (arith, behind, before)) (ap (λ (w : ℕ). bit_at w (n - at)) none ∙ bit_at-zero (n - at))

  -- the first in the rest of the word
  module _ (some : 0 < rest) (low_rest : rest < 2 ^ 64) where
    first : (trailing_zeros w64 rest < 64) × (bit_at rest (trailing_zeros w64 rest) ≡ 1) × ((i : ℕ) → i < trailing_zeros w64 rest → bit_at rest i ≡ 0)
    first = bit_at-trailing_zeros w64 rest some low_rest

    pub first_in_word : at % 64 + trailing_zeros w64 rest < 64
    first_in_word =
        elim (cases_lt (at % 64 + trailing_zeros w64 rest) 64) [
          | inl low ↦ low
          | inr high ↦
              let set : bit_at face (at % 64 + trailing_zeros w64 rest) ≡ 1 = sym (rest_bit (trailing_zeros w64 rest)) ∙ first.1 in
              let clear = bit_at_above face 64 (at % 64 + trailing_zeros w64 rest) fits high in
              absurd (omega (arith, set, clear))
        ]

    pub first_is : has words (at + trailing_zeros w64 rest) ≡ inside
    first_is = is_wanted (at + trailing_zeros w64 rest) (trailing_zeros w64 rest) refl first_in_word first.1

    pub others_before : (n : ℕ) → at ≤ n → n < at + trailing_zeros w64 rest → has words n ≡ not inside
    others_before n behind before =
        let low = first_in_word in
        is_other n (n - at) (omega (arith, behind)) (omega (arith, behind, before, low)) (first.2 (n - at) (omega (arith, behind, before)))
