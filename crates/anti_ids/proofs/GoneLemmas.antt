-- Words of bits that say what is gone, and one bit that changes.
use Rattle.std.proofs.Common.{◌≡◌, ℕ, zero, suc, ◌+◌, ◌-◌, ◌*◌, ◌/◌, ◌%◌, ◌^◌, ◌<◌, ◌≤◌, ◌⊎◌, List, Bool, true, false, length, get_or, replicate, set, min, bit_and, bit_or, count_ones, if◌then◌else◌, sym, ap, ◌∙◌, inl, inr, arith, w64}
use Rattle.std.specs.Prelude.{◌≢◌, ◌==◌}
use Rattle.std.specs.Int.{bit_at, bit_not}
use Rattle.std.proofs.lemmas.Bool.{cases_eq, cases_lt}
use Rattle.std.proofs.lemmas.List.{get_or-replicate, get_or-set_same, get_or-set_other, get_or_past, length-replicate}
use Rattle.std.proofs.lemmas.Nat.{mod-pow-add, ones_cat, ones_le_self, shr-shr, zero_from_ones}
use Rattle.std.proofs.lemmas.Nat.Bits.{bit_at-zero, bit_at_set_same, bit_at_set_other, bit_at_clear_same, bit_at_clear_other}
use Rattle.anti_ids.specs.inner.Left.{gone_in, is_gone}

-- where no word has a bit none is gone
pub none_gone : (words : List ℕ) → ((number : ℕ) → number < length words → get_or words number 0 ≡ 0) → (at : ℕ) → is_gone words at ≡ false
none_gone words empty at = ap (λ (w : ℕ). bit_at w (at % 64) == 1) (none (cases_lt (at / 64) (length words))) ∙ ap (λ (b : ℕ). b == 1) (bit_at-zero (at % 64))
  where
    none : (at / 64 < length words) ⊎ (length words ≤ at / 64) → get_or words (at / 64) 0 ≡ 0
    none (inl within) = empty (at / 64) within
    none (inr past) = get_or_past words (at / 64) 0 past

pub zeros_gone : (count at : ℕ) → is_gone (replicate count 0) at ≡ false
zeros_gone count =
    let size : length (replicate count 0) ≡ count = length-replicate {A = ℕ} count 0 in
    none_gone (replicate count 0) (λ number within. get_or-replicate count number 0 0 (omega (arith, within, size)))

-- a word with one more bit, and with one less
abbrev pub with_bit : ℕ → ℕ → ℕ
with_bit word bit = bit_or word (1 * 2 ^ bit % 2 ^ 64)

abbrev pub without_bit : ℕ → ℕ → ℕ
without_bit word bit = bit_and word (bit_not w64 (1 * 2 ^ bit % 2 ^ 64))

-- another word in the place of that which has the bit of an index
module _ (words : List ℕ) (at changed : ℕ) (within : at / 64 < length words) where
  bit_here : is_gone (set words (at / 64) changed) at ≡ (bit_at changed (at % 64) == 1)
  bit_here = ap (λ (w : ℕ). bit_at w (at % 64) == 1) (get_or-set_same words (at / 64) changed 0 within)

  bit_there : ((bit : ℕ) → bit < 64 → bit ≢ at % 64 → bit_at changed bit ≡ bit_at (get_or words (at / 64) 0) bit)
      → (other : ℕ) → other ≢ at → is_gone (set words (at / 64) changed) other ≡ is_gone words other
  bit_there same other apart =
      elim (cases_eq (other / 64) (at / 64)) [
        | inl is ↦
            ap (λ (w : ℕ). bit_at w (other % 64) == 1) (ap (λ (q : ℕ). get_or (set words (at / 64) changed) q 0) is ∙ get_or-set_same words (at / 64) changed 0 within)
            ∙ ap (λ (b : ℕ). b == 1) (same (other % 64) (omega arith) (λ e. apart (omega arith)))
            ∙ ap (λ (q : ℕ). bit_at (get_or words q 0) (other % 64) == 1) (sym is)
        | inr differ ↦
            ap (λ (w : ℕ). bit_at w (other % 64) == 1) (get_or-set_other words (at / 64) (other / 64) changed 0 differ)
      ]

-- an id that is gone now, or no more
module _ (words : List ℕ) (at : ℕ) (within : at / 64 < length words) where
  abbrev pub word : ℕ
  word = get_or words (at / 64) 0

  pub gone_now : is_gone (set words (at / 64) (with_bit word (at % 64))) at ≡ true
  gone_now = bit_here words at (with_bit word (at % 64)) within ∙ ap (λ (b : ℕ). b == 1) (bit_at_set_same w64 word (at % 64) (omega arith))

  pub others_as_before : (other : ℕ) → other ≢ at → is_gone (set words (at / 64) (with_bit word (at % 64))) other ≡ is_gone words other
  others_as_before = bit_there words at (with_bit word (at % 64)) within (λ bit small apart. bit_at_set_other w64 word (at % 64) (omega arith) bit apart)

  pub back_now : is_gone (set words (at / 64) (without_bit word (at % 64))) at ≡ false
  back_now = bit_here words at (without_bit word (at % 64)) within ∙ ap (λ (b : ℕ). b == 1) (bit_at_clear_same w64 word (at % 64) (omega arith))

  pub others_beside : (other : ℕ) → other ≢ at → is_gone (set words (at / 64) (without_bit word (at % 64))) other ≡ is_gone words other
  others_beside = bit_there words at (without_bit word (at % 64)) within (λ bit small apart. bit_at_clear_other w64 word (at % 64) (omega arith) bit small apart)

-- Ones of a word, and how many are gone.
one_bit : (z : ℕ) → z < 2 → count_ones z ≡ (if z == 1 then 1 else 0)
one_bit zero small = omega (arith, ones_le_self 0)
one_bit (suc zero) small = go (cases_eq (count_ones 1) 0)
  where
    go : (count_ones 1 ≡ 0) ⊎ (count_ones 1 ≢ 0) → count_ones 1 ≡ 1
    go (inl none) = absurd (omega (arith, zero_from_ones 1 none))
    go (inr some) = omega (arith, ones_le_self 1, some)
one_bit (suc (suc z)) small = absurd (omega arith)

bit_of : (gone : Bool) (z : ℕ) → gone ≡ (z == 1) → z < 2 → (if gone then 1 else 0) ≡ count_ones z
bit_of gone z is small = ap (λ (b : Bool). if b then 1 else 0) is ∙ sym (one_bit z small)

-- within a word, as many are gone as bits are set
pub gone_in-word : (words : List ℕ) (number bit n : ℕ) → bit + n ≤ 64 → gone_in words (number * 64 + bit) n ≡ count_ones (get_or words number 0 / 2 ^ bit % 2 ^ n)
gone_in-word words number bit zero within =
    let none : get_or words number 0 / 2 ^ bit % 2 ^ 0 ≡ 0 = omega arith in sym (ap count_ones none ∙ one_bit 0 (omega arith))
gone_in-word words number bit (suc n) within =
    let at = number * 64 + bit in
    let word = get_or words number 0 in
    let rest = word / 2 ^ bit in
    let row : at / 64 ≡ number = omega (arith, within) in
    let column : at % 64 ≡ bit = omega (arith, within) in
    let here : is_gone words at ≡ (rest % 2 == 1) = ap (λ (q : ℕ). bit_at (get_or words q 0) (at % 64) == 1) row ∙ ap (λ (b : ℕ). bit_at word b == 1) column in
    let low : rest % 2 ^ 1 < 2 ^ 1 = omega arith in
    let first : (if is_gone words at then 1 else 0) ≡ count_ones (rest % 2 ^ 1) = bit_of (is_gone words at) (rest % 2) here low in
    let place : at + 1 ≡ number * 64 + (bit + 1) = omega arith in
    let next : gone_in words (at + 1) n ≡ count_ones (word / 2 ^ (bit + 1) % 2 ^ n) =
    ap (λ (k : ℕ). gone_in words k n) place ∙ gone_in-word words number (bit + 1) n (omega (arith, within)) in
    let further : count_ones (word / 2 ^ (bit + 1) % 2 ^ n) ≡ count_ones (rest / 2 ^ 1 % 2 ^ n) = ap (λ (x : ℕ). count_ones (x % 2 ^ n)) (sym (shr-shr word bit 1)) in
    let length_up : n + 1 ≡ suc n = omega arith in
    let whole : count_ones (rest % 2 ^ suc n) ≡ count_ones (rest / 2 ^ 1 % 2 ^ n) + count_ones (rest % 2 ^ 1) =
    ap (λ (m : ℕ). count_ones (rest % 2 ^ m)) (sym length_up) ∙ ap count_ones (mod-pow-add rest n 1) ∙ ones_cat 1 (rest / 2 ^ 1 % 2 ^ n) (rest % 2 ^ 1) low in
    omega (arith, first, next, further, whole)

-- those of two ranges, one behind the other
pub gone_in-add : (words : List ℕ) (at m n : ℕ) → gone_in words at (m + n) ≡ gone_in words at m + gone_in words (at + m) n
gone_in-add words at zero n =
    let all : zero + n ≡ n = omega arith in
    let here : at + zero ≡ at = omega arith in
    omega (arith, ap (λ (k : ℕ). gone_in words at k) all, ap (λ (k : ℕ). gone_in words k n) here)
gone_in-add words at (suc m) n =
    let longer : suc m + n ≡ suc (m + n) = omega arith in
    let first : gone_in words at (suc m + n) ≡ (if is_gone words at then 1 else 0) + gone_in words (at + 1) (m + n) = ap (λ (k : ℕ). gone_in words at k) longer in
    let place : at + 1 + m ≡ at + suc m = omega arith in
    let further : gone_in words (at + 1 + m) n ≡ gone_in words (at + suc m) n = ap (λ (k : ℕ). gone_in words k n) place in
    omega (arith, first, gone_in-add words (at + 1) m n, further)

-- a word more
pub gone_in-step : (words : List ℕ) (number len bits : ℕ) → number * 64 < len → bits ≡ min (len - number * 64) 64
    → gone_in words (number * 64) (len - number * 64) ≡ count_ones (get_or words number 0 % 2 ^ bits) + gone_in words ((number + 1) * 64) (len - (number + 1) * 64)
gone_in-step words number len bits more is =
    let rest = len - (number + 1) * 64 in
    let sum : len - number * 64 ≡ bits + rest = omega (arith, more, is) in
    let start : number * 64 ≡ number * 64 + 0 = omega arith in
    let unmoved : get_or words number 0 / 2 ^ 0 ≡ get_or words number 0 = omega arith in
    let low : gone_in words (number * 64) bits ≡ count_ones (get_or words number 0 % 2 ^ bits) =
    ap (λ (k : ℕ). gone_in words k bits) start ∙ gone_in-word words number 0 bits (omega (arith, is)) ∙ ap (λ (x : ℕ). count_ones (x % 2 ^ bits)) unmoved in
    let high : gone_in words (number * 64 + bits) rest ≡ gone_in words ((number + 1) * 64) rest = behind (cases_lt bits 64) in
    ap (λ (n : ℕ). gone_in words (number * 64) n) sum ∙ gone_in-add words (number * 64) bits rest ∙ omega (arith, low, high)
  where
    behind : (bits < 64) ⊎ (64 ≤ bits) → gone_in words (number * 64 + bits) (len - (number + 1) * 64) ≡ gone_in words ((number + 1) * 64) (len - (number + 1) * 64)
    behind (inl short) =
        let none : len - (number + 1) * 64 ≡ 0 = omega (arith, more, is, short) in
        ap (λ (n : ℕ). gone_in words (number * 64 + bits) n) none ∙ sym (ap (λ (n : ℕ). gone_in words ((number + 1) * 64) n) none)
    behind (inr full) =
        let there : number * 64 + bits ≡ (number + 1) * 64 = omega (arith, is, full) in
        ap (λ (k : ℕ). gone_in words k (len - (number + 1) * 64)) there
