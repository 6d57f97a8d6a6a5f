-- Numbers in decimal, and the texts that they are read from.
use Rattle.std.proofs.Common.{◌≡◌, ℕ, ◌-◌, ◌<◌, ◌≤◌, ◌^◌, List, [], ◌∷◌, Bool, true, false, not, ◌&&◌, None, Some, Result, Ok, Err, nat_eq, nat_le, length, get_or, refl, sym, ap, ◌∙◌, subst, inl, inr, arith, rules}
use Rattle.std.specs.Bool.{then_some}
use Rattle.std.specs.Char.{is_ascii_digit}
use Rattle.std.specs.Cmp.Lexicographic.{same_text}
use Rattle.std.specs.Fmt.{decimal}
use Rattle.std.specs.List.{list_all}
use Rattle.std.specs.Result.{result_ok, OkIff}
use Rattle.std.specs.Str.{IsUtf8, IsAscii, bytes_eq}
use Rattle.std.specs.Str.Parse.{digits_value, ParsesUnsigned}
use Rattle.std.proofs.lemmas.Bool.{and_parts, both_ways, leb-true, le-leb, cases_eq}
use Rattle.std.proofs.lemmas.Bool.Decides.{nat_tests}
use Rattle.std.proofs.lemmas.Fmt.{decimal_digit, decimal_is_IsNumeral, decimal-digits_value, digits_decimal, digits_value-decimal, first_decimal}
use Rattle.std.proofs.lemmas.List.Elements.{All-weaker}
use Rattle.std.proofs.lemmas.List.Sums.{AllPass-from_list_all}
use Rattle.std.proofs.lemmas.Slice.Eq.{bytes_eq-Decides}
use Rattle.std.proofs.lemmas.Str.{IsUtf8-from_ascii}
use Rattle.std.proofs.lemmas.Str.Ascii.{IsAscii-from_all}
use Rattle.std.proofs.lemmas.Str.Parse.{IsNumeralModel, numerals_by_value, parse_digits}
use Rattle.anti_ids.specs.Decimals.{decimal_in}
use Rattle.anti_ids.specs.inner.Numerals.{is_numeral}

own : IsNumeralModel (λ ds. list_all is_ascii_digit ds ≡ true) (digits_value 10)
own = numerals_by_value _ (search rules)

-- ---- ranges

all_passed : (a b c : Bool) (number n : ℕ) → then_some (a && (b && c)) number ≡ Some n → (a ≡ true) × (b ≡ true) × (c ≡ true) × (number ≡ n)
all_passed true true true number n h = let e : number ≡ n = cc in (refl, refl, refl, e)
all_passed true true false number n h = absurd (cc)
all_passed true false c number n h = absurd (cc)
all_passed false b c number n h = absurd (cc)

pass_all : (a b c : Bool) (number : ℕ) → a ≡ true → b ≡ true → c ≡ true → then_some (a && (b && c)) number ≡ Some number
pass_all a b c number p q r = rw (p, q, r) refl

-- What was read is in the range, and the text is its own.
pub decimal_back : (least most : ℕ) (text : List ℕ) (n : ℕ) → decimal_in least most text ≡ Some n → (least ≤ n) × (n ≤ most) × (text ≡ decimal n)
decimal_back least most text n h =
    let number = digits_value 10 text in
    let passed = all_passed (nat_le least number) (nat_le number most) (bytes_eq (decimal number) text) number n h in (
      subst (λ (m : ℕ). least ≤ m) passed.3 (leb-true least number passed.0),
      subst (λ (m : ℕ). m ≤ most) passed.3 (leb-true number most passed.1),
      sym (same_text (decimal number) text (sym passed.2)) ∙ ap decimal passed.3,
    )

-- The text of a number in the range is read as that number.
pub decimal_again : (least most n : ℕ) → least ≤ n → n ≤ most → n < 2 ^ 64 → decimal_in least most (decimal n) ≡ Some n
decimal_again least most n low high small =
    rw (digits_value-decimal own n small)
    (pass_all (nat_le least n) (nat_le n most) (bytes_eq (decimal n) (decimal n)) n (le-leb least n low) (le-leb n most high) ((bytes_eq-Decides (decimal n) (decimal n)).1 refl))

-- The text of a number has digits and nothing else.
pub digits_of_decimal : (n : ℕ) → n < 2 ^ 64 → (0 < length (decimal n)) × (list_all is_ascii_digit (decimal n) ≡ true)
digits_of_decimal n small = ((decimal_is_IsNumeral n small).0.0, digits_decimal own n small)

-- ---- numerals

first_part : (text : List ℕ) → is_numeral text ≡ true → (list_all is_ascii_digit text ≡ true) × (0 < length text) × (get_or text 0 0 ≡ 48 → length text ≡ 1)
first_part [] h = absurd (cc)
first_part (b ∷ []) h = let all : (is_ascii_digit b && true) ≡ true = rw h refl in (all, omega arith, λ zero. refl)
first_part (b ∷ c ∷ bs) h =
    let parts = and_parts (not (nat_eq b 48)) (list_all is_ascii_digit (b ∷ c ∷ bs)) h in
    let other : not (nat_eq b 48) ≡ true = parts.0 in
    (parts.1, omega arith, λ zero. absurd (grind (arith, nat_tests)))

numeral_from : (text : List ℕ) → list_all is_ascii_digit text ≡ true → 48 < get_or text 0 0 → is_numeral text ≡ true
numeral_from [] all first = absurd (omega (arith, first))
numeral_from (b ∷ []) all first = (and_parts (is_ascii_digit b) true all).0
numeral_from (b ∷ c ∷ bs) all first = let other : not (nat_eq b 48) ≡ true = grind (arith, nat_tests) in rw (other) all

-- the text of a number is a numeral
decimal_is_numeral : (n : ℕ) → n < 2 ^ 64 → is_numeral (decimal n) ≡ true
decimal_is_numeral n small =
    elim (cases_eq n 0) [
      | inl none ↦ ap (λ (m : ℕ). is_numeral (decimal m)) none ∙ ap is_numeral (decimal_digit 0 (omega arith))
      | inr some ↦ numeral_from (decimal n) (digits_decimal own n small) (first_decimal n (omega (arith, some)) small)
    ]

not_passed : (b : Bool) (n : ℕ) → (b ≡ true → ⊥) → None ≡ then_some b n
not_passed true n never = absurd (never refl)
not_passed false n never = refl

-- what is no numeral is no number of 64 bits
pub no_number : (text : List ℕ) → is_numeral text ≡ false → None ≡ decimal_in 0 (2 ^ 64 - 1) text
no_number text h =
    let number = digits_value 10 text in
    not_passed _ number (λ t.
    let rest = (and_parts (nat_le 0 number) (nat_le number (2 ^ 64 - 1) && bytes_eq (decimal number) text) t).1 in
    let parts = and_parts (nat_le number (2 ^ 64 - 1)) (bytes_eq (decimal number) text) rest in
    let small : number < 2 ^ 64 = omega (arith, leb-true number (2 ^ 64 - 1) parts.0) in
    let numeral : is_numeral text ≡ true = ap is_numeral (sym (same_text (decimal number) text (sym parts.1))) ∙ decimal_is_numeral number small in
    both_ways (is_numeral text) h numeral)

digit_low : (b : ℕ) → is_ascii_digit b ≡ true → b < 128
digit_low b h = grind (arith, nat_tests)

all_low : (text : List ℕ) → list_all is_ascii_digit text ≡ true → IsAscii text
all_low text h = IsAscii-from_all text (All-weaker (λ b. is_ascii_digit b ≡ true) (λ b. b < 128) digit_low text (AllPass-from_list_all is_ascii_digit text h))

-- a numeral is text
pub numeral_is_text : (text : List ℕ) → is_numeral text ≡ true → IsUtf8 text
numeral_is_text text h = IsUtf8-from_ascii text (all_low text (first_part text h).0)

module _ (text : List ℕ) (h : is_numeral text ≡ true) where
  by_result : {E : Type 0} (r : Result ℕ E) → OkIff r ((0 < length text) × (digits_value 10 text < 2 ^ 64)) (digits_value 10 text) → result_ok r ≡ decimal_in 0 (2 ^ 64 - 1) text
  by_result (Ok found) ok =
      let number = digits_value 10 text in
      let parts = first_part text h in
      let spelled : decimal number ≡ text = decimal-digits_value own text parts.0 parts.1 parts.2 ok.0.1 in
      let below : number ≤ 2 ^ 64 - 1 = omega (arith, ok.0.1) in
      ap Some ok.1
      ∙ sym (pass_all (nat_le 0 number) (nat_le number (2 ^ 64 - 1)) (bytes_eq (decimal number) text) number (le-leb 0 number (omega arith)) (le-leb number (2 ^ 64 - 1) below) ((bytes_eq-Decides (decimal number) text).1 spelled))
  by_result (Err fault) never =
      let number = digits_value 10 text in
      let some : 0 < length text = (first_part text h).1 in
      not_passed _ number (λ t.
      let rest = (and_parts (nat_le 0 number) (nat_le number (2 ^ 64 - 1) && bytes_eq (decimal number) text) t).1 in
      let parts = and_parts (nat_le number (2 ^ 64 - 1)) (bytes_eq (decimal number) text) rest in
      never (some, omega (arith, leb-true number (2 ^ 64 - 1) parts.0)))

  -- a numeral is the number that it says, where that has 64 bits
  pub number_read : {E : Type 0} (r : Result ℕ E) → ParsesUnsigned 64 10 text r → result_ok r ≡ decimal_in 0 (2 ^ 64 - 1) text
  number_read r parsed = by_result r (parse_digits own 64 text r parsed (first_part text h).0)
