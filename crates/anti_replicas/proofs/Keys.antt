-- The key of a cell is a name: a channel's name, `#` and at most seven digits.
use Rattle.std.proofs.Common.{◌≡◌, ℕ, ◌+◌, ◌^◌, ◌<◌, ◌≤◌, Bool, true, not, ◌||◌, List, ◌∷◌, length, get_or, Option, Some, None, Ok, refl, ap, ◌∙◌, ◌==◌, length-append, arith}
use Rattle.std.specs.Char.{is_ascii_digit}
use Rattle.std.specs.List.{list_all, position}
use Rattle.std.specs.Prelude.{decimal, nat_lt, nat_le}
use Rattle.std.proofs.lemmas.Bool.{and_parts, both_ways, not-true, leb-true, le-leb}
use Rattle.std.proofs.lemmas.Bool.Decides.{nat_tests}
use Rattle.std.proofs.lemmas.Fmt.{length-decimal-le}
use Rattle.std.proofs.lemmas.List.Elements.{All-weaker}
use Rattle.std.proofs.lemmas.List.Folds.{list_all-append}
use Rattle.std.proofs.lemmas.List.Quantifiers.{position-Some}
use Rattle.std.proofs.lemmas.List.Sums.{AllPass-from_list_all, list_all-from_AllPass}
use Rattle.anti_ids.specs.Names.{is_plain, is_plain_byte, is_name_byte, name_of, judged}
use Rattle.anti_ids.proofs.Decimals.{digits_of_decimal}
use Rattle.anti_kind.specs.Cells.{cell_key}

plain_named : (b : ℕ) → is_plain_byte b ≡ true → is_name_byte b ≡ true
plain_named b plain = ap (λ (t : Bool). t || (b == 35)) plain

digit_named : (b : ℕ) → is_ascii_digit b ≡ true → is_name_byte b ≡ true
digit_named b digit = grind (arith, nat_tests)

-- a plain name has at most 24 bytes, and each may stand in a name
record IsShort (c : List ℕ) : Type 0 where
  short : length c ≤ 24
  named : list_all is_name_byte c ≡ true

plain_short : (c : List ℕ) → is_plain c ≡ true → IsShort c
plain_short c plain =
    let first = and_parts (nat_lt 0 (length c)) _ plain in
    let second = and_parts (nat_le (length c) 24) (list_all is_plain_byte c) first.1 in
    record {
      short = leb-true (length c) 24 second.0;
      named = list_all-from_AllPass is_name_byte c (All-weaker (λ b. is_plain_byte b ≡ true) (λ b. is_name_byte b ≡ true) plain_named c (AllPass-from_list_all is_plain_byte c second.1));
    }

-- the key fits into the bytes of a name
pub fits : (c : List ℕ) (n : ℕ) → is_plain c ≡ true → n < 10 ^ 7 → length c + 1 + length (decimal n) ≤ 32
fits c n plain small = omega (arith, (plain_short c plain).short, length-decimal-le 7 n (omega arith) small (omega arith))

key_bytes : (c : List ℕ) (n : ℕ) → is_plain c ≡ true → n < 10 ^ 7 → list_all is_name_byte (cell_key c n) ≡ true
key_bytes c n plain small =
    let digits : list_all is_ascii_digit (decimal n) ≡ true = (digits_of_decimal n (omega arith)).1 in
    let named : list_all is_name_byte (decimal n) ≡ true =
    list_all-from_AllPass is_name_byte (decimal n) (All-weaker (λ b. is_ascii_digit b ≡ true) (λ b. is_name_byte b ≡ true) digit_named (decimal n) (AllPass-from_list_all is_ascii_digit (decimal n) digits)) in
    list_all-append is_name_byte c (35 ∷ decimal n) ∙ rw ((plain_short c plain).named, named) refl

none_bad : (bytes : List ℕ) → list_all is_name_byte bytes ≡ true → (o : Option ℕ) → position (λ b. not (is_name_byte b)) bytes ≡ o → judged bytes o ≡ Ok bytes
none_bad bytes all None is = refl
none_bad bytes all (Some i) is =
    let bad = position-Some (λ b. not (is_name_byte b)) bytes i 0 is in
    absurd (both_ways (is_name_byte (get_or bytes i 0)) (not-true (is_name_byte (get_or bytes i 0)) bad.1) (AllPass-from_list_all is_name_byte bytes all i 0 bad.0))

name_by : (bytes : List ℕ) → nat_lt 0 (length bytes) ≡ true → nat_le (length bytes) 32 ≡ true → list_all is_name_byte bytes ≡ true → name_of bytes ≡ Ok bytes
name_by bytes some few all = rw (some, few) (none_bad bytes all (position (λ b. not (is_name_byte b)) bytes) refl)

pub named : (c : List ℕ) (n : ℕ) → is_plain c ≡ true → n < 10 ^ 7 → name_of (cell_key c n) ≡ Ok (cell_key c n)
named c n plain small =
    let len : length (cell_key c n) ≡ length c + length (35 ∷ decimal n) = length-append c (35 ∷ decimal n) in
    let few : length (cell_key c n) ≤ 32 = omega (arith, fits c n plain small) in
    name_by (cell_key c n) (le-leb 1 (length (cell_key c n)) (omega arith)) (le-leb (length (cell_key c n)) 32 few) (key_bytes c n plain small)
