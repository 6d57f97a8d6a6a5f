-- A number in decimal is a value.
use Rattle.std.proofs.Common.{◌≡◌, ℕ, ◌<◌, ◌≤◌, ◌^◌, true, length, refl, arith}
use Rattle.std.specs.Prelude.{Ok, nat_le}
use Rattle.std.specs.Fmt.{decimal}
use Rattle.std.specs.Str.{is_utf8}
use Rattle.std.proofs.lemmas.Bool.Decides.{nat_tests}
use Rattle.std.proofs.lemmas.Fmt.{IsAscii-decimal, length-decimal-le}
use Rattle.std.proofs.lemmas.Str.{IsUtf8-from_ascii, is_utf8-from_IsUtf8}
use Rattle.anti_ids.specs.declared.limits.TheConstants.{LONGEST_VALUE}
use Rattle.anti_ids.specs.Values.{value_of}

pub decimal_is_value : (n : ℕ) → n < 2 ^ 64 → value_of (decimal n) ≡ Ok (decimal n)
decimal_is_value n fits =
    let short : length (decimal n) ≤ 20 = length-decimal-le 20 n (omega arith) (omega arith) fits in
    let is_short : nat_le (length (decimal n)) LONGEST_VALUE ≡ true = grind (arith, nat_tests) in
    let is_text : is_utf8 (decimal n) ≡ true = is_utf8-from_IsUtf8 (decimal n) (IsUtf8-from_ascii (decimal n) (IsAscii-decimal n fits)) in
    rw (is_short, is_text) refl
