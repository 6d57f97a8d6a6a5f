-- The key of a word is a value.
use Rattle.std.proofs.Common.{◌≡◌, ℕ, ◌%◌, ◌<◌, ◌≤◌, true, length, refl, arith}
use Rattle.std.specs.Prelude.{Ok, nat_le}
use Rattle.std.specs.Fmt.{decimal}
use Rattle.std.specs.Str.{is_utf8}
use Rattle.std.proofs.lemmas.Bool.{le-leb}
use Rattle.std.proofs.lemmas.Fmt.{IsAscii-decimal, length-decimal-le}
use Rattle.std.proofs.lemmas.Nat.{mod_below}
use Rattle.std.proofs.lemmas.Str.{IsUtf8-from_ascii, is_utf8-from_IsUtf8}
use Rattle.std.proofs.lemmas.Str.Ascii.{IsAscii-cons}
use Rattle.anti_ids.specs.Values.{value_of}
use Rattle.anti_ids.specs.declared.limits.TheConstants.{LONGEST_VALUE}
use Rattle.anti_load.specs.Load.{key_of}

module _ (word : ℕ) where
  abbrev number : ℕ
  number = word % 50

  below : number < 50
  below = mod_below word 50 (omega arith)

  -- the letter, and at most two digits
  pub key_is_short : nat_le (length (key_of word)) LONGEST_VALUE ≡ true
  key_is_short =
      let digits : length (decimal number) ≤ 2 = length-decimal-le 2 number (omega arith) (omega (arith, below)) (omega (arith, below)) in
      le-leb (length (key_of word)) LONGEST_VALUE (omega (arith, digits))

  key_is_text : is_utf8 (key_of word) ≡ true
  key_is_text =
      let digits = IsAscii-decimal number (omega (arith, below)) in
      is_utf8-from_IsUtf8 (key_of word) (IsUtf8-from_ascii (key_of word) (IsAscii-cons 107 (decimal number) (omega arith) digits))

  pub key_is_value : value_of (key_of word) ≡ Ok (key_of word)
  key_is_value = rw (key_is_short, key_is_text) refl
