-- Numbers in decimal.
use Rattle.std.specs.Prelude.{ℕ, List, Option, ◌&&◌, nat_le}
use Rattle.std.specs.Bool.{then_some}
use Rattle.std.specs.Fmt.{decimal}
use Rattle.std.specs.Str.{bytes_eq}
use Rattle.std.specs.Str.Parse.{digits_value}

-- The number that a text is in decimal, where it is in this range: no sign stands before it, and no zero that it does not need.
abbrev pub decimal_in : ℕ → ℕ → List ℕ → Option ℕ
decimal_in least most text =
    let number = digits_value 10 text in
    then_some (nat_le least number && (nat_le number most && bytes_eq (decimal number) text)) number
