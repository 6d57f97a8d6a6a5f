-- Texts that are numbers in decimal.
use Rattle.std.specs.Prelude.{ℕ, List, [], ◌∷◌, Bool, false, not, ◌&&◌, ◌==◌}
use Rattle.std.specs.Char.{is_ascii_digit}
use Rattle.std.specs.List.{list_all}

-- `0`
abbrev pub zero_digit : ℕ
zero_digit = 48

-- digits, the first of which is no zero unless it stands alone
abbrev pub is_numeral : List ℕ → Bool
is_numeral [] = false
is_numeral (b ∷ []) = is_ascii_digit b
is_numeral (b ∷ c ∷ bs) = not (b == zero_digit) && list_all is_ascii_digit (b ∷ c ∷ bs)
