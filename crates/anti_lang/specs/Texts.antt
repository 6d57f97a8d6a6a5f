-- Plain names, variables and literals.
use Rattle.std.specs.Prelude.{ℕ, codes, List, [], ◌∷◌, Bool, false, not, ◌&&◌, ◌==◌, nat_lt, nat_le, length, Option}
use Rattle.std.specs.Bool.{then_some}
use Rattle.std.specs.List.{list_all}
use Rattle.std.specs.Str.{bytes_eq, is_utf8}
use Rattle.anti_ids.specs.Ascii.{space, dollar, delete}
use Rattle.anti_ids.specs.Names.{is_plain}
use Rattle.anti_ids.specs.declared.limits.TheConstants.{LONGEST_VALUE}

-- The name that a text is, where it is plain: 1 to 24 ASCII letters, digits, `_` and `-`.
abbrev pub plain_name : List ℕ → Option (List ℕ)
plain_name text = then_some (is_plain text) text

-- a variable is a plain name other than `in`
abbrev pub is_variable : List ℕ → Bool
is_variable text = is_plain text && not (bytes_eq text (codes "in"))

-- The variable that a text is.
abbrev pub variable_of : List ℕ → Option (List ℕ)
variable_of text = then_some (is_variable text) text

-- a byte that is no control byte and no space
abbrev pub is_literal_byte : ℕ → Bool
is_literal_byte b = nat_lt space b && not (b == delete)

-- whether a text begins with `$`
abbrev pub has_dollar : List ℕ → Bool
has_dollar [] = false
has_dollar (first ∷ rest) = first == dollar

-- 1 to `LONGEST_VALUE` bytes of UTF-8, none a control byte or a space
abbrev pub is_literal : List ℕ → Bool
is_literal text = nat_lt 0 (length text) && (nat_le (length text) LONGEST_VALUE && (list_all is_literal_byte text && is_utf8 text))
