-- Bytes as they are printed.
use Rattle.std.specs.Prelude.{ℕ, List, [], ◌∷◌, Bool, ◌||◌, ◌==◌, if◌then◌else◌}
use Rattle.std.specs.Char.{is_ascii_alphanumeric}
use Rattle.std.specs.List.{flat_map}
use Rattle.percent_encoding.specs.Percent.{percent_encode_byte}
use Rattle.anti_ids.specs.Ascii.{hyphen, dot, underscore, tilde}

-- an ASCII letter, a digit, `-`, `.`, `_` or `~`
abbrev pub is_unreserved : ℕ → Bool
is_unreserved b =
    is_ascii_alphanumeric b || (b == hyphen || (b == dot || (b == underscore || b == tilde)))

-- a byte: itself where it is unreserved, else `%` and its two upper-case hexadecimal digits (RFC 3986, section 2)
abbrev pub escaped_byte : ℕ → List ℕ
escaped_byte b = if is_unreserved b then b ∷ [] else percent_encode_byte b

-- Bytes, each that is not unreserved escaped.
abbrev pub escaped : List ℕ → List ℕ
escaped bytes = flat_map escaped_byte bytes
