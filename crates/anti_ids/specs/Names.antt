-- Names: 1 to 32 bytes, each an ASCII letter, a digit, `_`, `-` or `#`.
use Rattle.std.specs.Prelude.{ℕ, List, Bool, not, ◌&&◌, ◌||◌, ◌==◌, nat_le, nat_lt, length, Option, None, Some, Result, Ok, Err, if◌then◌else◌, position}
use Rattle.std.specs.List.{list_all}
use Rattle.std.specs.Char.{is_ascii_alphanumeric}
use Rattle.anti_ids.specs.Ascii.{hash, hyphen, underscore}
use Rattle.anti_ids.specs.declared.limits.TheConstants.{LONGEST_NAME, LONGEST_PLAIN_NAME}
use Rattle.anti_ids.specs.declared.name.NameFault.{NameFault}
use Rattle.anti_ids.specs.declared.name.NameFault.TheVariants.{Empty, TooLong, BadByte}

-- an ASCII letter, a digit, `_` or `-`
abbrev pub is_plain_byte : ℕ → Bool
is_plain_byte b = is_ascii_alphanumeric b || (b == underscore || b == hyphen)

-- a plain byte or `#`
abbrev pub is_name_byte : ℕ → Bool
is_name_byte b = is_plain_byte b || b == hash

abbrev pub is_name : List ℕ → Bool
is_name bytes = nat_lt 0 (length bytes) && (nat_le (length bytes) LONGEST_NAME && list_all is_name_byte bytes)

-- a name of at most 24 bytes without `#`
abbrev pub is_plain : List ℕ → Bool
is_plain bytes = nat_lt 0 (length bytes) && (nat_le (length bytes) LONGEST_PLAIN_NAME && list_all is_plain_byte bytes)

-- the name where no bad byte was found, else the fault at its place
abbrev pub judged : List ℕ → Option ℕ → Result (List ℕ) NameFault
judged bytes None = Ok bytes
judged bytes (Some at) = Err (BadByte at)

-- The name that bytes state, or the first of these faults: no byte, more than 32, the first byte that no name has.
abbrev pub name_of : List ℕ → Result (List ℕ) NameFault
name_of bytes =
    if nat_lt 0 (length bytes)
    then (if nat_le (length bytes) LONGEST_NAME then judged bytes (position (λ b. not (is_name_byte b)) bytes) else Err TooLong)
    else Err Empty
