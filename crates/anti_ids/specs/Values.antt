-- Values: 0 to 256 bytes of UTF-8.
use Rattle.std.specs.Prelude.{ℕ, List, nat_le, length, Result, Ok, Err, if◌then◌else◌}
use Rattle.std.specs.Str.{is_utf8}
use Rattle.anti_ids.specs.declared.limits.TheConstants.{LONGEST_VALUE}
use Rattle.anti_ids.specs.declared.value.ValueFault.{ValueFault}
use Rattle.anti_ids.specs.declared.value.ValueFault.TheVariants.{TooLong, BadUtf8}

-- The value that bytes state, or the first of these faults: more than 256 bytes, no UTF-8.
abbrev pub value_of : List ℕ → Result (List ℕ) ValueFault
value_of bytes =
    if nat_le (length bytes) LONGEST_VALUE then (if is_utf8 bytes then Ok bytes else Err BadUtf8) else Err TooLong
