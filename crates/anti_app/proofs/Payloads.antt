-- A short text is a value.
use Rattle.std.proofs.Common.{◌≡◌, ℕ, ◌≤◌, List, Bool, length, Result, Ok, Err, if◌then◌else◌, sym, ap, ◌∙◌}
use Rattle.std.specs.Str.{IsUtf8, is_utf8}
use Rattle.std.proofs.lemmas.Bool.{le-leb}
use Rattle.std.proofs.lemmas.Str.{is_utf8-from_IsUtf8}
use Rattle.anti_ids.specs.Values.{value_of}
use Rattle.anti_ids.specs.declared.limits.TheConstants.{LONGEST_VALUE}
use Rattle.anti_ids.specs.declared.value.ValueFault.{ValueFault}
use Rattle.anti_ids.specs.declared.value.ValueFault.TheVariants.{TooLong, BadUtf8, NoMemory}

is_value : (text : List ℕ) → IsUtf8 text → length text ≤ LONGEST_VALUE → value_of text ≡ Ok text
is_value text good short =
    ap (λ (b : Bool). if b then (if is_utf8 text then Ok text else Err BadUtf8) else Err TooLong) (le-leb (length text) LONGEST_VALUE short)
    ∙ ap (λ (b : Bool). if b then Ok text else Err BadUtf8) (is_utf8-from_IsUtf8 text good)

-- The value of a short text fails for want of memory alone.
pub only_memory : (text : List ℕ) (fault : ValueFault) → IsUtf8 text → length text ≤ LONGEST_VALUE → (¬ (fault ≡ NoMemory) → value_of text ≡ Err fault)
    → ¬ (fault ≡ NoMemory) → ⊥
only_memory text fault good short stated other =
    let both : Ok text ≡ (let failed : Result (List ℕ) ValueFault = Err fault in failed) = sym (is_value text good short) ∙ stated other in
    absurd (cc)
