-- Bytes that are a value.
use Rattle.std.proofs.Common.{◌≡◌, ℕ, List, [], true, false, sym, arith}
use Rattle.std.specs.Str.{is_utf8, IsUtf8}
use Rattle.std.proofs.lemmas.Str.{is_utf8-from_IsUtf8, IsUtf8-from_is_utf8, IsUtf8-nil}
use Rattle.std.proofs.lemmas.Bool.{false_from_ne_true}
use Rattle.anti_ids.specs.Invariants.{IsValue}

pub text_is : (bytes : List ℕ) → IsUtf8 bytes → true ≡ is_utf8 bytes
text_is bytes h = sym (is_utf8-from_IsUtf8 bytes h)

pub text_is_not : (bytes : List ℕ) → (IsUtf8 bytes → ⊥) → false ≡ is_utf8 bytes
text_is_not bytes h = sym (false_from_ne_true (is_utf8 bytes) (λ t. h (IsUtf8-from_is_utf8 bytes t)))

pub no_bytes : (bytes : List ℕ) → bytes ≡ [] → IsValue bytes
no_bytes bytes e = rw e (record { short = omega arith; text = is_utf8-from_IsUtf8 [] IsUtf8-nil })
