-- What is written is read again.
use Rattle.std.proofs.Common.{◌≡◌, ℕ, ◌<◌, ◌≤◌, ◌^◌, ◌++◌, List, [], ◌∷◌, Bool, true, false, cond, ◌&&◌, Some, nat_eq, nat_lt, nat_le, length, refl, sym, ap, ◌∙◌, arith}
use Rattle.std.specs.Prelude.{codes}
use Rattle.std.specs.Fmt.{decimal}
use Rattle.std.specs.List.{list_all}
use Rattle.std.proofs.lemmas.Bool.{and_parts}
use Rattle.std.proofs.lemmas.Bool.Decides.{nat_tests}
use Rattle.std.proofs.lemmas.List.{append_assoc}
use Rattle.std.proofs.lemmas.List.Elements.{All-weaker}
use Rattle.percent_encoding.specs.Percent.{percent_decode, percent_encode_byte}
use Rattle.percent_encoding.proofs.PercentLemmas.{percent_decode-nil, percent_decode_not_percent, percent_decode-percent_encode_byte}
use Rattle.anti_ids.specs.Names.{is_name, is_name_byte}
use Rattle.anti_ids.specs.declared.limits.TheConstants.{GREATEST_VERSION}
use Rattle.anti_ids.proofs.Decimals.{decimal_again}
use Rattle.anti_baggage.specs.Escapes.{is_unreserved, escaped}
use Rattle.anti_baggage.specs.Texts.{keyed_text, named_text}
use Rattle.anti_baggage.specs.Reading.{keyed_in, name_in, named_in, version_in}
use Rattle.anti_baggage.proofs.Bytes.{same_itself}
use Rattle.anti_baggage.proofs.Marks.{IsClear, clear_escaped, before_mark, behind_mark}

not_percent : (b : ℕ) → is_unreserved b ≡ true → b ≡ 37 → ⊥
not_percent b h e = let w : is_unreserved 37 ≡ true = ap is_unreserved (sym e) ∙ h in absurd (cc)

decode_byte : (kept : Bool) (b : ℕ) (rest : List ℕ) → b < 256 → is_unreserved b ≡ kept → percent_decode (cond kept (b ∷ []) (percent_encode_byte b) ++ rest) ≡ b ∷ percent_decode rest
decode_byte true b rest small h = percent_decode_not_percent b rest (not_percent b h)
decode_byte false b rest small h = percent_decode-percent_encode_byte b rest small

name_byte_small : (b : ℕ) → is_name_byte b ≡ true → b < 256
name_byte_small b h = grind (arith, nat_tests)

-- the escapes of a name are replaced by its bytes
decode_escaped : (name : List ℕ) → list_all is_name_byte name ≡ true → percent_decode (escaped name) ≡ name
decode_escaped [] h = percent_decode-nil
decode_escaped (b ∷ bs) h =
    let parts = and_parts (is_name_byte b) (list_all is_name_byte bs) h in
    decode_byte (is_unreserved b) b (escaped bs) (name_byte_small b parts.0) refl ∙ ap (λ (t : List ℕ). b ∷ t) (decode_escaped bs parts.1)

name_bytes : (name : List ℕ) → is_name name ≡ true → list_all is_name_byte name ≡ true
name_bytes name h = (and_parts (nat_le (length name) 32) (list_all is_name_byte name) (and_parts (nat_lt 0 (length name)) (nat_le (length name) 32 && list_all is_name_byte name) h).1).1

pub name_again : (name : List ℕ) → is_name name ≡ true → name_in (escaped name) ≡ Some name
name_again name h = rw (decode_escaped name (name_bytes name h), h, same_itself (escaped name)) refl

pub version_again : (version : ℕ) → 1 ≤ version → version < 2 ^ 64 → version_in (decimal version) ≡ Some version
version_again version some small = decimal_again 1 GREATEST_VERSION version some (omega (arith, small)) small

-- a key and a version, and an id with the name of its store, as they are read
pub key_first : (key : List ℕ) (version : ℕ) → keyed_text key version ≡ escaped key ++ 64 ∷ decimal version
key_first key version = append_assoc (escaped key) (codes "@") (decimal version)

pub store_first : (store key : List ℕ) (version : ℕ) → named_text store key version ≡ escaped store ++ 47 ∷ keyed_text key version
store_first store key version = append_assoc (escaped store) (codes "/") (keyed_text key version)

-- they are read again
pub keyed_again : (key : List ℕ) (version : ℕ) → is_name key ≡ true → 1 ≤ version → version < 2 ^ 64 → keyed_in (keyed_text key version) ≡ Some (key, version)
keyed_again key version k some small =
    let clear_key = All-weaker IsClear (λ b. nat_eq b 64 ≡ false) (λ b c. c.2) (escaped key) (clear_escaped key) in
    ap keyed_in (key_first key version) ∙ rw (before_mark 64 (escaped key) (decimal version) clear_key, behind_mark 64 (escaped key) (decimal version) clear_key, name_again key k, version_again version some small) refl

pub named_again : (store key : List ℕ) (version : ℕ) → is_name store ≡ true → is_name key ≡ true → 1 ≤ version → version < 2 ^ 64
    → named_in (named_text store key version) ≡ Some (record { store = store; key = key; version = version })
named_again store key version s k some small =
    let clear_store = All-weaker IsClear (λ b. nat_eq b 47 ≡ false) (λ b c. c.1) (escaped store) (clear_escaped store) in
    let rest = keyed_text key version in
    ap named_in (store_first store key version) ∙ rw (before_mark 47 (escaped store) rest clear_store, behind_mark 47 (escaped store) rest clear_store, name_again store s, keyed_again key version k some small) refl
