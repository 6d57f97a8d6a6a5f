-- What a JSON string of text is that stands in it as it is.
use Rattle.std.proofs.Common.{◌≡◌, ◌≢◌, ℕ, zero, suc, ◌+◌, ◌<◌, ◌≤◌, ◌&&◌, not, true, nat_eq, nat_le, nat_lt, List, [], ◌∷◌, ◌++◌, length, take, drop, get_or, refl, sym, ap, ap₂, ◌∙◌, subst, append_assoc, length-append, drop_at, arith}
use Rattle.std.specs.Prelude.{slice_index}
use Rattle.std.proofs.lemmas.Bool.{and_parts, eqb-false, le-ltb, leb-true, ltb-true, ne_eqb, not-true}
use Rattle.std.proofs.lemmas.List.Concat.{flat_map-append}
use Rattle.std.proofs.lemmas.Str.{IsUtf8-from_ascii, utf8_lossy-IsUtf8}
use Rattle.std.proofs.Math.Seq.{take-suc}
use Rattle.json.specs.Print.{escape, escape_byte}
use Rattle.serde_json.specs.Written.{compact_text}
use Rattle.anti_text.specs.Json.{text}
use Rattle.anti_text.specs.inner.Quoting.{AreClear, IsClear}

pub clear_text : (bytes : List ℕ) → AreClear bytes → compact_text (text bytes) ≡ 34 ∷ (bytes ++ 34 ∷ [])
unfolding text
clear_text bytes clear =
    ap (λ (t : List ℕ). 34 ∷ (escape t ++ 34 ∷ [])) (utf8_lossy-IsUtf8 bytes (IsUtf8-from_ascii bytes clear.ascii))
    ∙ ap (λ (t : List ℕ). 34 ∷ (t ++ 34 ∷ [])) clear.same

pub none_clear : AreClear []
none_clear = record { same = refl; ascii = λ i. omega arith }

-- a byte more
ascii_more : (bytes : List ℕ) (byte : ℕ) → ((i : ℕ) → slice_index bytes i < 128) → byte < 128 → (i : ℕ) → slice_index (bytes ++ byte ∷ []) i < 128
ascii_more [] byte all one zero = one
ascii_more [] byte all one (suc i) = omega arith
ascii_more (b ∷ bytes) byte all one zero = all zero
ascii_more (b ∷ bytes) byte all one (suc i) = ascii_more bytes byte (λ j. all (suc j)) one i

pub clear_more : (bytes : List ℕ) (i : ℕ) → i < length bytes → IsClear (get_or bytes i 0) → AreClear (take i bytes) → AreClear (take (suc i) bytes)
clear_more bytes i within byte clear = subst AreClear (sym (take-suc bytes i 0 within)) record {
  same = flat_map-append escape_byte (take i bytes) (get_or bytes i 0 ∷ []) ∙ ap₂ (λ (front last : List ℕ). front ++ (last ++ [])) clear.same byte.0;
  ascii = ascii_more (take i bytes) (get_or bytes i 0) clear.ascii byte.1;
}

-- printable ASCII but the quote and the backslash
plain_byte : (byte : ℕ) → 32 ≤ byte → byte ≢ 34 → byte ≢ 92 → escape_byte byte ≡ byte ∷ []
unfolding escape_byte
plain_byte byte low quote slash =
    rw (
      ne_eqb byte 34 quote,
      ne_eqb byte 92 slash,
      ne_eqb byte 8 (λ e. omega arith),
      ne_eqb byte 12 (λ e. omega arith),
      ne_eqb byte 10 (λ e. omega arith),
      ne_eqb byte 13 (λ e. omega arith),
      ne_eqb byte 9 (λ e. omega arith),
      le-ltb byte 32 low,
    ) refl

pub clear_byte : (byte : ℕ) → ((nat_le 32 byte && nat_lt byte 127) && not (nat_eq byte 34)) && not (nat_eq byte 92) ≡ true → IsClear byte
clear_byte byte all =
    let last = and_parts ((nat_le 32 byte && nat_lt byte 127) && not (nat_eq byte 34)) (not (nat_eq byte 92)) all in
    let third = and_parts (nat_le 32 byte && nat_lt byte 127) (not (nat_eq byte 34)) last.0 in
    let both = and_parts (nat_le 32 byte) (nat_lt byte 127) third.0 in
    let high : byte < 127 = ltb-true byte 127 both.1 in (
      plain_byte byte (leb-true 32 byte both.0) (eqb-false byte 34 (not-true (nat_eq byte 34) third.1)) (eqb-false byte 92 (not-true (nat_eq byte 92) last.1)),
      omega arith,
    )

-- text between quotes
pub quoted_whole : (out before said : List ℕ) → AreClear said → out ++ (before ++ (34 ∷ (said ++ 34 ∷ []))) ≡ out ++ before ++ compact_text (text said)
quoted_whole out before said clear =
    sym (append_assoc out before (34 ∷ (said ++ 34 ∷ []))) ∙ ap (λ (t : List ℕ). (out ++ before) ++ t) (sym (clear_text said clear))

-- text behind an opening quote, which is closed
pub closing : (written front said : List ℕ) (begun : ℕ) → written ≡ (front ++ 34 ∷ []) ++ said → begun ≡ length front + 1 → AreClear (drop begun written)
    → written ++ 34 ∷ [] ≡ front ++ compact_text (text said)
closing written front said begun is begins clear =
    let opened = front ++ 34 ∷ [] in
    let left : drop begun written ≡ said =
    ap (λ (w : List ℕ). drop begun w) is ∙ drop_at opened said begun (length-append front (34 ∷ []) ∙ sym begins) in
    ap (λ (w : List ℕ). w ++ 34 ∷ []) is ∙ append_assoc opened said (34 ∷ []) ∙ append_assoc front (34 ∷ []) (said ++ 34 ∷ [])
    ∙ ap (λ (t : List ℕ). front ++ t) (sym (clear_text said (subst AreClear left clear)))

-- what was written behind an opening quote, once it is closed
pub closed : (old before said : List ℕ) {opened written final : List ℕ} {begun : ℕ} → opened ≡ (old ++ before) ++ 34 ∷ [] → begun ≡ length (old ++ before) + 1
    → written ≡ opened ++ said
    → ((front said : List ℕ) → written ≡ (front ++ 34 ∷ []) ++ said → begun ≡ length front + 1 → final ≡ front ++ compact_text (text said))
    → final ≡ old ++ before ++ compact_text (text said)
closed old before said is begins more close = close (old ++ before) said (more ∙ ap (λ (o : List ℕ). o ++ said) is) begins
