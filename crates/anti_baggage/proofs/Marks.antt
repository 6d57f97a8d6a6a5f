-- Where the marks of a text stand.
use Rattle.std.proofs.Common.{◌≡◌, ℕ, ◌+◌, ◌<◌, ◌++◌, List, [], ◌∷◌, true, false, nat_eq, length, take, drop, get_or, refl, sym, ap, ◌∙◌, inl, inr, ◌⊎◌, arith, ◌^◌}
use Rattle.std.specs.Fmt.{decimal}
use Rattle.std.specs.List.{All, position_or_len, before_first, after_first}
use Rattle.std.specs.Int.{IsInRange}
use Rattle.std.proofs.lemmas.Bool.{cond_both, eqb-true, ne_eqb, eq-eqb, cases_lt}
use Rattle.std.proofs.lemmas.Fmt.{decimal_is_IsNumeral}
use Rattle.std.proofs.lemmas.List.{append_assoc, length-append, take_at, drop_at, drop_all, get_or_at, get_or_append_left}
use Rattle.std.proofs.lemmas.List.Elements.{All-nil, All-cons, All-append, All-weaker, All-from_get_or, All-get_or}
use Rattle.std.proofs.lemmas.List.Sums.{position_or_len_is, split_at_first, passes_at_first}
use Rattle.std.proofs.lemmas.Str.Parse.{digit_at}
use Rattle.percent_encoding.specs.Percent.{percent_encode_byte}
use Rattle.percent_encoding.proofs.PercentLemmas.{IsEscapeByte, All-percent_encode_byte}
use Rattle.anti_baggage.specs.Escapes.{is_unreserved, escaped_byte, escaped}

-- none of the four marks: a comma, a slash, `@`, a bar
abbrev pub IsClear : ℕ → Type 0
IsClear b = (nat_eq b 44 ≡ false) × (nat_eq b 47 ≡ false) × (nat_eq b 64 ≡ false) × (nat_eq b 124 ≡ false)

clear_from : (b : ℕ) → (b ≡ 44 → ⊥) → (b ≡ 47 → ⊥) → (b ≡ 64 → ⊥) → (b ≡ 124 → ⊥) → IsClear b
clear_from b m n o p = (ne_eqb b 44 m, ne_eqb b 47 n, ne_eqb b 64 o, ne_eqb b 124 p)

clear_unreserved : (b : ℕ) → is_unreserved b ≡ true → IsClear b
clear_unreserved b h =
    clear_from b (λ e. let w : is_unreserved 44 ≡ true = ap is_unreserved (sym e) ∙ h in absurd (cc)) (λ e. let w : is_unreserved 47 ≡ true = ap is_unreserved (sym e) ∙ h in absurd (cc))
    (λ e. let w : is_unreserved 64 ≡ true = ap is_unreserved (sym e) ∙ h in absurd (cc)) (λ e. let w : is_unreserved 124 ≡ true = ap is_unreserved (sym e) ∙ h in absurd (cc))

clear_escape : (b : ℕ) → IsEscapeByte b → IsClear b
clear_escape b (inl e) = clear_from b (λ m. omega arith) (λ m. omega arith) (λ m. omega arith) (λ m. omega arith)
clear_escape b (inr (inl e)) = clear_from b (λ m. omega (arith, e.0, e.1)) (λ m. omega (arith, e.0, e.1)) (λ m. omega (arith, e.0, e.1)) (λ m. omega (arith, e.0, e.1))
clear_escape b (inr (inr e)) = clear_from b (λ m. omega (arith, e.0, e.1)) (λ m. omega (arith, e.0, e.1)) (λ m. omega (arith, e.0, e.1)) (λ m. omega (arith, e.0, e.1))

clear_byte : (b : ℕ) → All IsClear (escaped_byte b)
clear_byte b =
    cond_both (is_unreserved b) (b ∷ []) (percent_encode_byte b) (All IsClear)
    (λ kept. All-cons IsClear b [] (clear_unreserved b kept) (All-nil IsClear))
    (λ _. All-weaker IsEscapeByte IsClear clear_escape (percent_encode_byte b) (All-percent_encode_byte b))

-- no mark stands in an escaped form
pub clear_escaped : (bytes : List ℕ) → All IsClear (escaped bytes)
clear_escaped [] = All-nil IsClear
clear_escaped (b ∷ bs) = All-append IsClear (escaped_byte b) (escaped bs) (clear_byte b) (clear_escaped bs)

clear_digit : (b : ℕ) → IsInRange 48 57 b → IsClear b
clear_digit b h = clear_from b (λ m. omega (arith, h.0, h.1)) (λ m. omega (arith, h.0, h.1)) (λ m. omega (arith, h.0, h.1)) (λ m. omega (arith, h.0, h.1))

-- nor in a number
pub clear_decimal : (n : ℕ) → n < 2 ^ 64 → All IsClear (decimal n)
clear_decimal n small =
    let digits = (decimal_is_IsNumeral n small).0.1 in
    All-from_get_or IsClear (decimal n) 0 (λ i lt. clear_digit (get_or (decimal n) i 0) (digit_at (decimal n) i digits lt))

-- ---- cuts

module _ (mark : ℕ) where
  first_mark : (front rest : List ℕ) → All (λ b. nat_eq b mark ≡ false) front → position_or_len (λ b. nat_eq b mark) (front ++ mark ∷ rest) ≡ length front
  first_mark front rest clear =
      position_or_len_is (λ b. nat_eq b mark) (front ++ mark ∷ rest) (length front) 0 (omega (arith, length-append front (mark ∷ rest)))
      (λ k lt. ap (λ (b : ℕ). nat_eq b mark) (get_or_append_left front (mark ∷ rest) 0 k lt) ∙ All-get_or (λ b. nat_eq b mark ≡ false) front k 0 lt clear)
      (λ lt. ap (λ (b : ℕ). nat_eq b mark) (get_or_at front mark rest 0 (length front) refl) ∙ eq-eqb mark mark refl)

  pub before_mark : (front rest : List ℕ) → All (λ b. nat_eq b mark ≡ false) front → before_first (λ b. nat_eq b mark) (front ++ mark ∷ rest) ≡ front
  before_mark front rest clear = ap (λ (n : ℕ). take n (front ++ mark ∷ rest)) (first_mark front rest clear) ∙ take_at front (mark ∷ rest) (length front) refl

  pub behind_mark : (front rest : List ℕ) → All (λ b. nat_eq b mark ≡ false) front → after_first (λ b. nat_eq b mark) (front ++ mark ∷ rest) ≡ rest
  behind_mark front rest clear =
      ap (λ (n : ℕ). drop (n + 1) (front ++ mark ∷ rest)) (first_mark front rest clear)
      ∙ ap (λ (t : List ℕ). drop (length front + 1) t) (sym (append_assoc front (mark ∷ []) rest))
      ∙ drop_at (front ++ mark ∷ []) rest (length front + 1) (omega (arith, length-append front (mark ∷ [])))

  -- a text is cut at its mark, or has none
  pub cut_or_none : (text : List ℕ) → (text ≡ before_first (λ b. nat_eq b mark) text ++ mark ∷ after_first (λ b. nat_eq b mark) text) ⊎ (after_first (λ b. nat_eq b mark) text ≡ [])
  cut_or_none text =
      let place = position_or_len (λ b. nat_eq b mark) text in
      elim (cases_lt place (length text)) [
        | inl within ↦
            let is : get_or text place 0 ≡ mark = eqb-true (get_or text place 0) mark (passes_at_first (λ b. nat_eq b mark) text 0 within) in
            inl (split_at_first (λ b. nat_eq b mark) text 0 within ∙ ap (λ (b : ℕ). before_first (λ b. nat_eq b mark) text ++ b ∷ after_first (λ b. nat_eq b mark) text) is)
        | inr past ↦ inr (drop_all (place + 1) text (omega (arith, past)))
      ]
