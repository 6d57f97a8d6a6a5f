-- Words that stand with one space between are found again.
use Rattle.std.proofs.Common.{◌≡◌, ℕ, List, [], ◌∷◌, Bool, true, false, not, ◌&&◌, nat_eq, nat_lt, nat_le, length, refl, ap, subst, arith}
use Rattle.std.specs.List.{list_all, All}
use Rattle.std.specs.Str.{is_utf8}
use Rattle.std.proofs.lemmas.Bool.{and_parts, eqb-true, not-true}
use Rattle.std.proofs.lemmas.Bool.Decides.{nat_tests}
use Rattle.std.proofs.lemmas.List.Elements.{All-nil, All-cons}
use Rattle.std.proofs.lemmas.List.Splits.{slice_split_none, slice_split_at}
use Rattle.anti_ids.specs.Names.{is_name_byte, is_plain_byte, is_name, is_plain}
use Rattle.anti_ids.specs.declared.limits.TheConstants.{LONGEST_VALUE}
use Rattle.anti_lang.specs.Texts.{is_literal, is_literal_byte}
use Rattle.anti_lang.specs.Printing.{spaced}
use Rattle.anti_lang.specs.Words.{words}

-- a text with a byte and without a space
abbrev pub is_word : List ℕ → Bool
is_word text = nat_lt 0 (length text) && list_all (λ b. not (nat_eq b 32)) text

has_byte : (w : List ℕ) → nat_lt 0 (length w) ≡ true → not (nat_eq (length w) 0) ≡ true
has_byte w h = grind (arith, nat_tests)

spaceless : (w : List ℕ) → list_all (λ b. not (nat_eq b 32)) w ≡ true → All (λ b. nat_eq b 32 ≡ false) w
spaceless [] h = All-nil (λ b. nat_eq b 32 ≡ false)
spaceless (b ∷ bs) h =
    let parts = and_parts (not (nat_eq b 32)) (list_all (λ b. not (nat_eq b 32)) bs) h in
    All-cons (λ b. nat_eq b 32 ≡ false) b bs (not-true _ parts.0) (spaceless bs parts.1)

word_parts : (w : List ℕ) → is_word w ≡ true → (not (nat_eq (length w) 0) ≡ true) × All (λ b. nat_eq b 32 ≡ false) w
word_parts w h =
    let parts = and_parts (nat_lt 0 (length w)) (list_all (λ b. not (nat_eq b 32)) w) h in
    (has_byte w parts.0, spaceless w parts.1)

-- words with one space between are cut there
pub cut_again : (ws : List (List ℕ)) → list_all is_word ws ≡ true → words (spaced ws) ≡ ws
cut_again [] h = refl
cut_again (w ∷ []) h =
    let good = word_parts w (and_parts (is_word w) true h).0 in
    rw (slice_split_none (λ b. nat_eq b 32) w good.1, good.0) refl
cut_again (w ∷ next ∷ rest) h =
    let parts = and_parts (is_word w) (list_all is_word (next ∷ rest)) h in
    let good = word_parts w parts.0 in
    rw (slice_split_at (λ b. nat_eq b 32) w 32 (spaced (next ∷ rest)) good.1 refl, good.0) (ap (λ ws. w ∷ ws) (cut_again (next ∷ rest) parts.1))

-- what holds of each byte follows from another
all_through : (p q : ℕ → Bool) → ((b : ℕ) → p b ≡ true → q b ≡ true) → (xs : List ℕ) → list_all p xs ≡ true → list_all q xs ≡ true
all_through p q each [] h = refl
all_through p q each (x ∷ xs) h =
    let parts = and_parts (p x) (list_all p xs) h in
    rw (each x parts.0) (all_through p q each xs parts.1)

-- a byte that has a property which a space has not
space_case : (p : ℕ → Bool) → p 32 ≡ false → (test : Bool) (b : ℕ) → p b ≡ true → (test ≡ true → b ≡ 32) → not test ≡ true
space_case p none true b h e = absurd (let w : p 32 ≡ true = subst (λ (x : ℕ). p x ≡ true) (e refl) h in cc)
space_case p none false b h e = refl

no_space : (p : ℕ → Bool) → p 32 ≡ false → (b : ℕ) → p b ≡ true → not (nat_eq b 32) ≡ true
no_space p none b h = space_case p none (nat_eq b 32) b h (eqb-true b 32)

-- a text with a byte, whose bytes have such a property
pub word_by : (p : ℕ → Bool) → p 32 ≡ false → (text : List ℕ) → nat_lt 0 (length text) ≡ true → list_all p text ≡ true → is_word text ≡ true
word_by p none text some all =
    let clear : list_all (λ b. not (nat_eq b 32)) text ≡ true = all_through p (λ b. not (nat_eq b 32)) (no_space p none) text all in
    rw (some, clear) refl

pub plain_word : (text : List ℕ) → is_plain text ≡ true → is_word text ≡ true
plain_word text h =
    let some = and_parts (nat_lt 0 (length text)) (nat_le (length text) 24 && list_all is_plain_byte text) h in
    let short = and_parts (nat_le (length text) 24) (list_all is_plain_byte text) some.1 in
    word_by is_plain_byte refl text some.0 short.1

pub name_word : (text : List ℕ) → is_name text ≡ true → is_word text ≡ true
name_word text h =
    let some = and_parts (nat_lt 0 (length text)) (nat_le (length text) 32 && list_all is_name_byte text) h in
    let short = and_parts (nat_le (length text) 32) (list_all is_name_byte text) some.1 in
    word_by is_name_byte refl text some.0 short.1

pub literal_word : (text : List ℕ) → is_literal text ≡ true → is_word text ≡ true
literal_word text h =
    let some = and_parts (nat_lt 0 (length text)) (nat_le (length text) LONGEST_VALUE && (list_all is_literal_byte text && is_utf8 text)) h in
    let short = and_parts (nat_le (length text) LONGEST_VALUE) (list_all is_literal_byte text && is_utf8 text) some.1 in
    word_by is_literal_byte refl text some.0 (and_parts (list_all is_literal_byte text) (is_utf8 text) short.1).0
