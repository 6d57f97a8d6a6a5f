-- Names by their bytes: a plain name is a name, and bytes that no name has are none.
use Rattle.std.proofs.Common.{◌≡◌, ℕ, ◌+◌, List, [], ◌∷◌, Bool, true, false, not, cond, ◌&&◌, ◌||◌, Option, None, Some, Ok, Err, nat_eq, nat_lt, nat_le, length, refl, sym, ◌∙◌, arith}
use Rattle.std.specs.Prelude.{position}
use Rattle.std.specs.Bool.{then_some}
use Rattle.std.specs.List.{list_all, position_from}
use Rattle.std.proofs.lemmas.Bool.{and_parts}
use Rattle.std.proofs.lemmas.Bool.Decides.{nat_tests}
use Rattle.std.proofs.lemmas.Iterator.Adapters.{position_from-zero}
use Rattle.anti_ids.specs.Names.{is_plain_byte, is_name_byte, is_name, is_plain, name_of}
use Rattle.anti_ids.specs.declared.name.NameFault.{NameFault}
use Rattle.anti_lang.specs.Texts.{plain_name}

good_first : (good all : Bool) (i : ℕ) (more : Option ℕ) → (all ≡ true → more ≡ None) → (good && all) ≡ true → cond (not good) (Some i) more ≡ None
good_first true all i more h e = h e
good_first false all i more h e = absurd (cc)

no_bad_from : (xs : List ℕ) (i : ℕ) → list_all is_name_byte xs ≡ true → position_from (λ b. not (is_name_byte b)) i xs ≡ None
no_bad_from [] i h = refl
no_bad_from (x ∷ xs) i h = good_first (is_name_byte x) _ i _ (no_bad_from xs (i + 1)) h

no_bad : (xs : List ℕ) → list_all is_name_byte xs ≡ true → position (λ b. not (is_name_byte b)) xs ≡ None
no_bad xs h = position_from-zero (λ b. not (is_name_byte b)) xs ∙ no_bad_from xs 0 h

more_first : (plain hash all named : Bool) → (all ≡ true → named ≡ true) → (plain && all) ≡ true → ((plain || hash) && named) ≡ true
more_first true hash all named h e = h e
more_first false hash all named h e = absurd (cc)

plain_bytes : (xs : List ℕ) → list_all is_plain_byte xs ≡ true → list_all is_name_byte xs ≡ true
plain_bytes [] h = refl
plain_bytes (x ∷ xs) h = more_first (is_plain_byte x) (nat_eq x 35) _ _ (plain_bytes xs) h

plain_is_name : (text : List ℕ) → is_plain text ≡ true → name_of text ≡ Ok text
plain_is_name text h =
    let some = and_parts (nat_lt 0 (length text)) _ h in
    let short = and_parts (nat_le (length text) 24) _ some.1 in
    let s : nat_lt 0 (length text) ≡ true = some.0 in
    let l : nat_le (length text) 24 ≡ true = short.0 in
    let m : nat_le (length text) 32 ≡ true = grind (arith, nat_tests) in
    let n : position (λ b. not (is_name_byte b)) text ≡ None = no_bad text (plain_bytes text short.1) in
    rw (s, m, n) refl

not_some : (b : Bool) (text : List ℕ) → (b ≡ true → ⊥) → None ≡ then_some b text
not_some true text h = absurd (h refl)
not_some false text h = refl

name_is : (text : List ℕ) → is_name text ≡ true → name_of text ≡ Ok text
name_is text h =
    let some = and_parts (nat_lt 0 (length text)) _ h in
    let short = and_parts (nat_le (length text) 32) _ some.1 in
    let s : nat_lt 0 (length text) ≡ true = some.0 in
    let l : nat_le (length text) 32 ≡ true = short.0 in
    let n : position (λ b. not (is_name_byte b)) text ≡ None = no_bad text short.1 in
    rw (s, l, n) refl

no_name : (b : Bool) (text : List ℕ) (fault : NameFault) → (b ≡ true → name_of text ≡ Ok text) → Err fault ≡ name_of text → None ≡ then_some b text
no_name b text fault good e = not_some b text (λ h. absurd (let w : Ok text ≡ Err fault = sym (good h) ∙ sym e in cc))

-- bytes that are no name
pub not_a_name : (text : List ℕ) (fault : NameFault) → Err fault ≡ name_of text → None ≡ then_some (is_name text) text
not_a_name text fault e = no_name _ text fault (name_is text) e

-- they are no plain name either
pub not_plain : (text : List ℕ) (fault : NameFault) → Err fault ≡ name_of text → None ≡ plain_name text
not_plain text fault e = no_name _ text fault (plain_is_name text) e
