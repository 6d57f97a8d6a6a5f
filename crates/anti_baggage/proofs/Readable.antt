-- What the readers of names and numbers find.
use Rattle.std.proofs.Common.{◌≡◌, ℕ, ◌+◌, ◌<◌, ◌≤◌, ◌++◌, List, [], ◌∷◌, Bool, true, false, not, cond, ◌&&◌, Option, None, Some, Err, nat_eq, nat_lt, nat_le, length, take, drop, set, refl, sym, ap, ◌∙◌, arith, ◌-◌}
use Rattle.std.specs.Prelude.{position}
use Rattle.std.specs.Bool.{then_some}
use Rattle.std.specs.List.{list_all, position_from, position_or_len, before_first, after_first}
use Rattle.std.specs.Result.{result_ok}
use Rattle.std.proofs.lemmas.Bool.Decides.{nat_tests}
use Rattle.std.proofs.lemmas.List.{append-nil, append_assoc, length-append, length-take, take_more_set, take_rest, take_all, drop_all}
use Rattle.std.proofs.lemmas.Iterator.Adapters.{position_from-zero}
use Rattle.anti_ids.specs.Names.{is_name_byte, is_name, name_of, judged}
use Rattle.anti_ids.specs.declared.name.NameFault.TheVariants.{Empty, TooLong}
use Rattle.anti_ids.proofs.NameLemmas.{none_bad}
use Rattle.anti_baggage.specs.Reading.{keyed_by, keyed_in, name_in, named_by, named_in, version_in}

good_first : (good all : Bool) (i : ℕ) (more : Option ℕ) → (all ≡ true → more ≡ None) → (good && all) ≡ true → cond (not good) (Some i) more ≡ None
good_first true all i more h e = h e
good_first false all i more h e = absurd (cc)

no_bad_from : (xs : List ℕ) (i : ℕ) → list_all is_name_byte xs ≡ true → position_from (λ b. not (is_name_byte b)) i xs ≡ None
no_bad_from [] i h = refl
no_bad_from (x ∷ xs) i h = good_first (is_name_byte x) _ i _ (no_bad_from xs (i + 1)) h

no_bad : (xs : List ℕ) → list_all is_name_byte xs ≡ true → position (λ b. not (is_name_byte b)) xs ≡ None
no_bad xs h = position_from-zero (λ b. not (is_name_byte b)) xs ∙ no_bad_from xs 0 h

by_tests : (some short all : Bool) (bytes : List ℕ) (bad : Option ℕ) → (all ≡ true → bad ≡ None) → (bad ≡ None → all ≡ true)
    → result_ok (cond some (cond short (judged bytes bad) (Err TooLong)) (Err Empty)) ≡ then_some (some && (short && all)) bytes
by_tests true true true bytes bad f g = rw (f refl) refl
by_tests true true false bytes None f g = absurd (let w : false ≡ true = g refl in cc)
by_tests true true false bytes (Some at) f g = refl
by_tests true false all bytes bad f g = refl
by_tests false short all bytes bad f g = refl

-- a name is made of bytes exactly where they are one
pub name_read : (bytes : List ℕ) → result_ok (name_of bytes) ≡ then_some (is_name bytes) bytes
name_read bytes = by_tests _ _ _ bytes _ (no_bad bytes) (none_bad bytes)

not_short : (some short all : Bool) (bytes : List ℕ) → short ≡ false → None ≡ then_some (some && (short && all)) bytes
not_short some true all bytes h = absurd (cc)
not_short true false all bytes h = refl
not_short false false all bytes h = refl

-- more than 32 bytes are no name
pub too_long : (bytes : List ℕ) → 32 < length bytes → None ≡ then_some (is_name bytes) bytes
too_long bytes long =
    let short : nat_le (length bytes) 32 ≡ false = grind (arith, nat_tests) in
    not_short (nat_lt 0 (length bytes)) (nat_le (length bytes) 32) (list_all is_name_byte bytes) bytes short

-- one byte more stands in its place
pub one_more : (bytes rest behind whole : List ℕ) (len byte : ℕ) → len < length bytes → rest ≡ byte ∷ behind → take len bytes ++ rest ≡ whole → take (len + 1) (set bytes len byte) ++ behind ≡ whole
one_more bytes rest behind whole len byte lt e h =
    ap (λ (x : List ℕ). x ++ behind) (take_more_set bytes len byte lt) ∙ append_assoc (take len bytes) (byte ∷ []) behind ∙ ap (λ (x : List ℕ). take len bytes ++ x) (sym e) ∙ h

-- 32 bytes and one more are too many for a name
pub full : (bytes rest behind whole : List ℕ) (len byte : ℕ) → len ≡ 32 → length bytes ≡ 32 → rest ≡ byte ∷ behind → take len bytes ++ rest ≡ whole → None ≡ then_some (is_name whole) whole
full bytes rest behind whole len byte l s e h =
    too_long whole (omega (arith, ap length h, length-append (take len bytes) rest, length-take len bytes, ap length e, l, s))

-- no byte is left
pub all_read : (bytes rest whole : List ℕ) (len : ℕ) → rest ≡ [] → take len bytes ++ rest ≡ whole → take len bytes ≡ whole
all_read bytes rest whole len e h = sym (append-nil (take len bytes)) ∙ ap (λ (x : List ℕ). take len bytes ++ x) (sym e) ∙ h

-- ---- where a text is cut

at_place : (within : Bool) (place at : ℕ) → Some at ≡ cond within (Some place) None → (within ≡ true) × (place ≡ at)
at_place true place at e = (refl, cc)
at_place false place at e = absurd (cc)

not_placed : (within : Bool) (place : ℕ) → None ≡ cond within (Some place) None → within ≡ false
not_placed true place e = absurd (cc)
not_placed false place e = refl

module _ (p : ℕ → Bool) (text : List ℕ) where
  pub cut_before : (at : ℕ) → Some at ≡ position p text → take at text ≡ before_first p text
  cut_before at e = ap (λ (x : ℕ). take x text) (sym (at_place (nat_lt (position_or_len p text) (length text)) (position_or_len p text) at e).1)

  pub cut_behind : (at : ℕ) → Some at ≡ position p text → take (length text - (at + 1)) (drop (at + 1) text) ≡ after_first p text
  cut_behind at e =
      take_rest text (at + 1) ∙ ap (λ (x : ℕ). drop (x + 1) text) (sym (at_place (nat_lt (position_or_len p text) (length text)) (position_or_len p text) at e).1)

  nowhere : None ≡ position p text → length text ≤ position_or_len p text
  nowhere e =
      let past : nat_lt (position_or_len p text) (length text) ≡ false = not_placed (nat_lt (position_or_len p text) (length text)) (position_or_len p text) e in
      grind (arith, nat_tests)

  pub whole_before : None ≡ position p text → text ≡ before_first p text
  whole_before e = sym (take_all (position_or_len p text) text (nowhere e))

  pub none_behind : None ≡ position p text → [] ≡ after_first p text
  none_behind e = sym (drop_all (position_or_len p text + 1) text (omega (arith, nowhere e)))

-- ---- ids

-- the parts of a text are what the definitions take
pub keyed_is : (text middle tail : List ℕ) → middle ≡ before_first (λ b. nat_eq b 64) text → tail ≡ after_first (λ b. nat_eq b 64) text
    → (key : Option (List ℕ)) (version : Option ℕ) → key ≡ name_in middle → version ≡ version_in tail → keyed_by key version ≡ keyed_in text
keyed_is text middle tail m t key version k v = rw (k, v, m, t) refl

pub named_is : (text head rest : List ℕ) → head ≡ before_first (λ b. nat_eq b 47) text → rest ≡ after_first (λ b. nat_eq b 47) text
    → (store : Option (List ℕ)) (keyed : Option (List ℕ × ℕ)) → store ≡ name_in head → keyed ≡ keyed_in rest → named_by store keyed ≡ named_in text
named_is text head rest h r store keyed s k = rw (s, k, h, r) refl
