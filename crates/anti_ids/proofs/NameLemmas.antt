-- Bytes that are a name, and how they stand.
use Rattle.std.proofs.Common.{◌≡◌, ℕ, zero, suc, ◌+◌, ◌-◌, ◌<◌, ◌≤◌, ◌++◌, List, [], ◌∷◌, Bool, true, false, not, cond, ◌&&◌, Option, None, Some, nat_eq, nat_lt, nat_le, length, take, drop, get_or, refl, sym, ap, ◌∙◌, subst, arith}
use Rattle.std.specs.Prelude.{replicate, position}
use Rattle.std.specs.List.{list_all, position_from}
use Rattle.std.proofs.lemmas.List.{drop-replicate, get_or-drop, length-replicate, length-append}
use Rattle.std.proofs.lemmas.Iterator.Adapters.{position_from-zero}
use Rattle.std.proofs.Math.Seq.{take-append_seam}
use Rattle.std.proofs.lemmas.Bool.Decides.{nat_tests}
use Rattle.anti_ids.specs.Names.{is_name_byte, is_name}
use Rattle.anti_ids.specs.NameBytes.{padded, HoldsName}

good_first : (b : Bool) (i : ℕ) (more : Option ℕ) (all : Bool) → (more ≡ None → all ≡ true) → cond (not b) (Some i) more ≡ None → (b && all) ≡ true
good_first true i more all h e = h e
good_first false i more all h e = absurd (cc)

none_bad_from : (xs : List ℕ) (i : ℕ) → position_from (λ b. not (is_name_byte b)) i xs ≡ None → list_all is_name_byte xs ≡ true
none_bad_from [] i h = refl
none_bad_from (x ∷ xs) i h = good_first (is_name_byte x) i _ _ (none_bad_from xs (i + 1)) h

-- where no bad byte is found, each byte may stand in a name
pub none_bad : (xs : List ℕ) → position (λ b. not (is_name_byte b)) xs ≡ None → list_all is_name_byte xs ≡ true
none_bad xs h = none_bad_from xs 0 (sym (position_from-zero (λ b. not (is_name_byte b)) xs) ∙ h)

-- a copy into the front of 32 zeros
pub padded_from : (n : ℕ) (front text : List ℕ) → front ≡ text → n ≡ length text → front ++ drop n (replicate 32 (let z : ℕ = 0 in z)) ≡ padded text
padded_from n front text e l = rw (e, l, drop-replicate (length text) 32 (let z : ℕ = 0 in z)) refl

sized : (name : List ℕ) → length name ≤ 32 → length (name ++ replicate (32 - length name) (let z : ℕ = 0 in z)) ≡ 32
sized name short =
    rw (length-append name (replicate (32 - length name) (let z : ℕ = 0 in z)), length-replicate (32 - length name) (let z : ℕ = 0 in z)) (omega arith)

front_of : (name : List ℕ) → take (length name) (padded name) ≡ name
front_of name = take-append_seam name (replicate (32 - length name) (let z : ℕ = 0 in z))

pub holds : (text name : List ℕ) → text ≡ padded name → is_name name ≡ true → length name ≤ 32 → HoldsName text (length name)
holds text name e named short =
    let front : take (length name) text ≡ name = rw e (front_of name) in
    record {
      size = rw e (sized name short);
      within = short;
      named = rw front named;
      front = ap length front;
      rest = rw front e;
    }

-- the front of how a name stands is its bytes
pub front_is : (text name : List ℕ) → text ≡ padded name → take (length name) text ≡ name
front_is text name e = rw e (front_of name)

both_and : (a b c : Bool) → a ≡ true → b ≡ true → c ≡ true → (a && (b && c)) ≡ true
both_and a b c p q r = rw (p, q, r) refl

pub named : (bytes : List ℕ) → false ≡ nat_eq (length bytes) 0 → length bytes ≤ 32 → list_all is_name_byte bytes ≡ true → is_name bytes ≡ true
named bytes some short all =
    both_and (nat_lt 0 (length bytes)) (nat_le (length bytes) 32) (list_all is_name_byte bytes) (grind (arith, nat_tests)) (grind (arith, nat_tests)) all

fit_in_front : (n : ℕ) (xs : List ℕ) → ((i : ℕ) → get_or xs i 0 < 256) → (i : ℕ) → get_or (take n xs) i 0 < 256
fit_in_front zero xs fit i = omega arith
fit_in_front (suc n) [] fit i = omega arith
fit_in_front (suc n) (x ∷ xs) fit zero = fit zero
fit_in_front (suc n) (x ∷ xs) fit (suc i) = fit_in_front n xs (λ k. fit (suc k)) i

pub eight_fit : (xs : List ℕ) (at : ℕ) → ((i : ℕ) → get_or xs i 0 < 256) → (i : ℕ) → get_or (take 8 (drop at xs)) i 0 < 256
eight_fit xs at fit = fit_in_front 8 (drop at xs) (λ i. subst (λ (b : ℕ). b < 256) (sym (get_or-drop at xs i 0)) (fit (at + i)))
