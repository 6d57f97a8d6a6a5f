-- Of two faults the one that is told first: in what order faults are taken together, and how often, makes no difference.
use Rattle.std.proofs.Common.{◌≡◌, ℕ, zero, suc, ◌+◌, ◌*◌, ◌≤◌, min, Bool, true, false, cond, ◌&&◌, ◌||◌, ◌==◌, nat_lt, List, [], ◌∷◌, ◌++◌, Option, None, Some, refl, sym, ap, ap₂, ◌∙◌, ltb-true, ltb-false, arith}
use Rattle.std.proofs.lemmas.Bool.Decides.{nat_tests}
use Rattle.anti_place.specs.declared.fault.Fault.{Fault}
use Rattle.anti_place.specs.declared.reason.Reason.{Reason}
use Rattle.anti_place.specs.declared.reason.Reason.TheVariants.{Removed, Untracked, Untransferred, Unsettled}
use Rattle.anti_place.specs.Paths.{rank, is_before, earlier, first}

-- ---- a fault as one number

rank_few : (reason : Reason) → rank reason ≤ 3
rank_few Removed = omega arith
rank_few Untracked = omega arith
rank_few Untransferred = omega arith
rank_few Unsettled = omega arith

abbrev ranked : ℕ → Reason
ranked zero = Removed
ranked (suc zero) = Untracked
ranked (suc (suc zero)) = Untransferred
ranked (suc (suc (suc n))) = Unsettled

rank_again : (reason : Reason) → ranked (rank reason) ≡ reason
rank_again Removed = refl
rank_again Untracked = refl
rank_again Untransferred = refl
rank_again Unsettled = refl

pub place : Fault → ℕ
place fault = 4 * fault.line + rank fault.reason

abbrev fault : ℕ → Reason → Fault
fault line reason = record { line = line; reason = reason }

-- faults of one line and one rank are one
pub same_fault : (a b : Fault) → a.line ≡ b.line → rank a.reason ≡ rank b.reason → a ≡ b
same_fault a b line ranks = ap₂ fault line (sym (rank_again a.reason) ∙ ap ranked ranks ∙ rank_again b.reason)

lines_same : (l m r s : ℕ) → r ≤ 3 → s ≤ 3 → 4 * l + r ≡ 4 * m + s → l ≡ m
lines_same l m r s few_r few_s e = omega arith

same_place : (a b : Fault) → place a ≡ place b → a ≡ b
unfolding place
same_place a b e =
    let line : a.line ≡ b.line = lines_same a.line b.line (rank a.reason) (rank b.reason) (rank_few a.reason) (rank_few b.reason) e in
    let ranks : rank a.reason ≡ rank b.reason = omega arith in
    same_fault a b line ranks

numbers_before : (l m r s : ℕ) → r ≤ 3 → s ≤ 3 → (nat_lt l m || (l == m && nat_lt r s)) ≡ nat_lt (4 * l + r) (4 * m + s)
numbers_before l m r s few_r few_s = grind (arith, nat_tests)

pub before_place : (a b : Fault) → is_before a b ≡ nat_lt (place a) (place b)
unfolding place
before_place a b = numbers_before a.line b.line (rank a.reason) (rank b.reason) (rank_few a.reason) (rank_few b.reason)

-- ---- the one of two

pick : Fault → Fault → Fault
pick a b = cond (is_before b a) b a

place_pick : (a b : Fault) → place (pick a b) ≡ min (place a) (place b)
unfolding pick
place_pick a b = go (is_before b a) (before_place b a)
  where
    go : (test : Bool) → test ≡ nat_lt (place b) (place a) → place (cond test b a) ≡ min (place a) (place b)
    go true e = let less = ltb-true (place b) (place a) (sym e) in omega arith
    go false e = let more = ltb-false (place b) (place a) (sym e) in omega arith

picked : (a b : Fault) → earlier (Some a) (Some b) ≡ Some (pick a b)
unfolding pick
picked a b = go (is_before b a)
  where
    go : (test : Bool) → cond test (Some b) (Some a) ≡ Some (cond test b a)
    go true = refl
    go false = refl

abbrev some : Fault → Option Fault
some a = Some a

-- ---- taken together

pub earlier_none : (a : Option Fault) → earlier a None ≡ a
earlier_none None = refl
earlier_none (Some a) = refl

pub earlier_itself : (a : Option Fault) → earlier a a ≡ a
earlier_itself None = refl
earlier_itself (Some a) = go (is_before a a)
  where
    go : (test : Bool) → cond test (Some a) (Some a) ≡ Some a
    go true = refl
    go false = refl

pub earlier_comm : (a b : Option Fault) → earlier a b ≡ earlier b a
earlier_comm None None = refl
earlier_comm None (Some b) = refl
earlier_comm (Some a) None = refl
earlier_comm (Some a) (Some b) =
    let same : place (pick a b) ≡ place (pick b a) = omega (arith, place_pick a b, place_pick b a) in
    picked a b ∙ ap some (same_place (pick a b) (pick b a) same) ∙ sym (picked b a)

pub earlier_assoc : (a b c : Option Fault) → earlier (earlier a b) c ≡ earlier a (earlier b c)
earlier_assoc None b c = refl
earlier_assoc (Some a) None c = refl
earlier_assoc (Some a) (Some b) None = earlier_none (earlier (Some a) (Some b))
earlier_assoc (Some a) (Some b) (Some c) =
    let same : place (pick (pick a b) c) ≡ place (pick a (pick b c)) =
    omega (arith, place_pick a b, place_pick b c, place_pick (pick a b) c, place_pick a (pick b c)) in
    ap (λ (x : Option Fault). earlier x (Some c)) (picked a b) ∙ picked (pick a b) c
    ∙ ap some (same_place (pick (pick a b) c) (pick a (pick b c)) same)
    ∙ sym (ap (earlier (Some a)) (picked b c) ∙ picked a (pick b c))

pub earlier_swap : (a b c : Option Fault) → earlier a (earlier b c) ≡ earlier b (earlier a c)
earlier_swap a b c = sym (earlier_assoc a b c) ∙ ap (λ (x : Option Fault). earlier x c) (earlier_comm a b) ∙ earlier_assoc b a c

pub earlier_mixed : (a b c d : Option Fault) → earlier (earlier a b) (earlier c d) ≡ earlier (earlier a c) (earlier b d)
earlier_mixed a b c d = earlier_assoc a b (earlier c d) ∙ ap (earlier a) (earlier_swap b c d) ∙ sym (earlier_assoc a c (earlier b d))

-- neither is there where the earlier is not
pub none_of : (a b : Option Fault) → earlier a b ≡ None → (a ≡ None) × (b ≡ None)
none_of None b none = (refl, none)
none_of (Some a) None none = cc
none_of (Some a) (Some b) none = let some_is : Some (pick a b) ≡ None = sym (picked a b) ∙ none in cc

pub first_append : (these those : List Fault) → first (these ++ those) ≡ earlier (first these) (first those)
first_append [] those = refl
first_append (a ∷ these) those = ap (earlier (Some a)) (first_append these those) ∙ sym (earlier_assoc (Some a) (first these) (first those))
