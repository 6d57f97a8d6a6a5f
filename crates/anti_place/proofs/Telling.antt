-- Faults told each once, in order: the one that is told next is the first of those behind the last.
use Rattle.std.proofs.Common.{◌≡◌, ℕ, zero, suc, ◌+◌, ◌≤◌, ◌<◌, ◌==◌, nat_lt, Bool, true, false, cond, inl, inr, ◌&&◌, ◌||◌, All, List, [], ◌∷◌, map, length, filter, flat_map, Option, None, Some, refl, sym, ap, ◌∙◌, subst, ltb-true, eqb-true, arith}
use Rattle.std.proofs.lemmas.Bool.{and_parts, or_left, or_right}
use Rattle.std.proofs.lemmas.Bool.Decides.{nat_tests}
use Rattle.std.proofs.lemmas.List.Elements.{All-nil, All-cons, All-head, All-tail, All-filter, All-weaker, All-append, All-contains, filter_passes}
use Rattle.std.specs.List.{list_any}
use Rattle.anti_lang.specs.Blocks.{lines_of}
use Rattle.anti_lang.specs.Program.{Block}
use Rattle.anti_place.specs.declared.fault.Fault.{Fault}
use Rattle.anti_place.specs.declared.reason.Reason.{Reason}
use Rattle.anti_place.specs.declared.reason.Reason.TheVariants.{Removed, Untracked, Untransferred, Unsettled}
use Rattle.anti_place.specs.Paths.{State, Path, is_some_left, changed, reasons, paths, ends_path, faults_on, all_faults, rank, is_before, earlier, first}
use Rattle.anti_place.specs.Reviews.{is_same, each_from, faults_of}
use Rattle.anti_place.specs.inner.Joined.{is_later}
use Rattle.anti_place.proofs.Doubting.{first_state}
use Rattle.anti_place.proofs.Earlier.{place, before_place, same_fault, earlier_itself, earlier_comm, earlier_assoc, earlier_swap, none_of}
use Rattle.anti_place.proofs.Members.{In, contained}
use Rattle.anti_place.proofs.Ways.{OnWay, OnWays, IsBetween, body_between}

-- ---- the same faults

-- whether a fault is among some
abbrev pub has : Fault → List Fault → Bool
has fault faults = list_any (is_same fault) faults

same_is : (a b : Fault) → is_same a b ≡ true → a ≡ b
same_is a b e =
    let parts = and_parts (a.line == b.line) (rank a.reason == rank b.reason) e in
    same_fault a b (eqb-true a.line b.line parts.0) (eqb-true (rank a.reason) (rank b.reason) parts.1)

tests_same : (l r : ℕ) → ((l == l) && (r == r)) ≡ true
tests_same l r = grind (arith, nat_tests)

same_itself : (a : Fault) → is_same a a ≡ true
same_itself a = tests_same a.line (rank a.reason)

has_in : (fault : Fault) (faults : List Fault) → has fault faults ≡ true → In fault faults
has_in fault [] is = absurd (cc)
has_in fault (x ∷ xs) is = go (has_in fault xs) (is_same fault x) refl is
  where
    go : (has fault xs ≡ true → In fault xs) → (here : Bool) → is_same fault x ≡ here → (here || has fault xs) ≡ true → In fault (x ∷ xs)
    go rest true e is = inl (sym (same_is fault x e))
    go rest false e is = inr (rest is)

in_has : (fault : Fault) (faults : List Fault) → In fault faults → has fault faults ≡ true
in_has fault [] is = absurd is
in_has fault (x ∷ xs) (inl here) =
    or_left (is_same fault x) (has fault xs) (ap (is_same fault) here ∙ same_itself fault)
in_has fault (x ∷ xs) (inr there) = or_right (is_same fault x) (has fault xs) (in_has fault xs there)

-- all that are among some are among others
abbrev pub AreAmong : List Fault → List Fault → Type 0
AreAmong these those = All (λ fault. has fault those ≡ true) these

one_more : (x : Fault) (xs ys : List Fault) → AreAmong xs ys → AreAmong xs (x ∷ ys)
one_more x xs ys among = All-weaker (λ fault. has fault ys ≡ true) (λ fault. has fault (x ∷ ys) ≡ true) (λ fault. or_right (is_same fault x) (has fault ys)) xs among

pub among_themselves : (xs : List Fault) → AreAmong xs xs
among_themselves [] = All-nil (λ fault. has fault [] ≡ true)
among_themselves (x ∷ xs) =
    All-cons (λ fault. has fault (x ∷ xs) ≡ true) x xs (or_left (is_same x x) (has x xs) (same_itself x)) (one_more x xs xs (among_themselves xs))

-- one that is among them and passes is among those that pass
pub has_kept : (test : Fault → Bool) (fault : Fault) (xs : List Fault) → test fault ≡ true → has fault xs ≡ true → has fault (filter test xs) ≡ true
has_kept test fault [] passes is = absurd (cc)
has_kept test fault (x ∷ xs) passes is = go (has_kept test fault xs passes) (is_same fault x) refl (test x) refl is
  where
    go : (has fault xs ≡ true → has fault (filter test xs) ≡ true) → (here : Bool) → is_same fault x ≡ here → (kept : Bool) → test x ≡ kept
        → (here || has fault xs) ≡ true → has fault (cond kept (x ∷ filter test xs) (filter test xs)) ≡ true
    go rest true e true k is = or_left (is_same fault x) (has fault (filter test xs)) e
    go rest true e false k is = let passed : test x ≡ true = ap test (sym (same_is fault x e)) ∙ passes in absurd (cc)
    go rest false e true k is = or_right (is_same fault x) (has fault (filter test xs)) (rest is)
    go rest false e false k is = rest is

-- ---- the first of the same faults is the same

one_among : (fault : Fault) (ys : List Fault) → has fault ys ≡ true → earlier (Some fault) (first ys) ≡ first ys
one_among fault [] is = absurd (cc)
one_among fault (y ∷ ys) is = go (one_among fault ys) (is_same fault y) refl is
  where
    go : (has fault ys ≡ true → earlier (Some fault) (first ys) ≡ first ys) → (here : Bool) → is_same fault y ≡ here → (here || has fault ys) ≡ true
        → earlier (Some fault) (earlier (Some y) (first ys)) ≡ earlier (Some y) (first ys)
    go rest true e is =
        ap (λ (x : Fault). earlier (Some x) (earlier (Some y) (first ys))) (same_is fault y e)
        ∙ sym (earlier_assoc (Some y) (Some y) (first ys)) ∙ ap (λ (x : Option Fault). earlier x (first ys)) (earlier_itself (Some y))
    go rest false e is = earlier_swap (Some fault) (Some y) (first ys) ∙ ap (earlier (Some y)) (rest is)

all_among : (xs ys : List Fault) → AreAmong xs ys → earlier (first xs) (first ys) ≡ first ys
all_among [] ys among = refl
all_among (x ∷ xs) ys among =
    let P : Fault → Type 0 = λ fault. has fault ys ≡ true in
    earlier_assoc (Some x) (first xs) (first ys)
    ∙ ap (earlier (Some x)) (all_among xs ys (All-tail P x xs among)) ∙ one_among x ys (All-head P x xs among)

pub same_first : (xs ys : List Fault) → AreAmong xs ys → AreAmong ys xs → first xs ≡ first ys
same_first xs ys these those = sym (all_among ys xs those) ∙ earlier_comm (first ys) (first xs) ∙ all_among xs ys these

-- ---- in order

-- each before those behind it
abbrev pub Rising : List Fault → Type 0
Rising [] = Unit {0}
Rising (x ∷ xs) = All (λ y. is_before x y ≡ true) xs × Rising xs

rising_kept : (test : Fault → Bool) (xs : List Fault) → Rising xs → Rising (filter test xs)
rising_kept test [] rising = tt
rising_kept test (x ∷ xs) rising = go (rising_kept test xs rising.1) (test x)
  where
    go : Rising (filter test xs) → (kept : Bool) → Rising (cond kept (x ∷ filter test xs) (filter test xs))
    go rest true = (All-filter test (λ y. is_before x y ≡ true) xs rising.0, rest)
    go rest false = rest

-- of two the second is not before the first
not_back : (a b : Fault) → is_before a b ≡ true → is_before b a ≡ false
not_back a b e =
    let less = ltb-true (place a) (place b) (sym (before_place a b) ∙ e) in
    before_place b a ∙ back (place a) (place b) less
  where
    back : (n m : ℕ) → n < m → nat_lt m n ≡ false
    back n m less = grind (arith, nat_tests)

pub before_later : (a b c : Fault) → is_before a b ≡ true → is_before b c ≡ true → is_before a c ≡ true
before_later a b c e f =
    let one = ltb-true (place a) (place b) (sym (before_place a b) ∙ e) in
    let two = ltb-true (place b) (place c) (sym (before_place b c) ∙ f) in
    before_place a c ∙ on (place a) (place b) (place c) one two
  where
    on : (n m k : ℕ) → n < m → m < k → nat_lt n k ≡ true
    on n m k one two = grind (arith, nat_tests)

not_itself : (a : Fault) → is_before a a ≡ false
not_itself a = before_place a a ∙ own (place a)
  where
    own : (n : ℕ) → nat_lt n n ≡ false
    own n = grind (arith, nat_tests)

pub first_rising : (x : Fault) (xs : List Fault) → All (λ y. is_before x y ≡ true) xs → earlier (Some x) (first xs) ≡ Some x
first_rising x [] all = refl
first_rising x (y ∷ xs) all =
    let P : Fault → Type 0 = λ y. is_before x y ≡ true in
    sym (earlier_assoc (Some x) (Some y) (first xs))
    ∙ ap (λ (o : Option Fault). earlier o (first xs)) (ap (λ (test : Bool). cond test (Some y) (Some x)) (not_back x y (All-head P y xs all)))
    ∙ first_rising x xs (All-tail P y xs all)

-- all that pass
kept_whole : (test : Fault → Bool) (xs : List Fault) → All (λ x. test x ≡ true) xs → filter test xs ≡ xs
kept_whole test [] all = refl
kept_whole test (x ∷ xs) all =
    let P : Fault → Type 0 = λ x. test x ≡ true in
    ap (λ (kept : Bool). cond kept (x ∷ filter test xs) (filter test xs)) (All-head P x xs all)
    ∙ ap (λ (those : List Fault). x ∷ those) (kept_whole test xs (All-tail P x xs all))

-- those that pass a test are found among those that pass a weaker one
kept_twice : (test weaker : Fault → Bool) → ((x : Fault) → test x ≡ true → weaker x ≡ true) → (xs : List Fault)
    → filter test (filter weaker xs) ≡ filter test xs
kept_twice test weaker more [] = refl
kept_twice test weaker more (x ∷ xs) = go (weaker x) refl (test x) refl (kept_twice test weaker more xs)
  where
    go : (w : Bool) → weaker x ≡ w → (t : Bool) → test x ≡ t → filter test (filter weaker xs) ≡ filter test xs
        → filter test (cond w (x ∷ filter weaker xs) (filter weaker xs)) ≡ cond t (x ∷ filter test xs) (filter test xs)
    go true e true f same =
        ap (λ (kept : Bool). cond kept (x ∷ filter test (filter weaker xs)) (filter test (filter weaker xs))) f
        ∙ ap (λ (those : List Fault). x ∷ those) same
    go true e false f same =
        ap (λ (kept : Bool). cond kept (x ∷ filter test (filter weaker xs)) (filter test (filter weaker xs))) f ∙ same
    go false e true f same = let passed : weaker x ≡ true = more x f in absurd (cc)
    go false e false f same = same

later_more : (after : Option Fault) (x : Fault) → is_later after x ≡ true → (y : Fault) → is_later (Some x) y ≡ true → is_later after y ≡ true
later_more None x later y behind = refl
later_more (Some a) x later y behind = before_later a x y later behind

module _ (faults : List Fault) (rising : Rising faults) (after : Option Fault) where
  -- what is told next, and what is left behind it
  pub next_is : (fault : Fault) → first (filter (is_later after) faults) ≡ Some fault
      → filter (is_later after) faults ≡ fault ∷ filter (is_later (Some fault)) faults
  next_is fault is =
      go (filter (is_later after) faults) refl (rising_kept (is_later after) faults rising) (filter_passes (is_later after) faults) is
    where
      go : (left : List Fault) → filter (is_later after) faults ≡ left → Rising left → All (λ x. is_later after x ≡ true) left
          → first left ≡ Some fault → left ≡ fault ∷ filter (is_later (Some fault)) faults
      go [] e rises passes is = absurd (cc)
      go (x ∷ xs) e rises passes is =
          let one : Some x ≡ Some fault = sym (first_rising x xs rises.0) ∙ is in
          let its : x ≡ fault = cc in
          let behind : filter (is_later (Some x)) (x ∷ xs) ≡ xs =
          ap (λ (kept : Bool). cond kept (x ∷ filter (is_later (Some x)) xs) (filter (is_later (Some x)) xs)) (not_itself x)
          ∙ kept_whole (is_later (Some x)) xs rises.0 in
          let whole : filter (is_later (Some x)) (x ∷ xs) ≡ filter (is_later (Some x)) faults =
          ap (filter (is_later (Some x))) (sym e)
          ∙ kept_twice (is_later (Some x)) (is_later after) (later_more after x (All-head (λ x. is_later after x ≡ true) x xs passes)) faults in
          subst (λ (y : Fault). x ∷ xs ≡ y ∷ filter (is_later (Some y)) faults) its (ap (λ (those : List Fault). x ∷ those) (sym behind ∙ whole))

  -- and where nothing is told further
  pub none_left : first (filter (is_later after) faults) ≡ None → filter (is_later after) faults ≡ []
  none_left is = go (filter (is_later after) faults) is
    where
      go : (left : List Fault) → first left ≡ None → left ≡ []
      go [] is = refl
      go (x ∷ xs) is = absurd (let none : Some x ≡ None = (none_of (Some x) (first xs) is).0 in cc)

-- ---- each reason at some lines

abbrev at : ℕ → Reason → Fault
at line reason = record { line = line; reason = reason }

-- what all four reasons at a line have, and all behind it
all_four : (P : Fault → Type 0) (line : ℕ) (faults : List Fault) → ((reason : Reason) → P (at line reason)) → All P faults
    → All P (at line Removed ∷ at line Untracked ∷ at line Untransferred ∷ at line Unsettled ∷ faults)
all_four P line faults here behind =
    let one : List Fault = at line Unsettled ∷ faults in
    let two : List Fault = at line Untransferred ∷ one in
    All-cons P (at line Removed) (at line Untracked ∷ two) (here Removed)
    (All-cons P (at line Untracked) two (here Untracked)
    (All-cons P (at line Untransferred) one (here Untransferred) (All-cons P (at line Unsettled) faults (here Unsettled) behind)))

from_line : (line count : ℕ) → All (λ y. line ≤ y.line) (each_from line count)
from_line line zero = All-nil (λ y. line ≤ y.line)
from_line line (suc count) =
    let P : Fault → Type 0 = λ y. line ≤ y.line in
    all_four P line (each_from (line + 1) count) (λ reason. omega arith)
    (All-weaker (λ y. line + 1 ≤ y.line) P (λ y after. omega (arith, after)) (each_from (line + 1) count) (from_line (line + 1) count))

less_line : (l m r s : ℕ) → l + 1 ≤ m → (nat_lt l m || (l == m && nat_lt r s)) ≡ true
less_line l m r s less = grind (arith, nat_tests)

same_line : (l r s : ℕ) → r < s → (nat_lt l l || (l == l && nat_lt r s)) ≡ true
same_line l r s less = grind (arith, nat_tests)

pub each_rising : (line count : ℕ) → Rising (each_from line count)
each_rising line zero = tt
each_rising line (suc count) =
    let others : List Fault = each_from (line + 1) count in
    let P : Reason → Fault → Type 0 = λ reason y. is_before (at line reason) y ≡ true in
    let behind : (reason : Reason) → All (P reason) others =
    λ reason. All-weaker (λ y. line + 1 ≤ y.line) (P reason)
    (λ y later. less_line line y.line (rank reason) (rank y.reason) later) others (from_line (line + 1) count) in
    let one : List Fault = at line Unsettled ∷ others in
    let two : List Fault = at line Untransferred ∷ one in (
      All-cons (P Removed) (at line Untracked) two (same_line line 0 1 (omega arith))
          (All-cons (P Removed) (at line Untransferred) one (same_line line 0 2 (omega arith))
          (All-cons (P Removed) (at line Unsettled) others (same_line line 0 3 (omega arith)) (behind Removed))),
      (
        All-cons (P Untracked) (at line Untransferred) one (same_line line 1 2 (omega arith))
            (All-cons (P Untracked) (at line Unsettled) others (same_line line 1 3 (omega arith)) (behind Untracked)),
        (
          All-cons (P Untransferred) (at line Unsettled) others (same_line line 2 3 (omega arith)) (behind Untransferred),
          (behind Unsettled, each_rising (line + 1) count),
        ),
      ),
    )

past : (n m : ℕ) → n ≤ m → (m == n) ≡ false → n + 1 ≤ m
past n m begins e = grind (arith, nat_tests)

one_of_four : (reason : Reason) (here more : Bool) → here ≡ true
    → ((here && rank reason == 0) || ((here && rank reason == 1) || ((here && rank reason == 2) || ((here && rank reason == 3) || more)))) ≡ true
one_of_four Removed here more is = rw is refl
one_of_four Untracked here more is = rw is refl
one_of_four Untransferred here more is = rw is refl
one_of_four Unsettled here more is = rw is refl

pub each_has : (line count : ℕ) (fault : Fault) → line ≤ fault.line → fault.line < line + count → has fault (each_from line count) ≡ true
each_has line zero fault begins within = absurd (let none : ⊥ = omega arith in none)
each_has line (suc count) fault begins within = go (each_has (line + 1) count fault) (fault.line == line) refl
  where
    go : (line + 1 ≤ fault.line → fault.line < line + 1 + count → has fault (each_from (line + 1) count) ≡ true)
        → (here : Bool) → (fault.line == line) ≡ here → has fault (each_from line (suc count)) ≡ true
    go rest true e = one_of_four fault.reason (fault.line == line) (has fault (each_from (line + 1) count)) e
    go rest false e =
        let others : List Fault = each_from (line + 1) count in
        let one : List Fault = at line Unsettled ∷ others in
        let two : List Fault = at line Untransferred ∷ one in
        or_right (is_same fault (at line Removed)) (has fault (at line Untracked ∷ two))
        (or_right (is_same fault (at line Untracked)) (has fault two)
        (or_right (is_same fault (at line Untransferred)) (has fault one)
        (or_right (is_same fault (at line Unsettled)) (has fault others) (rest (past line fault.line begins e) (omega (arith, within))))))

-- ---- the faults of a body

-- all stand at its lines, or at its end
abbrev IsAt : ℕ → ℕ → Fault → Type 0
IsAt low high fault = (low ≤ fault.line) × (fault.line < high)

module _ (called : Bool) (low high : ℕ) where
  at_spot : (line : ℕ) → (low ≤ line) × (line < high) → (reasons : List Reason) → All (IsAt low high) (map (at line) reasons)
  at_spot line is [] = All-nil (IsAt low high)
  at_spot line is (reason ∷ reasons) = All-cons (IsAt low high) (at line reason) (map (at line) reasons) is (at_spot line is reasons)

  way_at : (path : Path) (s : State) → OnWay (IsBetween low high) path → All (IsAt low high) (faults_on called s path)
  way_at [] s is = All-nil (IsAt low high)
  way_at (spot ∷ path) s is =
      All-append (IsAt low high) (map (at spot.line) (reasons called spot.statement (is_some_left s) s.unsettled))
      (cond (ends_path spot.statement) [] (faults_on called (changed spot.statement s) path))
      (at_spot spot.line is.0 (reasons called spot.statement (is_some_left s) s.unsettled))
      (go (way_at path (changed spot.statement s) is.1) (ends_path spot.statement))
    where
      go : All (IsAt low high) (faults_on called (changed spot.statement s) path) → (ends : Bool)
          → All (IsAt low high) (cond ends [] (faults_on called (changed spot.statement s) path))
      go further true = All-nil (IsAt low high)
      go further false = further

  ways_at : (paths : List Path) (s : State) → OnWays (IsBetween low high) paths → All (IsAt low high) (flat_map (faults_on called s) paths)
  ways_at [] s is = All-nil (IsAt low high)
  ways_at (path ∷ paths) s is =
      All-append (IsAt low high) (faults_on called s path) (flat_map (faults_on called s) paths) (way_at path s is.0) (ways_at paths s is.1)

module _ (called named : Bool) (body : Block) where
  abbrev every : List Fault
  every = each_from 1 (length (lines_of body) + 1)

  abbrev found : List Fault
  found = all_faults called named body

  abbrev is_found : Fault → Bool
  is_found fault = has fault found

  pub told_rising : Rising (faults_of called named body)
  told_rising = rising_kept is_found every (each_rising 1 (length (lines_of body) + 1))

  found_at : All (IsAt 1 (length (lines_of body) + 2)) found
  found_at = ways_at called 1 (length (lines_of body) + 2) (paths body) (first_state named) (body_between body)

  -- The first fault behind another is the first that is told behind it.
  pub first_told : (after : Option Fault) → first (filter (is_later after) found) ≡ first (filter (is_later after) (faults_of called named body))
  first_told after =
      same_first (filter (is_later after) found) (filter (is_later after) (filter is_found every))
      (λ k d at.
      let all : All (λ fault. has fault found ≡ true) (filter (is_later after) found) =
      All-filter (is_later after) (λ fault. has fault found ≡ true) found (among_themselves found) in
      let places : All (IsAt 1 (length (lines_of body) + 2)) (filter (is_later after) found) =
      All-filter (is_later after) (IsAt 1 (length (lines_of body) + 2)) found found_at in
      told_there _ (filter_passes (is_later after) found k d at) (all k d at) (places k d at))
      (λ k d at.
      let kept : All (λ fault. is_found fault ≡ true) (filter (is_later after) (filter is_found every)) =
      All-filter (is_later after) (λ fault. is_found fault ≡ true) (filter is_found every) (filter_passes is_found every) in
      has_kept (is_later after) _ found (filter_passes (is_later after) (filter is_found every) k d at) (kept k d at))
    where
      told_there : (fault : Fault) → is_later after fault ≡ true → has fault found ≡ true → IsAt 1 (length (lines_of body) + 2) fault
          → has fault (filter (is_later after) (filter is_found every)) ≡ true
      told_there fault passes is place =
          has_kept (is_later after) fault (filter is_found every) passes
          (has_kept is_found fault every is (each_has 1 (length (lines_of body) + 1) fault place.0 (let under = place.1 in omega arith)))

  -- Each fault is told.
  pub told_of : (fault : Fault) → In fault found → In fault (faults_of called named body)
  told_of fault is =
      let place : IsAt 1 (length (lines_of body) + 2) fault = All-contains (IsAt 1 (length (lines_of body) + 2)) found fault found_at (contained fault found is) in
      let under = place.1 in
      has_in fault (filter is_found every)
      (has_kept is_found fault every (in_has fault found is) (each_has 1 (length (lines_of body) + 1) fault place.0 (omega (arith, under))))
