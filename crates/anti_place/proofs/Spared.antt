-- Where a barrier never has to wait and its line does not fail, a body without it has the faults that it has, those behind it one line earlier.
use Rattle.std.proofs.Common.{◌≡◌, ℕ, ◌==◌, nat_lt, Bool, true, false, cond, ◌&&◌, ◌||◌, inl, inr, List, [], ◌∷◌, ◌++◌, map, flat_map, Option, None, Some, refl, sym, ap, ap₂, ◌∙◌, subst, eqb-true, arith}
use Rattle.std.specs.Option.{option_map}
use Rattle.std.proofs.lemmas.Bool.Decides.{nat_tests}
use Rattle.std.proofs.lemmas.List.{map-append}
use Rattle.anti_lang.specs.Blocks.{lines_of}
use Rattle.anti_lang.specs.Program.{Step, Block, Barrier}
use Rattle.anti_place.specs.declared.fault.Fault.{Fault}
use Rattle.anti_place.specs.declared.reason.Reason.{Reason}
use Rattle.anti_place.specs.declared.reason.Reason.TheVariants.{Untransferred}
use Rattle.anti_place.specs.Paths.{State, Spot, Path, is_some_left, changed, reasons, when, paths, ends_path, faults_on, all_faults, rank, is_before, earlier, first, first_fault}
use Rattle.anti_place.specs.Reviews.{is_barrier, waits_on, all_waits, barriers_from}
use Rattle.anti_place.specs.Without.{block_without, moved_up}
use Rattle.anti_place.proofs.Doubting.{first_state}
use Rattle.anti_place.proofs.Members.{In, in_left, in_right}
use Rattle.anti_place.proofs.Skipping.{skip, other_line, IsThere, body_skipped, body_there}
use Rattle.anti_place.proofs.Ways.{OnWay, OnWays}

abbrev pub at : ℕ → Reason → Fault
at line reason = record { line = line; reason = reason }

abbrev spot_at : ℕ → Step → Spot
spot_at line statement = record { line = line; statement = statement }

-- none of some faults stands at a line
abbrev pub NoneAt : ℕ → List Fault → Type 0
NoneAt line faults = (reason : Reason) → In (at line reason) faults → ⊥

abbrev pub NotAmong : ℕ → List ℕ → Type 0
NotAmong line lines = In line lines → ⊥

-- a fault where that line is taken away
abbrev pub fault_up : ℕ → Fault → Fault
fault_up line fault = record { line = moved_up line fault.line; reason = fault.reason }

module _ (called : Bool) (line : ℕ) where
  -- ---- a barrier that has nothing to wait for changes nothing

  abbrev Changes : ℕ → Step → Type 0
  Changes n statement =
      (s : State) (path : Path) → NotAmong line (waits_on s (spot_at n statement ∷ path)) → NoneAt line (faults_on called s (spot_at n statement ∷ path))
      → (faults_on called s (spot_at n statement ∷ path) ≡ faults_on called s path) × (waits_on s (spot_at n statement ∷ path) ≡ waits_on s path)

  at_barrier : Changes line Barrier
  at_barrier s path waits none = go s.unsettled refl (is_some_left s) refl
    where
      same : s.unsettled ≡ false → changed Barrier s ≡ s
      same e = ap (λ (u : Bool). record { rows = s.rows; unsettled = u }) (sym e)

      go : (u : Bool) → s.unsettled ≡ u → (left : Bool) → is_some_left s ≡ left
          → (faults_on called s (spot_at line Barrier ∷ path) ≡ faults_on called s path) × (waits_on s (spot_at line Barrier ∷ path) ≡ waits_on s path)
      go true e left f =
          absurd (waits (subst (λ (u : Bool). In line (cond u (line ∷ []) [] ++ waits_on (changed Barrier s) path)) (sym e) (inl refl)))
      go false e true f =
          absurd
          (none Untransferred
          (subst (λ (left : Bool). In (at line Untransferred) (map (at line) (when left Untransferred) ++ faults_on called (changed Barrier s) path)) (sym f) (inl refl)))
      go false e false f = (
        ap (λ (left : Bool). map (at line) (when left Untransferred) ++ faults_on called (changed Barrier s) path) f ∙ ap (λ (t : State). faults_on called t path) (same e),
        ap (λ (u : Bool). cond u (line ∷ []) [] ++ waits_on (changed Barrier s) path) e ∙ ap (λ (t : State). waits_on t path) (same e),
      )

  there : (n : ℕ) (statement : Step) → n ≡ line → statement ≡ Barrier → Changes n statement
  there n statement same is = subst (λ (m : ℕ). Changes m statement) (sym same) (subst (λ (one : Step). Changes line one) (sym is) at_barrier)

  -- ---- a way

  up_at : (n : ℕ) (reasons : List Reason) → map (at (moved_up line n)) reasons ≡ map (fault_up line) (map (at n) reasons)
  up_at n [] = refl
  up_at n (reason ∷ reasons) = ap (λ (those : List Fault). at (moved_up line n) reason ∷ those) (up_at n reasons)

  abbrev Spared : State → Path → Type 0
  Spared s path = faults_on called s (skip line path) ≡ map (fault_up line) (faults_on called s path)

  way_spared : (path : Path) (s : State) → OnWay (IsThere line) path → NotAmong line (waits_on s path) → NoneAt line (faults_on called s path) → Spared s path
  way_spared [] s is waits none = refl
  way_spared (spot ∷ path) s is waits none =
      go (spot.line == line) refl (λ t. way_spared path t is.1) (ends_path spot.statement) refl
    where
      here : List Reason
      here = reasons called spot.statement (is_some_left s) s.unsettled

      rest : State
      rest = changed spot.statement s

      moved : Spot
      moved = spot_at (moved_up line spot.line) spot.statement

      go : (test : Bool) → (spot.line == line) ≡ test
          → ((t : State) → NotAmong line (waits_on t path) → NoneAt line (faults_on called t path) → Spared t path)
          → (ends : Bool) → ends_path spot.statement ≡ ends
          → faults_on called s (cond test (skip line path) (moved ∷ skip line path)) ≡ map (fault_up line) (faults_on called s (spot ∷ path))
      go true e further ends f =
          let same : spot.line ≡ line = eqb-true spot.line line e in
          let both = there spot.line spot.statement same (is.0 same) s path waits none in
          further s (λ w. waits (subst (λ (lines : List ℕ). In line lines) (sym both.1) w))
          (λ r i. none r (subst (λ (faults : List Fault). In (at line r) faults) (sym both.0) i))
          ∙ ap (map (fault_up line)) (sym both.0)
      go false e further true f =
          ap (λ (ends : Bool). map (at (moved_up line spot.line)) here ++ cond ends [] (faults_on called rest (skip line path))) f
          ∙ ap (λ (those : List Fault). those ++ []) (up_at spot.line here)
          ∙ sym (map-append (fault_up line) (map (at spot.line) here) [])
          ∙ sym (ap (λ (ends : Bool). map (fault_up line) (map (at spot.line) here ++ cond ends [] (faults_on called rest path))) f)
      go false e further false f =
          let on : Spared rest path =
          further rest
          (λ w. waits
          (subst (λ (ends : Bool). In line (cond (is_barrier spot.statement && s.unsettled) (spot.line ∷ []) [] ++ cond ends [] (waits_on rest path))) (sym f)
          (in_right line (cond (is_barrier spot.statement && s.unsettled) (spot.line ∷ []) []) (waits_on rest path) w)))
          (λ r i. none r
          (subst (λ (ends : Bool). In (at line r) (map (at spot.line) here ++ cond ends [] (faults_on called rest path))) (sym f)
          (in_right (at line r) (map (at spot.line) here) (faults_on called rest path) i))) in
          ap (λ (ends : Bool). map (at (moved_up line spot.line)) here ++ cond ends [] (faults_on called rest (skip line path))) f
          ∙ ap₂ (λ (these those : List Fault). these ++ those) (up_at spot.line here) on
          ∙ sym (map-append (fault_up line) (map (at spot.line) here) (faults_on called rest path))
          ∙ sym (ap (λ (ends : Bool). map (fault_up line) (map (at spot.line) here ++ cond ends [] (faults_on called rest path))) f)

  ways_spared : (paths : List Path) (s : State) → OnWays (IsThere line) paths → NotAmong line (flat_map (waits_on s) paths)
      → NoneAt line (flat_map (faults_on called s) paths)
      → flat_map (faults_on called s) (map (skip line) paths) ≡ map (fault_up line) (flat_map (faults_on called s) paths)
  ways_spared [] s is waits none = refl
  ways_spared (path ∷ paths) s is waits none =
      ap₂ (λ (these those : List Fault). these ++ those)
      (way_spared path s is.0 (λ w. waits (in_left line (waits_on s path) (flat_map (waits_on s) paths) w))
      (λ r i. none r (in_left (at line r) (faults_on called s path) (flat_map (faults_on called s) paths) i)))
      (ways_spared paths s is.1 (λ w. waits (in_right line (waits_on s path) (flat_map (waits_on s) paths) w))
      (λ r i. none r (in_right (at line r) (faults_on called s path) (flat_map (faults_on called s) paths) i)))
      ∙ sym (map-append (fault_up line) (faults_on called s path) (flat_map (faults_on called s) paths))

-- ---- the first fault

first_in : (faults : List Fault) (fault : Fault) → first faults ≡ Some fault → In fault faults
first_in [] fault is = absurd (cc)
first_in (x ∷ xs) fault is = go (first_in xs fault) (first xs) refl is
  where
    go : (first xs ≡ Some fault → In fault xs) → (rest : Option Fault) → first xs ≡ rest → earlier (Some x) rest ≡ Some fault → In fault (x ∷ xs)
    go further None e is = inl (cc)
    go further (Some y) e is = pick (is_before y x) is
      where
        pick : (test : Bool) → cond test (Some y) (Some x) ≡ Some fault → In fault (x ∷ xs)
        pick true is = inr (further (e ∙ is))
        pick false is = inl (cc)

module _ (line : ℕ) where
  less_up : (n m : ℕ) → (n == line) ≡ false → (m == line) ≡ false → nat_lt (moved_up line n) (moved_up line m) ≡ nat_lt n m
  less_up n m one two = grind (arith, nat_tests)

  same_up : (n m : ℕ) → (n == line) ≡ false → (m == line) ≡ false → (moved_up line n == moved_up line m) ≡ (n == m)
  same_up n m one two = grind (arith, nat_tests)

  before_up : (a b : Fault) → (a.line == line) ≡ false → (b.line == line) ≡ false → is_before (fault_up line a) (fault_up line b) ≡ is_before a b
  before_up a b one two =
      ap₂ (λ (less same : Bool). less || (same && nat_lt (rank a.reason) (rank b.reason))) (less_up a.line b.line one two) (same_up a.line b.line one two)

  first_up : (faults : List Fault) → NoneAt line faults → first (map (fault_up line) faults) ≡ option_map (fault_up line) (first faults)
  first_up [] none = refl
  first_up (x ∷ xs) none =
      ap (earlier (Some (fault_up line x))) (first_up xs (λ r i. none r (inr i)))
      ∙ go (first xs) refl
    where
      elsewhere : (fault : Fault) → In fault (x ∷ xs) → (fault.line == line) ≡ false
      elsewhere fault i =
          other_line line fault.line
          (λ same. none fault.reason (subst (λ (n : ℕ). In (at n fault.reason) (x ∷ xs)) same i))

      go : (rest : Option Fault) → first xs ≡ rest
          → earlier (Some (fault_up line x)) (option_map (fault_up line) rest) ≡ option_map (fault_up line) (earlier (Some x) rest)
      go None e = refl
      go (Some y) e =
          ap (λ (test : Bool). cond test (Some (fault_up line y)) (Some (fault_up line x)))
          (before_up y x (elsewhere y (inr (first_in xs y e))) (elsewhere x (inl refl)))
          ∙ pick (is_before y x)
        where
          pick : (test : Bool) → cond test (Some (fault_up line y)) (Some (fault_up line x)) ≡ option_map (fault_up line) (cond test (Some y) (Some x))
          pick true = refl
          pick false = refl

-- The first fault of a body without a barrier that never has to wait and that does not fail.
pub first_spared : (called named : Bool) (body : Block) (line : ℕ) → In line (barriers_from 1 (lines_of body)) → NotAmong line (all_waits named body)
    → NoneAt line (all_faults called named body)
    → first_fault called named (block_without line 1 body) ≡ option_map (fault_up line) (first_fault called named body)
first_spared called named body line is waits none =
    ap (λ (ways : List Path). first (flat_map (faults_on called (first_state named)) ways)) (body_skipped line body is)
    ∙ ap first (ways_spared called line (paths body) (first_state named) (body_there line body is) waits none)
    ∙ first_up line (all_faults called named body) none
