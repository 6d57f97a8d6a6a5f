-- The barriers that have to wait on some way through a body are those that are found where it is carried through on all of them together.
use Rattle.std.proofs.Common.{◌≡◌, ℕ, ◌==◌, ◌≤◌, Bool, true, false, cond, ◌&&◌, ◌||◌, ◌⊎◌, inl, inr, List, [], ◌∷◌, ◌++◌, map, filter, flat_map, Option, None, Some, refl, sym, ap, ap₂, ◌∙◌, subst, arith}
use Rattle.std.proofs.lemmas.Bool.Decides.{nat_tests}
use Rattle.std.proofs.lemmas.List.{map-append}
use Rattle.std.proofs.lemmas.List.Elements.{filter-append}
use Rattle.std.specs.List.{list_any}
use Rattle.anti_lang.specs.Program.{Step, Block, Barrier}
use Rattle.anti_place.specs.declared.doubt.Doubt.TheVariants.{Unsettled}
use Rattle.anti_place.specs.declared.fault.Fault.{Fault}
use Rattle.anti_place.specs.declared.flow.Flow.{Flow}
use Rattle.anti_place.specs.declared.reason.Reason.TheVariants as why
use Rattle.anti_place.specs.declared.search.Search.{Search}
use Rattle.anti_place.specs.declared.search.Sought.TheVariants.{Waits}
use Rattle.anti_place.specs.Paths.{State, Path, changed, paths, ends_path, is_before, earlier, first}
use Rattle.anti_place.specs.Reviews.{is_barrier, waits_on, all_waits}
use Rattle.anti_place.specs.inner.Joined.{does, is_later, fault_here, behind, fault_of}
use Rattle.anti_place.proofs.Doubting.{ends_with, first_state, holds_on}
use Rattle.anti_place.proofs.Earlier.{first_append}
use Rattle.anti_place.proofs.Joining.{path_fault, least, body_finds}

abbrev waits_here : ℕ → Fault
waits_here line = record { line = line; reason = why.Unsettled }

module _ (after : Option Fault) where
  abbrev sought : Search
  sought = record { sought = Waits; after = after }

  -- the barriers behind the fault
  abbrev pub later : List ℕ → List Fault
  later lines = filter (is_later after) (map waits_here lines)

  first_later : (these those : List ℕ) → first (later (these ++ those)) ≡ earlier (first (later these)) (first (later those))
  first_later these those =
      ap (λ (faults : List Fault). first (filter (is_later after) faults)) (map-append waits_here these those)
      ∙ ap first (filter-append (is_later after) (map waits_here these) (map waits_here those))
      ∙ first_append (later these) (later those)

  barrier_here : (line : ℕ) (statement : Step) (unsettled : Bool)
      → first (later (cond (is_barrier statement && unsettled) (line ∷ []) [])) ≡ fault_here sought Unsettled line statement unsettled
  barrier_here line Barrier true = go (is_later after (waits_here line))
    where
      go : (test : Bool) → first (cond test (waits_here line ∷ []) []) ≡ cond test (Some (waits_here line)) None
      go true = refl
      go false = refl
  barrier_here line Barrier false = refl
  barrier_here line statement true = refl
  barrier_here line statement false = refl

  waits_behind : (statement : Step) (s : State) (path : Path)
      → first (later (waits_on (changed statement s) path)) ≡ path_fault sought Unsettled path (changed statement s).unsettled
      → first (later (cond (ends_path statement) [] (waits_on (changed statement s) path)))
      ≡ behind (does Unsettled statement) s.unsettled (path_fault sought Unsettled path)
  waits_behind statement s path further = go (ends_path statement) refl
    where
      go : (ends : Bool) → ends_path statement ≡ ends
          → first (later (cond ends [] (waits_on (changed statement s) path)))
          ≡ behind (does Unsettled statement) s.unsettled (path_fault sought Unsettled path)
      go true e = sym (ap (λ (flow : Flow). behind flow s.unsettled (path_fault sought Unsettled path)) (ends_with statement e Unsettled))
      go false e = further ∙ sym (holds_on statement e s Unsettled (path_fault sought Unsettled path))

  path_waits : (path : Path) (s : State) → first (later (waits_on s path)) ≡ path_fault sought Unsettled path s.unsettled
  path_waits [] s = refl
  path_waits (spot ∷ path) s =
      first_later (cond (is_barrier spot.statement && s.unsettled) (spot.line ∷ []) [])
      (cond (ends_path spot.statement) [] (waits_on (changed spot.statement s) path))
      ∙ ap₂ earlier (barrier_here spot.line spot.statement s.unsettled) (waits_behind spot.statement s path (path_waits path (changed spot.statement s)))

  ways_wait : (paths : List Path) (s : State) → first (later (flat_map (waits_on s) paths)) ≡ least sought Unsettled paths s.unsettled
  ways_wait [] s = refl
  ways_wait (path ∷ paths) s =
      first_later (waits_on s path) (flat_map (waits_on s) paths) ∙ ap₂ earlier (path_waits path s) (ways_wait paths s)

  pub body_waits : (named : Bool) (body : Block) → first (later (all_waits named body)) ≡ fault_of sought Unsettled body named
  body_waits named body = ways_wait (paths body) (first_state named) ∙ (body_finds sought Unsettled body).found named

-- ---- at a line

module _ (line : ℕ) where
  abbrev pub before : Fault
  before = record { line = line; reason = why.Untransferred }

  -- What is found behind that tells whether there is one at the line.
  abbrev Tells : Option Fault → Bool → Type 0
  Tells found any =
      ((found ≡ None) × (any ≡ false))
      ⊎ ((n : ℕ) × (found ≡ Some (waits_here n)) × (line ≤ n) × ((n == line) ≡ any))

  not_yet : (n : ℕ) (any : Bool) → is_later (Some before) (waits_here n) ≡ false → any ≡ ((n == line) || any)
  not_yet n any e = grind (arith, nat_tests)

  not_before : (n : ℕ) → is_later (Some before) (waits_here n) ≡ true → line ≤ n
  not_before n e = grind (arith, nat_tests)

  alone : (n : ℕ) (any : Bool) → any ≡ false → (n == line) ≡ ((n == line) || any)
  alone n any e = grind (arith, nat_tests)

  other : (n m : ℕ) (any : Bool) → is_before (waits_here m) (waits_here n) ≡ true → line ≤ m → (m == line) ≡ any → (m == line) ≡ ((n == line) || any)
  other n m any e begins is = grind (arith, nat_tests)

  this : (n m : ℕ) (any : Bool) → is_before (waits_here m) (waits_here n) ≡ false → line ≤ n → line ≤ m → (m == line) ≡ any → (n == line) ≡ ((n == line) || any)
  this n m any e begins later is = grind (arith, nat_tests)

  -- one more
  tells_more : (n : ℕ) (lines : List ℕ) (any : Bool) → Tells (first (later (Some before) lines)) any → Tells (first (later (Some before) (n ∷ lines))) ((n == line) || any)
  tells_more n lines any tells = go (is_later (Some before) (waits_here n)) refl tells
    where
      both : (found : Option Fault) → line ≤ n → Tells found any → Tells (earlier (Some (waits_here n)) found) ((n == line) || any)
      both found begins (inl none) =
          inr (n, ap (earlier (Some (waits_here n))) none.0, begins, alone n any none.1)
      both found begins (inr (m, is, later, same)) =
          pick (is_before (waits_here m) (waits_here n)) refl
        where
          pick : (test : Bool) → is_before (waits_here m) (waits_here n) ≡ test → Tells (earlier (Some (waits_here n)) found) ((n == line) || any)
          pick true e =
              inr (m, ap (earlier (Some (waits_here n))) is ∙ ap (λ (test : Bool). cond test (Some (waits_here m)) (Some (waits_here n))) e, later, other n m any e later same)
          pick false e =
              inr (n, ap (earlier (Some (waits_here n))) is ∙ ap (λ (test : Bool). cond test (Some (waits_here m)) (Some (waits_here n))) e, begins, this n m any e begins later same)

      go : (test : Bool) → is_later (Some before) (waits_here n) ≡ test → Tells (first (later (Some before) lines)) any
          → Tells (first (cond test (waits_here n ∷ later (Some before) lines) (later (Some before) lines))) ((n == line) || any)
      go true e tells = both (first (later (Some before) lines)) (not_before n e) tells
      go false e tells = subst (λ (b : Bool). Tells (first (later (Some before) lines)) b) (not_yet n any e) tells

  tells : (lines : List ℕ) → Tells (first (later (Some before) lines)) (list_any (λ waits. waits == line) lines)
  tells [] = inl (refl, refl)
  tells (n ∷ lines) = tells_more n lines (list_any (λ waits. waits == line) lines) (tells lines)

  pub found_there : (lines : List ℕ) (found : Fault) → first (later (Some before) lines) ≡ Some found
      → (found.line == line) ≡ list_any (λ waits. waits == line) lines
  found_there lines found is = go (tells lines)
    where
      go : Tells (first (later (Some before) lines)) (list_any (λ waits. waits == line) lines) → (found.line == line) ≡ list_any (λ waits. waits == line) lines
      go (inl none) = absurd (let clash : Some found ≡ None = sym is ∙ none.0 in cc)
      go (inr (n, at, later, same)) = let one : found ≡ waits_here n = cc in ap (λ (f : Fault). f.line == line) one ∙ same

  pub none_there : (lines : List ℕ) → first (later (Some before) lines) ≡ None → false ≡ list_any (λ waits. waits == line) lines
  none_there lines is = go (tells lines)
    where
      go : Tells (first (later (Some before) lines)) (list_any (λ waits. waits == line) lines) → false ≡ list_any (λ waits. waits == line) lines
      go (inl none) = sym none.1
      go (inr (n, at, later, same)) = absurd (let clash : Some (waits_here n) ≡ None = sym at ∙ is in cc)
