-- A variable is set at its place, or behind the others.
use Rattle.std.proofs.Common.{◌≡◌, ℕ, suc, ◌<◌, ◌≤◌, ◌++◌, Bool, true, false, cond, List, [], ◌∷◌, length, Option, Some, refl, sym, ap, ◌∙◌, arith}
use Rattle.std.specs.Prelude.{slice_set}
use Rattle.std.specs.Str.{bytes_eq}
use Rattle.std.proofs.lemmas.Slice.Eq.{bytes_eq-Decides}
use Rattle.anti_proc.specs.declared.variables.Binding.{Binding}
use Rattle.anti_proc.specs.declared.variables.Variable.{Variable}
use Rattle.anti_proc.specs.Local.{held_in, with_held}
use Rattle.anti_proc.specs.inner.Variables.{place_among}

module _ (name : List ℕ) (held : Binding) where
  abbrev variable : Variable
  variable = record { name = name; held = held }

  here_or : (here : Bool) (v : Variable) (vs : List Variable) → (place_among vs name < length vs → with_held name held vs ≡ slice_set vs (place_among vs name) variable)
      → cond here 0 (suc (place_among vs name)) < length (v ∷ vs)
      → cond here (variable ∷ vs) (v ∷ with_held name held vs) ≡ slice_set (v ∷ vs) (cond here 0 (suc (place_among vs name))) variable
  here_or true v vs there within = refl
  here_or false v vs there within = ap (λ (further : List Variable). v ∷ further) (there (omega arith))

  pub set_there : (vs : List Variable) → place_among vs name < length vs → with_held name held vs ≡ slice_set vs (place_among vs name) variable
  set_there [] within = absurd (omega arith)
  set_there (v ∷ vs) within = here_or (bytes_eq v.name name) v vs (set_there vs) within

  new_or : (here : Bool) (v : Variable) (vs : List Variable) → (place_among vs name ≡ length vs → with_held name held vs ≡ vs ++ variable ∷ [])
      → cond here 0 (suc (place_among vs name)) ≡ length (v ∷ vs)
      → cond here (variable ∷ vs) (v ∷ with_held name held vs) ≡ v ∷ (vs ++ variable ∷ [])
  new_or true v vs new e = absurd (omega arith)
  new_or false v vs new e = ap (λ (further : List Variable). v ∷ further) (new (omega arith))

  pub set_new : (vs : List Variable) → place_among vs name ≡ length vs → with_held name held vs ≡ vs ++ variable ∷ []
  set_new [] e = refl
  set_new (v ∷ vs) e = new_or (bytes_eq v.name name) v vs (set_new vs) e

place_or : (here : Bool) (m n : ℕ) → m ≤ n → cond here 0 (suc m) ≤ suc n
place_or true m n le = omega arith
place_or false m n le = omega arith

pub place_within : (vs : List Variable) (name : List ℕ) → place_among vs name ≤ length vs
place_within [] name = omega arith
place_within (v ∷ vs) name = place_or (bytes_eq v.name name) (place_among vs name) (length vs) (place_within vs name)

-- ---- what is held then

module _ (name other : List ℕ) (held : Binding) where
  its_own : (v : Variable) → bytes_eq name other ≡ true → bytes_eq v.name name ≡ false → bytes_eq v.name other ≡ false
  its_own v same differs = ap (λ (n : List ℕ). bytes_eq v.name n) (sym ((bytes_eq-Decides name other).0 same)) ∙ differs

  found_or : (here : Bool) (v : Variable) (vs : List Variable) → bytes_eq v.name name ≡ here → bytes_eq name other ≡ true
      → held_in (with_held name held vs) other ≡ Some held
      → held_in (cond here (record { name = name; held = held } ∷ vs) (v ∷ with_held name held vs)) other ≡ Some held
  found_or true v vs is same later = rw same refl
  found_or false v vs is same later = rw (its_own v same is) later

  -- the variable that was set holds what it was set to
  pub held_set : (vs : List Variable) → bytes_eq name other ≡ true → held_in (with_held name held vs) other ≡ Some held
  held_set [] same = rw same refl
  held_set (v ∷ vs) same = found_or (bytes_eq v.name name) v vs refl same (held_set vs same)

  that_one : (v : Variable) → bytes_eq name other ≡ false → bytes_eq v.name name ≡ true → bytes_eq v.name other ≡ false
  that_one v differs same = ap (λ (n : List ℕ). bytes_eq n other) ((bytes_eq-Decides v.name name).0 same) ∙ differs

  other_or : (here : Bool) (v : Variable) (vs : List Variable) → bytes_eq v.name name ≡ here → bytes_eq name other ≡ false
      → held_in (with_held name held vs) other ≡ held_in vs other
      → held_in (cond here (record { name = name; held = held } ∷ vs) (v ∷ with_held name held vs)) other ≡ held_in (v ∷ vs) other
  other_or true v vs is differs later = rw (differs, that_one v differs is) refl
  other_or false v vs is differs later = ap (λ (found : Option Binding). cond (bytes_eq v.name other) (Some v.held) found) later

  -- the others hold what they held
  pub held_other : (vs : List Variable) → bytes_eq name other ≡ false → held_in (with_held name held vs) other ≡ held_in vs other
  held_other [] differs = rw differs refl
  held_other (v ∷ vs) differs = other_or (bytes_eq v.name name) v vs refl differs (held_other vs differs)
