-- What is found in a list, and what a filter keeps of it.
use Rattle.std.proofs.Common.{◌≡◌, ℕ, zero, suc, ◌<◌, ◌≤◌, Bool, true, false, cond, List, [], ◌∷◌, ◌++◌, length, get_or, filter, Some, None, find, All, refl, sym, ap, subst, ◌∙◌, ⊎_elim, arith}
use Rattle.std.specs.Prelude.{◌↔◌, Contains, flat_map}
use Rattle.std.specs.List.{Any}
use Rattle.std.proofs.lemmas.Bool.{both_ways}
use Rattle.std.proofs.lemmas.List.Elements.{All-filter, All-contains, All-contains_itself, Contains-append_left, Contains-append_right, Contains-append_cases, filter_passes}

-- Finding.

-- what was found stands in the list and passes
pub record Found {X : Type 0} (p : X → Bool) (xs : List X) (x : X) : Type 0 where
  pub index : ℕ
  pub within : index < length xs
  pub at : (d : X) → get_or xs index d ≡ x
  pub passes : p x ≡ true

found_later : {X : Type 0} (p : X → Bool) (y : X) (xs : List X) (x : X) → Found p xs x → Found p (y ∷ xs) x
found_later p y xs x f = record { index = suc f.index; within = omega (arith, f.within); at = f.at; passes = f.passes }

found_by : {X : Type 0} (p : X → Bool) (y : X) (xs : List X) (x : X) (b : Bool) → p y ≡ b → cond b (Some y) (find p xs) ≡ Some x → (find p xs ≡ Some x → Found p xs x) → Found p (y ∷ xs) x
found_by p y xs x true passes is later = let same : y ≡ x = cc in record { index = 0; within = omega arith; at = λ d. same; passes = ap p (sym same) ∙ passes }
found_by p y xs x false passes is later = found_later p y xs x (later is)

pub find_found : {X : Type 0} (p : X → Bool) (xs : List X) (x : X) → find p xs ≡ Some x → Found p xs x
find_found p [] x is = absurd (cc)
find_found p (y ∷ xs) x is = found_by p y xs x (p y) refl is (find_found p xs x)

-- it is found in a longer list too
pub find_kept : {X : Type 0} (p : X → Bool) (xs ys : List X) (x : X) → find p xs ≡ Some x → find p (xs ++ ys) ≡ Some x
find_kept p [] ys x is = absurd (cc)
find_kept p (y ∷ xs) ys x is = elim (p y) as (λ b. cond b (Some y) (find p xs) ≡ Some x → cond b (Some y) (find p (xs ++ ys)) ≡ Some x) [
  | true ↦ λ here. here
  | false ↦ λ later. find_kept p xs ys x later
] is

-- what does not pass is not found behind the others
pub find_past : {X : Type 0} (p : X → Bool) (xs : List X) (x : X) → p x ≡ false → find p (xs ++ x ∷ []) ≡ find p xs
find_past p [] x off = ap (λ b. cond b (Some x) None) off
find_past p (y ∷ xs) x off = ap (λ o. cond (p y) (Some y) o) (find_past p xs x off)

-- where nothing is found no element passes
fails_by : {X : Type 0} (p : X → Bool) (y : X) (xs : List X) (b : Bool) → p y ≡ b → cond b (Some y) (find p xs) ≡ None → (b ≡ false) × (find p xs ≡ None)
fails_by p y xs true is none = absurd (cc)
fails_by p y xs false is none = (refl, none)

pub none_passes : {X : Type 0} (p : X → Bool) (xs : List X) → find p xs ≡ None → All (λ x. p x ≡ false) xs
none_passes p [] none i d short = absurd (omega arith)
none_passes p (y ∷ xs) none zero d short = (fails_by p y xs (p y) refl none).0
none_passes p (y ∷ xs) none (suc i) d short = none_passes p xs (fails_by p y xs (p y) refl none).1 i d (omega arith)

-- Filtering.

-- a filter has just the elements that pass
filter_keeps : {X : Type 0} (p : X → Bool) (y : X) (xs : List X) (x : X) (b : Bool) → p y ≡ b → Contains (filter p xs) x → Contains (cond b (y ∷ filter p xs) (filter p xs)) x
filter_keeps p y xs x true is in' = (suc in'.0, omega (arith, in'.1), in'.2)
filter_keeps p y xs x false is in' = in'

filter_takes : {X : Type 0} (p : X → Bool) (y : X) (xs : List X) (b : Bool) → p y ≡ b → b ≡ true → Contains (cond b (y ∷ filter p xs) (filter p xs)) y
filter_takes p y xs true is on = (0, omega arith, refl)
filter_takes p y xs false is on = absurd (cc)

filter_at : {X : Type 0} (p : X → Bool) (xs : List X) (x : X) (k : ℕ) → k < length xs → get_or xs k x ≡ x → p x ≡ true → Contains (filter p xs) x
filter_at p [] x k short at on = absurd (omega arith)
filter_at p (y ∷ xs) x zero short at on = subst (λ z. Contains (filter p (y ∷ xs)) z) at (filter_takes p y xs (p y) refl (ap p at ∙ on))
filter_at p (y ∷ xs) x (suc k) short at on = filter_keeps p y xs x (p y) refl (filter_at p xs x k (omega arith) at on)

pub filter_contains : {X : Type 0} (p : X → Bool) (xs : List X) (x : X) → Contains (filter p xs) x ↔ (Contains xs x × (p x ≡ true))
filter_contains p xs x = (
  λ in'. (
    All-contains (Contains xs) (filter p xs) x (All-filter p (Contains xs) xs (All-contains_itself xs)) in',
    All-contains (λ y. p y ≡ true) (filter p xs) x (filter_passes p xs) in',
  ),
  λ both. filter_at p xs x both.0.0 both.0.1 both.0.2 both.1,
)

-- a filter whose test fewer pass keeps no more
keeps_less : {X : Type 0} (x : X) (ps qs : List X) (b c : Bool) → (b ≡ true → c ≡ true) → length ps ≤ length qs → length (cond b (x ∷ ps) ps) ≤ length (cond c (x ∷ qs) qs)
keeps_less x ps qs true true more less = omega arith
keeps_less x ps qs true false more less = absurd (both_ways false refl (more refl))
keeps_less x ps qs false true more less = omega arith
keeps_less x ps qs false false more less = less

pub filter_less : {X : Type 0} (p q : X → Bool) → ((x : X) → p x ≡ true → q x ≡ true) → (xs : List X) → length (filter p xs) ≤ length (filter q xs)
filter_less p q more [] = omega arith
filter_less p q more (x ∷ xs) = keeps_less x (filter p xs) (filter q xs) (p x) (q x) (more x) (filter_less p q more xs)

-- Joining.

-- what an element gives is in the whole
pub in_flat_map : {X Y : Type 0} (f : X → List Y) (xs : List X) (i : ℕ) (d : X) (y : Y) → i < length xs → Contains (f (get_or xs i d)) y → Contains (flat_map f xs) y
in_flat_map f [] i d y short in' = absurd (omega arith)
in_flat_map f (x ∷ xs) zero d y short in' = Contains-append_left (f x) (flat_map f xs) y in'
in_flat_map f (x ∷ xs) (suc i) d y short in' = Contains-append_right (f x) (flat_map f xs) y (in_flat_map f xs i d y (omega arith) in')

any_later : {X : Type 0} (P : X → Type 0) (x : X) (xs : List X) → Any P xs → Any P (x ∷ xs)
any_later P x xs found = (suc found.0, found.1, omega (arith, found.2), found.3, found.4)

-- and what is in the whole comes from an element
pub joined_from : {X Y : Type 0} (f : X → List Y) (xs : List X) (y : Y) → Contains (flat_map f xs) y → Any (λ x. Contains (f x) y) xs
joined_from f [] y in' = absurd (omega (arith, in'.1))
joined_from f (x ∷ xs) y in' =
    ⊎_elim (λ (here : Contains (f x) y). (0, x, omega arith, refl, here))
    (λ (later : Contains (flat_map f xs) y). any_later (λ z. Contains (f z) y) x xs (joined_from f xs y later))
    (Contains-append_cases (f x) (flat_map f xs) y in')
