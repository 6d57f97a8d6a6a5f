-- The first entry that there is for one of some items.
use Rattle.std.proofs.Common.{◌≡◌, ◌++◌, List, [], ◌∷◌, map, refl, sym, ap, ◌∙◌}
use Rattle.std.specs.Prelude.{All, Option, None, Some, flat_map}
use Rattle.std.specs.Option.{option_or}
use Rattle.std.proofs.lemmas.List.Concat.{flat_map-cons}
use Rattle.std.proofs.lemmas.List.Elements.{All-nil, All-cons}
use Rattle.anti_kind.specs.declared.entry.Entry.{Entry}
use Rattle.anti_play.specs.Schedule.{first_of}

or_assoc : (a b c : Option Entry) → option_or (option_or a b) c ≡ option_or a (option_or b c)
or_assoc None b c = refl
or_assoc (Some x) b c = refl

module _ {T : Type 0} (f : T → Option Entry) where
  pub first_of-append : (xs ys : List T) → first_of f (xs ++ ys) ≡ option_or (first_of f xs) (first_of f ys)
  first_of-append [] ys = refl
  first_of-append (x ∷ xs) ys = ap (option_or (f x)) (first_of-append xs ys) ∙ sym (or_assoc (f x) (first_of f xs) (first_of f ys))

  -- an item for which it is
  pub first_found : (xs : List T) (e : Entry) → first_of f xs ≡ Some e → (x : T) × (f x ≡ Some e)
  first_found [] e is = absurd (cc)
  first_found (x ∷ xs) e is = by_first (f x) refl is (first_found xs e)
    where
      by_first : (o : Option Entry) → f x ≡ o → option_or o (first_of f xs) ≡ Some e → (first_of f xs ≡ Some e → (x : T) × (f x ≡ Some e)) → (x : T) × (f x ≡ Some e)
      by_first None at is later = later is
      by_first (Some d) at is later = (x, at ∙ is)

  -- none of them has one
  pub none_found : (xs : List T) → first_of f xs ≡ None → All (λ x. f x ≡ None) xs
  none_found [] is = All-nil (λ (x : T). f x ≡ None)
  none_found (x ∷ xs) is = by_first (f x) refl is (none_found xs)
    where
      by_first : (o : Option Entry) → f x ≡ o → option_or o (first_of f xs) ≡ None → (first_of f xs ≡ None → All (λ x. f x ≡ None) xs) → All (λ x. f x ≡ None) (x ∷ xs)
      by_first None at is later = All-cons (λ (y : T). f y ≡ None) x xs at (later is)
      by_first (Some d) at is later = absurd (cc)

pub first_of-same : {T : Type 0} (f g : T → Option Entry) → ((x : T) → f x ≡ g x) → (xs : List T) → first_of f xs ≡ first_of g xs
first_of-same f g same [] = refl
first_of-same f g same (x ∷ xs) = ap (λ (o : Option Entry). option_or o (first_of f xs)) (same x) ∙ ap (option_or (g x)) (first_of-same f g same xs)

pub first_of-map : {S T : Type 0} (f : T → Option Entry) (g : S → T) (xs : List S) → first_of f (map g xs) ≡ first_of (λ x. f (g x)) xs
first_of-map f g [] = refl
first_of-map f g (x ∷ xs) = ap (option_or (f (g x))) (first_of-map f g xs)

pub first_of-flat_map : {S T : Type 0} (f : T → Option Entry) (g : S → List T) (xs : List S) → first_of f (flat_map g xs) ≡ first_of (λ x. first_of f (g x)) xs
first_of-flat_map f g [] = refl
first_of-flat_map {S} {T} f g (x ∷ xs) =
    ap (first_of f) (flat_map-cons g x xs) ∙ first_of-append f (g x) (flat_map g xs)
    ∙ ap (option_or (first_of f (g x))) (first_of-flat_map f g xs)
