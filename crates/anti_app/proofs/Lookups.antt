-- Things that are found by a test, and what is made of each of them.
use Rattle.std.proofs.Common.{◌≡◌, ℕ, ◌<◌, List, [], ◌∷◌, Bool, true, false, not, cond, ◌||◌, length, map, Option, Some, option_map, slice_get, refl, sym, ap, ◌∙◌}
use Rattle.std.specs.Prelude.{position}
use Rattle.std.specs.List.{list_all, list_any, find, position_or_len}
use Rattle.std.specs.Str.{bytes_eq}
use Rattle.std.proofs.lemmas.Bool.{and_parts, and_from}
use Rattle.std.proofs.lemmas.List.Folds.{find_at}
use Rattle.std.proofs.lemmas.List.Quantifiers.{position-Some}
use Rattle.std.proofs.lemmas.Option.{slice_get_within}
use Rattle.std.proofs.lemmas.Slice.Eq.{bytes_eq-Decides}
use Rattle.anti_rules.proofs.Holds.{are_apart}
use Rattle.toml.specs.Data.{Data}
use Rattle.anti_app.specs.Sound.{are_distinct}

-- ---- texts
pub same_text : (a b : List ℕ) → bytes_eq a b ≡ true → a ≡ b
same_text a b h = (bytes_eq-Decides a b).0 h

pub text_same : (a b : List ℕ) → a ≡ b → bytes_eq a b ≡ true
text_same a b h = (bytes_eq-Decides a b).1 h

-- ---- the first thing that passes a test
pub first_found : {X : Type 0} (p : X → Bool) (xs : List X) → list_any p xs ≡ true → (x : X) × (find p xs ≡ Some x)
first_found p [] h = cc
first_found p (x ∷ xs) h = first_or (p x) x (find p xs) (list_any p xs) (first_found p xs) h
  where
    first_or : {X : Type 0} (passes : Bool) (x : X) (others : Option X) (more : Bool) → (more ≡ true → (y : X) × (others ≡ Some y)) → (passes || more) ≡ true
        → (y : X) × (cond passes (Some x) others ≡ Some y)
    first_or true x others more found h = (x, refl)
    first_or false x others more found h = found h

pub first_passes : {X : Type 0} (p : X → Bool) (xs : List X) (x : X) → find p xs ≡ Some x → p x ≡ true
first_passes p [] x h = cc
first_passes p (y ∷ xs) x h = passes_or (p y) y x (find p xs) p refl (first_passes p xs x) h
  where
    passes_or : {X : Type 0} (passes : Bool) (y x : X) (others : Option X) (p : X → Bool) → p y ≡ passes → (others ≡ Some x → p x ≡ true) → cond passes (Some y) others ≡ Some x → p x ≡ true
    passes_or true y x others p is more h = let same : y ≡ x = cc in ap p (sym same) ∙ is
    passes_or false y x others p is more h = more h

-- it stands at the place that is found
pub first_placed : {X : Type 0} (p : X → Bool) (xs : List X) (x : X) → find p xs ≡ Some x → slice_get xs (position_or_len p xs) ≡ Some x
first_placed p xs x h = sym (find_at p xs) ∙ h

-- where something passes, that place is within
pub place_there : {X : Type 0} (p : X → Bool) (xs : List X) → list_any p xs ≡ true → position_or_len p xs < length xs
place_there p xs h =
    let first = first_found p xs h in slice_get_within xs (position_or_len p xs) first.0 (first_placed p xs first.0 first.1)

-- a place that is found is within
pub place_within : {X : Type 0} (p : X → Bool) (xs : List X) (j : ℕ) → position p xs ≡ Some j → j < length xs
place_within p [] j h = absurd (cc)
place_within p (x ∷ xs) j h = (position-Some p (x ∷ xs) j x h).0

-- ---- what is made of each thing
module _ {X Y : Type 0} (f : X → Y) (q : Y → Bool) where
  pub any_made : (xs : List X) → list_any q (map f xs) ≡ list_any (λ x. q (f x)) xs
  any_made [] = refl
  any_made (x ∷ xs) = ap (λ (b : Bool). q (f x) || b) (any_made xs)

  pub first_made : (xs : List X) → find q (map f xs) ≡ option_map f (find (λ x. q (f x)) xs)
  first_made [] = refl
  first_made (x ∷ xs) = ap (λ (o : Option Y). cond (q (f x)) (Some (f x)) o) (first_made xs) ∙ made_or (q (f x)) x (find (λ x. q (f x)) xs)
    where
      made_or : (b : Bool) (x : X) (others : Option X) → cond b (Some (f x)) (option_map f others) ≡ option_map f (cond b (Some x) others)
      made_or true x others = refl
      made_or false x others = refl

-- what each thing passes, what is made of it passes
pub all_made : {X Y : Type 0} (p : X → Bool) (f : X → Y) (q : Y → Bool) → ((x : X) → p x ≡ true → q (f x) ≡ true) → (xs : List X) → list_all p xs ≡ true → list_all q (map f xs) ≡ true
all_made p f q more [] h = refl
all_made p f q more (x ∷ xs) h =
    let parts = and_parts (p x) (list_all p xs) h in and_from (q (f x)) (list_all q (map f xs)) (more x parts.0) (all_made p f q more xs parts.1)

-- what some thing passes, what is made of it passes
pub some_made : {X Y : Type 0} (p : X → Bool) (f : X → Y) (q : Y → Bool) → ((x : X) → p x ≡ true → q (f x) ≡ true) → (xs : List X) → list_any p xs ≡ true → list_any q (map f xs) ≡ true
some_made p f q more [] h = cc
some_made p f q more (x ∷ xs) h = either (p x) (list_any p xs) (q (f x)) (list_any q (map f xs)) (more x) (some_made p f q more xs) h
  where
    either : (a b c d : Bool) → (a ≡ true → c ≡ true) → (b ≡ true → d ≡ true) → (a || b) ≡ true → (c || d) ≡ true
    either true b true d here rest h = refl
    either true b false d here rest h = let w : false ≡ true = here refl in cc
    either false b true d here rest h = refl
    either false b false d here rest h = rest h

-- the thing that is found, where what is made of it passes
pub any_found : {X Y : Type 0} (p : X → Bool) (f : X → Y) (q : Y → Bool) (xs : List X) (x : X) → find p xs ≡ Some x → q (f x) ≡ true → list_any q (map f xs) ≡ true
any_found p f q [] x h passes = cc
any_found p f q (y ∷ xs) x h passes = found_or (p y) y x (find p xs) f q (list_any q (map f xs)) (λ rest. any_found p f q xs x rest passes) passes h
  where
    found_or : {X Y : Type 0} (b : Bool) (y x : X) (others : Option X) (f : X → Y) (q : Y → Bool) (more : Bool) → (others ≡ Some x → more ≡ true) → q (f x) ≡ true
        → cond b (Some y) others ≡ Some x → (q (f y) || more) ≡ true
    found_or true y x others f q more rest passes h =
        let same : y ≡ x = cc in let here : q (f y) ≡ true = ap q (ap f same) ∙ passes in ap (λ (c : Bool). c || more) here
    found_or false y x others f q more rest passes h = right (q (f y)) more (rest h)
      where
        right : (a b : Bool) → b ≡ true → (a || b) ≡ true
        right true b h = refl
        right false b h = h

-- what is made of things that differ differs, where things that make the same are the same
pub distinct_made : {Y : Type 0} (good : Data → Bool) (f : Data → Y) (same : Data → Data → Bool) (made : Y → Y → Bool)
    → ((a b : Data) → good a ≡ true → good b ≡ true → made (f a) (f b) ≡ true → same a b ≡ true)
    → (ds : List Data) → list_all good ds ≡ true → are_apart same ds ≡ true → are_distinct made (map f ds) ≡ true
distinct_made good f same made back [] all apart = refl
distinct_made good f same made back (d ∷ ds) all apart =
    let goods = and_parts (good d) (list_all good ds) all in
    let aparts = and_parts (not (list_any (same d) ds)) (are_apart same ds) apart in
    and_from (not (list_any (made (f d)) (map f ds))) (are_distinct made (map f ds))
    (none_made good f (same d) (made (f d)) (λ b g m. back d b goods.0 g m) ds goods.1 aparts.0)
    (distinct_made good f same made back ds goods.1 aparts.1)
  where
    none_or : (a b c d : Bool) → (c ≡ true → a ≡ true) → (not b ≡ true → not d ≡ true) → not (a || b) ≡ true → not (c || d) ≡ true
    none_or true b c d here rest h = cc
    none_or false b true d here rest h = let w : false ≡ true = here refl in cc
    none_or false b false d here rest h = rest h

    none_made : {Y : Type 0} (good : Data → Bool) (f : Data → Y) (p : Data → Bool) (q : Y → Bool) → ((b : Data) → good b ≡ true → q (f b) ≡ true → p b ≡ true)
        → (ds : List Data) → list_all good ds ≡ true → not (list_any p ds) ≡ true → not (list_any q (map f ds)) ≡ true
    none_made good f p q back [] all none = refl
    none_made good f p q back (d ∷ ds) all none =
        let goods = and_parts (good d) (list_all good ds) all in
        none_or (p d) (list_any p ds) (q (f d)) (list_any q (map f ds)) (back d goods.0) (none_made good f p q back ds goods.1) none
