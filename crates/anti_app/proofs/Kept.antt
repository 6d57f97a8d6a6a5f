-- What no failed rule says of the things of a part, and of what is made of them.
use Rattle.std.proofs.Common.{◌≡◌, ℕ, ◌+◌, ◌<◌, ℤ, pos, negsuc, List, [], ◌∷◌, ◌++◌, Bool, true, false, not, ◌&&◌, ◌||◌, nat_le, length, map, drop, get_or, Option, None, Some, is_some, refl, sym, ap, ◌∙◌}
use Rattle.std.specs.List.{list_all}
use Rattle.std.specs.Prelude.{int_le}
use Rattle.std.specs.Option.{option_and_then, option_map_or}
use Rattle.std.specs.Str.{bytes_eq}
use Rattle.std.proofs.lemmas.Bool.{and_parts, and_from}
use Rattle.std.proofs.lemmas.List.{length-map, at_drop_more}
use Rattle.toml.specs.Data.{Data, Members, get_member, as_integer}
use Rattle.anti_rules.specs.Trees.{text_of, is_among, are_distinct as texts_differ}
use Rattle.anti_rules.specs.Keys.{TableKey, has_count, has_range}
use Rattle.anti_rules.specs.declared.table_keys.KeyKind.TheVariants.{Number}
use Rattle.anti_rules.specs.Rules.{rule_line}
use Rattle.anti_rules.specs.declared.rule.Rule.{Rule}
use Rattle.anti_rules.specs.declared.place.Part.{Part}
use Rattle.anti_rules.proofs.Holds.{NoneFails, are_apart}
use Rattle.anti_app.specs.Parts.{number_or}
use Rattle.anti_app.proofs.Lookups.{all_made}

-- A thing of a part that fails no rule, behind earlier ones.
abbrev pub FailsNone : Members → List ℕ → Part → List Data → Data → Type 0
FailsNone doc home part earlier d = (rule : Rule) → rule_line rule doc home part earlier d ≡ None

-- Some things of a part that fail no rule.
abbrev pub FailNone : Members → List ℕ → Part → List Data → List Data → Type 0
FailNone doc home part earlier ds = (rule : Rule) → NoneFails (rule_line rule doc home part) earlier ds

-- what a thing that fails no rule passes, each of these passes
pub each_fit : (doc : Members) (home : List ℕ) (part : Part) (fit : Data → Bool)
    → ((earlier : List Data) (d : Data) → FailsNone doc home part earlier d → fit d ≡ true)
    → (earlier ds : List Data) → FailNone doc home part earlier ds → list_all fit ds ≡ true
each_fit doc home part fit is earlier [] none = refl
each_fit doc home part fit is earlier (d ∷ ds) none =
    and_from (fit d) (list_all fit ds) (is earlier d (λ rule. (none rule).0)) (each_fit doc home part fit is (earlier ++ d ∷ []) ds (λ rule. (none rule).1))

-- what is made of things that fail no rule is sound
pub each_sound : {Y : Type 0} (doc : Members) (home : List ℕ) (part : Part) (f : Data → Y) (sound : Y → Bool)
    → ((earlier : List Data) (d : Data) → FailsNone doc home part earlier d → sound (f d) ≡ true)
    → (earlier ds : List Data) → FailNone doc home part earlier ds → list_all sound (map f ds) ≡ true
each_sound doc home part f sound is earlier ds none =
    all_made (λ d. sound (f d)) f sound (λ d good. good) ds (each_fit doc home part (λ d. sound (f d)) is earlier ds none)

-- what each thing of a list passes, one by one
abbrev pub AllTrue : {T : Type 0} → (T → Bool) → List T → Type 0
AllTrue test [] = Unit {0}
AllTrue test (x ∷ xs) = (test x ≡ true) × AllTrue test xs

pub each_true : {T : Type 0} (test : T → Bool) (xs : List T) → list_all test xs ≡ true → AllTrue test xs
each_true test [] h = tt
each_true test (x ∷ xs) h = let parts = and_parts (test x) (list_all test xs) h in (parts.0, each_true test xs parts.1)

-- what the rules on counts, on keys without a default and on ranges ask of each key of a table
abbrev pub counts_at : Members → TableKey → Bool
counts_at ms key = option_map_or (has_count key.kind) (get_member key.name ms) true

abbrev pub is_there : Members → TableKey → Bool
is_there ms key = not key.is_needed || is_some (get_member key.name ms)

abbrev pub ranges_at : Members → TableKey → Bool
ranges_at ms key = option_map_or (has_range key.kind) (get_member key.name ms) true

-- texts that differ, in the two forms
pub texts_apart : (ds : List Data) → texts_differ ds ≡ true → are_apart (λ e d. bytes_eq (text_of d) (text_of e)) ds ≡ true
texts_apart [] h = refl
texts_apart (d ∷ ds) h =
    let parts = and_parts (not (is_among (text_of d) ds)) (texts_differ ds) h in
    and_from (not (is_among (text_of d) ds)) (are_apart (λ e d. bytes_eq (text_of d) (text_of e)) ds) parts.0 (texts_apart ds parts.1)

-- a test of a length, of what is made
pub length_made : {X Y : Type 0} (f : X → Y) (test : ℕ → Bool) (xs : List X) → test (length xs) ≡ true → test (length (map f xs)) ≡ true
length_made f test xs h = ap test (length-map xs f) ∙ h

-- a number that is found in a range, where the default is in it
pub in_range : (least most default : ℕ) → (nat_le least default && nat_le default most) ≡ true → (o : Option Data)
    → option_map_or (has_range (Number (pos least) (pos most))) o true ≡ true
    → (nat_le least (number_or default (option_and_then as_integer o)) && nat_le (number_or default (option_and_then as_integer o)) most) ≡ true
in_range least most default fits None h = fits
in_range least most default fits (Some d) h = of_integer (as_integer d) h
  where
    of_integer : (found : Option ℤ) → option_map_or (λ number. int_le (pos least) number && int_le number (pos most)) found true ≡ true
        → (nat_le least (number_or default found) && nat_le (number_or default found) most) ≡ true
    of_integer None h = fits
    of_integer (Some (pos n)) h = h
    of_integer (Some (negsuc n)) h = fits

-- what is wanted of something that is there
pub some_passes : {T : Type 0} (p : T → Bool) (o : Option T) → option_map_or p o false ≡ true → (x : T) × (o ≡ Some x) × (p x ≡ true)
some_passes p None h = cc
some_passes p (Some x) h = (x, refl, h)

-- what one test says of each thing, another that follows says
pub each_passes : {T : Type 0} (p q : T → Bool) → ((x : T) → p x ≡ true → q x ≡ true) → (xs : List T) → list_all p xs ≡ true → list_all q xs ≡ true
each_passes p q more [] all = refl
each_passes p q more (x ∷ xs) all =
    let parts = and_parts (p x) (list_all p xs) all in and_from (q x) (list_all q xs) (more x parts.0) (each_passes p q more xs parts.1)

-- what passes two tests
pub both_pass : {T : Type 0} (p q : T → Bool) (xs : List T) → list_all p xs ≡ true → list_all q xs ≡ true → list_all (λ x. p x && q x) xs ≡ true
both_pass p q [] one other = refl
both_pass p q (x ∷ xs) one other =
    let these = and_parts (p x) (list_all p xs) one in let those = and_parts (q x) (list_all q xs) other in
    and_from (p x && q x) (list_all (λ x. p x && q x) xs) (and_from (p x) (q x) these.0 those.0) (both_pass p q xs these.1 those.1)

-- what each thing that is left passes, each that is left behind the next passes
pub left_pass : {V : Type 0} (view : V → Data) (test : Data → Bool) (values : List V) (i : ℕ) (d : V) → i < length values
    → list_all test (map view (drop i values)) ≡ true → list_all test (map view (drop (i + 1) values)) ≡ true
left_pass view test values i d within left =
    let split : list_all test (map view (drop i values)) ≡ (test (view (get_or values i d)) && list_all test (map view (drop (i + 1) values))) =
    at_drop_more (λ xs. list_all test (map view xs)) values i d within in
    (and_parts (test (view (get_or values i d))) (list_all test (map view (drop (i + 1) values))) (sym split ∙ left)).1
