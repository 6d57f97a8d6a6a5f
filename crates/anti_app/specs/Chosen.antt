-- The choices that a document lists.
use Rattle.std.specs.Prelude.{ℕ, ◌==◌, codes, List, [], ◌∷◌, Option, Some, None, option_map, position, if◌then◌else◌}
use Rattle.std.specs.List.{after_first, before_first}
use Rattle.std.specs.Option.{option_and_then, option_or}
use Rattle.std.specs.Str.{bytes_eq}
use Rattle.anti_ids.specs.Ascii.{dot}
use Rattle.anti_ids.specs.Decimals.{decimal_in}
use Rattle.anti_ids.specs.declared.limits.TheConstants.{MOST_COUNTED}
use Rattle.anti_lang.specs.Words.{words}
use Rattle.toml.specs.Data.{Data}
use Rattle.anti_rules.specs.Trees.{text_of}
use Rattle.anti_app.specs.declared.app.App.{App}
use Rattle.anti_app.specs.declared.app.Choice.{Choice}
use Rattle.anti_app.specs.declared.app.Choice.TheVariants.{Take, Repost, Pull, Repull, Ship, Again, Go, Finish}
use Rattle.anti_app.specs.Objects.{inbox_number}

-- ---- what a word of a choice states
-- the number that it is, of those that count from 1
unfoldable pub number_of : List ℕ → Option ℕ
number_of word = decimal_in 1 MOST_COUNTED word

-- the number of the store, the service or the subscription that it names
unfoldable pub store_named : App → List ℕ → Option ℕ
store_named app name = position (λ store. bytes_eq store.name name) app.stores.items

unfoldable pub service_named : App → List ℕ → Option ℕ
service_named app name = position (λ service. bytes_eq service.name name) app.services.items

unfoldable pub sub_named : App → List ℕ → Option ℕ
sub_named app name = position (λ sub. bytes_eq sub.name name) app.subs.items

-- the number of the object that it names: a store, or else the inbox of a service
abbrev pub object_named : App → List ℕ → Option ℕ
object_named app name = option_or (store_named app name) (option_map (inbox_number app) (service_named app name))

-- ---- choices
-- what is made of a value, where both what makes it and the value are there
abbrev pub applied : {A B : Type 0} → Option (A → B) → Option A → Option B
applied make value = option_and_then (λ f. option_map f value) make

-- what is made of two numbers, where both are there
abbrev pub if_both : {T : Type 0} → (ℕ → ℕ → T) → Option ℕ → Option ℕ → Option T
if_both make first second = applied (option_map make first) second

-- the choice to go on, of a word: the name of an object, a dot and the place of a birth; no name and no number has a dot
unfoldable pub go_to : App → List ℕ → Option Choice
go_to app mark = if_both Go (object_named app (before_first (λ b. b == dot) mark)) (number_of (after_first (λ b. b == dot) mark))

-- the part of a version that the words behind it state: none, or a number
abbrev pub part_of : List (List ℕ) → Option (Option ℕ)
part_of [] = Some None
part_of (p ∷ []) = option_map Some (number_of p)
part_of _ = None

-- the choice to bring a version of a store to a region, or a part of it where one is given
unfoldable pub to_bring : (ℕ → ℕ → ℕ → Option ℕ → Choice) → App → List ℕ → List ℕ → List ℕ → List (List ℕ) → Option Choice
to_bring make app s r v part =
    applied (applied (if_both make (store_named app s) (position (λ region. bytes_eq region r) app.regions.items)) (number_of v)) (part_of part)

-- The choice that words state. The first of them, and how many they are, say what the others are.
unfoldable pub choice_in : App → List (List ℕ) → Option Choice
choice_in app [] = None
choice_in app (what ∷ []) = if bytes_eq what (codes "finish") then Some Finish else None
choice_in app (what ∷ name ∷ []) =
    if bytes_eq what (codes "pull") then option_map Pull (sub_named app name)
    else if bytes_eq what (codes "go") then go_to app name else None
choice_in app (what ∷ name ∷ n ∷ []) =
    if bytes_eq what (codes "take") then if_both Take (service_named app name) (number_of n)
    else if bytes_eq what (codes "repost") then if_both Repost (service_named app name) (number_of n)
    else if bytes_eq what (codes "repull") then if_both Repull (sub_named app name) (number_of n) else None
choice_in app (what ∷ s ∷ r ∷ v ∷ part) =
    if bytes_eq what (codes "ship") then to_bring Ship app s r v part
    else if bytes_eq what (codes "again") then to_bring Again app s r v part else None

-- The choice that a text states, where it has one of the forms and names what is there.
unfoldable pub choice_of : App → Data → Option Choice
choice_of app d = choice_in app (words (text_of d))
