-- What is known of the choices that a document states, where no rule is failed.
use Rattle.std.proofs.Common.{◌≡◌, ℕ, ◌+◌, ◌<◌, ◌≤◌, ◌==◌, codes, List, [], ◌∷◌, Bool, true, false, ◌&&◌, nat_lt, nat_le, length, map, Option, None, Some, if◌then◌else◌, option_map, refl, sym, ap, ◌∙◌, arith}
use Rattle.std.specs.Prelude.{position}
use Rattle.std.specs.List.{list_all, after_first, before_first}
use Rattle.std.specs.Option.{option_or, some_prefix}
use Rattle.std.specs.Str.{bytes_eq}
use Rattle.std.proofs.lemmas.Bool.{and_from, and_parts, le-leb, lt-ltb}
use Rattle.anti_ids.specs.Ascii.{dot}
use Rattle.anti_ids.specs.List.{Listed}
use Rattle.anti_ids.specs.declared.limits.TheConstants.{MOST_COUNTED}
use Rattle.anti_ids.proofs.Decimals.{decimal_back}
use Rattle.anti_lang.specs.Words.{words}
use Rattle.toml.specs.Data.{Data}
use Rattle.anti_rules.specs.Trees.{text_of}
use Rattle.anti_app.specs.declared.app.App.{App}
use Rattle.anti_app.specs.declared.app.Choice.{Choice}
use Rattle.anti_app.specs.declared.app.Choice.TheVariants.{Take, Repost, Pull, Repull, Ship, Again, Go, Finish}
use Rattle.anti_app.specs.Objects.{inbox_number}
use Rattle.anti_app.specs.Chosen.{number_of, store_named, service_named, sub_named, object_named, applied, if_both, go_to, part_of, to_bring, choice_in, choice_of}
use Rattle.anti_app.specs.Sound.{is_countable, is_part, is_shipment, is_sound_choice}
use Rattle.anti_app.proofs.Lookups.{place_within}

-- ---- numbers
-- a number of a choice is in its range
number_sound : (word : List ℕ) (n : ℕ) → number_of word ≡ Some n → is_countable n ≡ true
unfolding number_of
number_sound word n h =
    let back = decimal_back 1 MOST_COUNTED word n h in
    and_from (nat_le 1 n) (nat_le n MOST_COUNTED) (le-leb 1 n back.0) (le-leb n MOST_COUNTED back.1)

-- ---- the parts of a choice
one_there : {T : Type 0} (make : T → Choice) (found : Option T) (choice : Choice) → option_map make found ≡ Some choice → (x : T) × (found ≡ Some x) × (make x ≡ choice)
one_there make None choice h = cc
one_there make (Some x) choice h = let same : make x ≡ choice = cc in (x, refl, same)

both_there : (make : ℕ → ℕ → Choice) (first second : Option ℕ) (choice : Choice) → if_both make first second ≡ Some choice
    → (a : ℕ) × (b : ℕ) × (first ≡ Some a) × (second ≡ Some b) × (make a b ≡ choice)
both_there make None second choice h = cc
both_there make (Some a) None choice h = cc
both_there make (Some a) (Some b) choice h = let same : make a b ≡ choice = cc in (a, b, refl, refl, same)

-- a part that is stated is in its range
part_sound : (words : List (List ℕ)) (part : Option ℕ) → part_of words ≡ Some part → is_part part ≡ true
part_sound [] None h = refl
part_sound [] (Some p) h = absurd (cc)
part_sound (word ∷ []) part h = of_number (number_of word) part (number_sound word) h
  where
    of_number : (number part : Option ℕ) → ((n : ℕ) → number ≡ Some n → is_countable n ≡ true)
        → option_map (λ (n : ℕ). Some n) number ≡ Some part → is_part part ≡ true
    of_number None part counts h = cc
    of_number (Some n) None counts h = absurd (cc)
    of_number (Some n) (Some p) counts h = let same : n ≡ p = cc in ap is_countable (sym same) ∙ counts n refl
part_sound (word ∷ other ∷ more) part h = absurd (cc)

-- as many choices as there are before the first that is none
pub prefix_short : {T : Type 0} (found : List (Option T)) → length (some_prefix found) ≤ length found
prefix_short [] = omega arith
prefix_short (None ∷ found) = omega arith
prefix_short (Some x ∷ found) = let rest = prefix_short found in omega arith

-- a choice that an application's choice may be
abbrev pub IsSoundIn : App → Choice → Type 0
IsSoundIn app choice = is_sound_choice app choice ≡ true

module _ (app : App) where
  sound_same : (made choice : Choice) → made ≡ choice → IsSoundIn app made → IsSoundIn app choice
  sound_same made choice same sound = ap (is_sound_choice app) (sym same) ∙ sound

  -- what is found by its name is there
  store_below : (name : List ℕ) (i : ℕ) → store_named app name ≡ Some i → i < length app.stores.items
  unfolding store_named
  store_below name i at = place_within (λ store. bytes_eq store.name name) app.stores.items i at

  service_below : (name : List ℕ) (i : ℕ) → service_named app name ≡ Some i → i < length app.services.items
  unfolding service_named
  service_below name i at = place_within (λ service. bytes_eq service.name name) app.services.items i at

  sub_below : (name : List ℕ) (i : ℕ) → sub_named app name ≡ Some i → i < length app.subs.items
  unfolding sub_named
  sub_below name i at = place_within (λ sub. bytes_eq sub.name name) app.subs.items i at

  -- the number of an object is below the number of stores and services
  object_below : (name : List ℕ) (i : ℕ) → object_named app name ≡ Some i → i < length app.stores.items + length app.services.items
  object_below name i h = below_or (store_named app name) (service_named app name) i (store_below name) (service_below name) h
    where
      below_or : (store service : Option ℕ) (i : ℕ) → ((j : ℕ) → store ≡ Some j → j < length app.stores.items) → ((j : ℕ) → service ≡ Some j → j < length app.services.items)
          → option_or store (option_map (inbox_number app) service) ≡ Some i → i < length app.stores.items + length app.services.items
      below_or (Some j) service i low near h = let same : j ≡ i = cc in let less : j < length app.stores.items = low j refl in omega arith
      below_or None (Some j) i low near h =
          let same : length app.stores.items + j ≡ i = cc in let less : j < length app.services.items = near j refl in omega arith
      below_or None None i low near h = cc

  -- a choice of a thing that is there, and of a number in its range
  both_sound : (make : ℕ → ℕ → Choice) (things : ℕ) (thing : Option ℕ) (word : List ℕ) (choice : Choice)
      → ((i : ℕ) → thing ≡ Some i → i < things)
      → ((i n : ℕ) → (nat_lt i things && is_countable n) ≡ true → IsSoundIn app (make i n))
      → if_both make thing (number_of word) ≡ Some choice → IsSoundIn app choice
  both_sound make things thing word choice below sound h =
      let both = both_there make thing (number_of word) choice h in
      sound_same (make both.0 both.1) choice both.4
      (sound both.0 both.1 (and_from (nat_lt both.0 things) (is_countable both.1) (lt-ltb both.0 things (below both.0 both.2)) (number_sound word both.1 both.3)))

  -- a choice of a store, a region, a version and a part
  brought_sound : (make : ℕ → ℕ → ℕ → Option ℕ → Choice) (s r v : List ℕ) (part : List (List ℕ)) (choice : Choice)
      → ((store region version : ℕ) (part : Option ℕ) → is_shipment (length app.regions.items) (length app.stores.items) store region version part ≡ true
      → IsSoundIn app (make store region version part))
      → to_bring make app s r v part ≡ Some choice → IsSoundIn app choice
  unfolding to_bring
  brought_sound make s r v part choice sound h =
      parts_sound (store_named app s) (position (λ region. bytes_eq region r) app.regions.items) (number_of v) (part_of part)
      (store_below s) (λ i at. place_within (λ region. bytes_eq region r) app.regions.items i at) (number_sound v) (part_sound part) h
    where
      parts_sound : (store region version : Option ℕ) (part : Option (Option ℕ))
          → ((i : ℕ) → store ≡ Some i → i < length app.stores.items) → ((i : ℕ) → region ≡ Some i → i < length app.regions.items)
          → ((i : ℕ) → version ≡ Some i → is_countable i ≡ true) → ((p : Option ℕ) → part ≡ Some p → is_part p ≡ true)
          → applied (applied (if_both make store region) version) part ≡ Some choice → IsSoundIn app choice
      parts_sound None region version part low near count good h = cc
      parts_sound (Some i) None version part low near count good h = cc
      parts_sound (Some i) (Some j) None part low near count good h = cc
      parts_sound (Some i) (Some j) (Some k) None low near count good h = cc
      parts_sound (Some i) (Some j) (Some k) (Some p) low near count good h =
          let same : make i j k p ≡ choice = cc in
          sound_same (make i j k p) choice same
          (sound i j k p (and_from _ _ (lt-ltb i _ (low i refl)) (and_from _ _ (lt-ltb j _ (near j refl)) (and_from _ _ (count k refl) (good p refl)))))

  go_sound : (mark : List ℕ) (choice : Choice) → go_to app mark ≡ Some choice → IsSoundIn app choice
  unfolding go_to is_sound_choice
  go_sound mark choice h =
      both_sound Go (length app.stores.items + length app.services.items) (object_named app (before_first (λ b. b == dot) mark)) (after_first (λ b. b == dot) mark) choice
      (object_below (before_first (λ b. b == dot) mark)) (λ i n good. good) h

  -- ---- a choice
  either : (here : Bool) (one other : Option Choice) (choice : Choice) → (one ≡ Some choice → IsSoundIn app choice) → (other ≡ Some choice → IsSoundIn app choice)
      → (if here then one else other) ≡ Some choice → IsSoundIn app choice
  either true one other choice is or h = is h
  either false one other choice is or h = or h

  nothing : (choice : Choice) → (let none : Option Choice = None in none ≡ Some choice) → IsSoundIn app choice
  nothing choice h = absurd (cc)

  words_sound : (ws : List (List ℕ)) (choice : Choice) → choice_in app ws ≡ Some choice → IsSoundIn app choice
  unfolding choice_in is_sound_choice
  words_sound [] choice h = nothing choice h
  words_sound (what ∷ []) choice h =
      either (bytes_eq what (codes "finish")) (Some Finish) None choice (λ is. let same : Finish ≡ choice = cc in sound_same Finish choice same refl) (nothing choice) h
  words_sound (what ∷ name ∷ []) choice h =
      either (bytes_eq what (codes "pull")) _ _ choice
      (λ is. let one = one_there Pull (sub_named app name) choice is in sound_same (Pull one.0) choice one.2 (lt-ltb one.0 _ (sub_below name one.0 one.1)))
      (either (bytes_eq what (codes "go")) _ _ choice (go_sound name choice) (nothing choice)) h
  words_sound (what ∷ name ∷ n ∷ []) choice h =
      either (bytes_eq what (codes "take")) _ _ choice
      (both_sound Take (length app.services.items) (service_named app name) n choice (service_below name) (λ i n good. good))
      (either (bytes_eq what (codes "repost")) _ _ choice
      (both_sound Repost (length app.services.items) (service_named app name) n choice (service_below name) (λ i n good. good))
      (either (bytes_eq what (codes "repull")) _ _ choice
      (both_sound Repull (length app.subs.items) (sub_named app name) n choice (sub_below name) (λ i n good. good))
      (nothing choice))) h
  words_sound (what ∷ s ∷ r ∷ v ∷ part) choice h =
      either (bytes_eq what (codes "ship")) _ _ choice (brought_sound Ship s r v part choice (λ store region version part good. good))
      (either (bytes_eq what (codes "again")) _ _ choice (brought_sound Again s r v part choice (λ store region version part good. good)) (nothing choice)) h

  -- ---- all choices
  first_sound : (first : Option Choice) (others : List (Option Choice)) → ((choice : Choice) → first ≡ Some choice → IsSoundIn app choice)
      → list_all (is_sound_choice app) (some_prefix others) ≡ true → list_all (is_sound_choice app) (some_prefix (first ∷ others)) ≡ true
  first_sound None others is rest = refl
  first_sound (Some choice) others is rest = and_from _ _ (is choice refl) rest

  -- those that are stated before the first that is none are sound
  pub prefix_sound : (ds : List Data) → list_all (is_sound_choice app) (some_prefix (map (choice_of app) ds)) ≡ true
  unfolding choice_of
  prefix_sound [] = refl
  prefix_sound (d ∷ ds) = first_sound (choice_of app d) (map (choice_of app) ds) (λ choice is. words_sound (words (text_of d)) choice is) (prefix_sound ds)

-- Which choices an application lists changes nothing of whether one is sound in it.
list_no_matter : (app : App) (choices : Listed Choice) (choice : Choice) → IsSoundIn app choice
    → IsSoundIn (record app { choices = choices }) choice
unfolding is_sound_choice
list_no_matter app choices (Take service nth) h = h
list_no_matter app choices (Repost service number) h = h
list_no_matter app choices (Pull sub) h = h
list_no_matter app choices (Repull sub version) h = h
list_no_matter app choices (Ship store region version part) h = h
list_no_matter app choices (Again store region version part) h = h
list_no_matter app choices (Go object place) h = h
list_no_matter app choices Finish h = h

pub sound_listed : (app : App) (choices : Listed Choice) (more : List Choice) → list_all (is_sound_choice app) more ≡ true
    → list_all (is_sound_choice (record app { choices = choices })) more ≡ true
sound_listed app choices [] h = refl
sound_listed app choices (choice ∷ more) h =
    let parts = and_parts (is_sound_choice app choice) (list_all (is_sound_choice app) more) h in
    and_from _ _ (list_no_matter app choices choice parts.0) (sound_listed app choices more parts.1)
