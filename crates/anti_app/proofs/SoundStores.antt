-- What a document without a breach says of its stores.
use Rattle.std.proofs.Common.{◌≡◌, ℕ, pos, ◌^◌, ◌<◌, ◌≤◌, codes, List, [], Bool, true, false, not, ◌&&◌, ◌==◌, nat_eq, nat_lt, nat_le, length, map, Option, None, Some, option_map, slice_get, refl, sym, ap, ◌∙◌, arith}
use Rattle.std.specs.Option.{option_and_then, option_map_or}
use Rattle.std.specs.Str.{bytes_eq}
use Rattle.std.proofs.lemmas.Bool.{and_parts, and_from, false≢true, not-true, eq-eqb, eqb-true, leb-true, lt-ltb}
use Rattle.std.proofs.lemmas.List.{length-map}
use Rattle.std.specs.List.{list_all, list_any}
use Rattle.anti_ids.specs.declared.limits.TheConstants.{MOST_REPLICAS, MOST_ROOM, MOST_STORES, MOST_TRIES}
use Rattle.anti_ids.specs.Names.{is_plain}
use Rattle.anti_kind.specs.declared.store_kind.StoreKind.{StoreKind}
use Rattle.toml.specs.Data.{Data, Members, get_member, as_table, as_integer}
use Rattle.anti_kind.specs.declared.store_kind.Facts.{Facts}
use Rattle.anti_kind.specs.Kinds.{facts_of, kind_named, kind_of}
use Rattle.anti_rules.specs.StoreFacts.{kind_is}
use Rattle.anti_rules.specs.Trees.{text_of, text_at, things_at, things_in, member_in, has_text, is_among, are_among, are_distinct as texts_differ, name_in, is_named, named, stores_in, regions_in}
use Rattle.anti_rules.specs.Keys.{keys_of, all_fit, has_type, has_count, has_range, are_there}
use Rattle.anti_rules.specs.Statements.{has_store, has_replica, near}
use Rattle.anti_rules.specs.Rules.{rule_line}
use Rattle.anti_rules.specs.Order.{first_breach}
use Rattle.anti_rules.specs.declared.rule.Rule.TheVariants.{There, Typed, Counted, Ranged, PlainNames, DistinctObjects, Replicas}
use Rattle.anti_rules.specs.declared.place.Part.TheVariants.{Store}
use Rattle.anti_rules.specs.declared.table_keys.KeyKind.TheVariants.{Number}
use Rattle.anti_rules.proofs.Holds.{each_kept, wanted, are_apart, each_apart, tabled, shaped, few_things, some_things, stores_plain}
use Rattle.anti_app.specs.Parts.{number_or, regions_of, store_of, stores_of}
use Rattle.anti_app.specs.Places.{region_place, store_place}
use Rattle.anti_app.specs.inner.Fit.{is_fit_store}
use Rattle.anti_app.specs.Sound.{are_distinct, is_few, is_sound_store, is_stored, serves, is_near, are_sound_stores}
use Rattle.anti_app.proofs.Lookups.{same_text, text_same, first_passes, first_made, first_placed, any_made, all_made, some_made, any_found, distinct_made}
use Rattle.anti_app.proofs.Kept.{FailsNone, each_fit, each_sound, each_true, counts_at, is_there, ranges_at, in_range, texts_apart, length_made}
use Rattle.anti_app.proofs.SoundRegions.{counted, region_same, region_below}

-- what holds of the kind that a word names
pub kind_has : (test : Facts → Bool) (word : List ℕ) → option_map_or (λ kind. test (facts_of kind)) (kind_named word) false ≡ true → test (facts_of (kind_of word)) ≡ true
kind_has test word h = by_kind (kind_named word) h
  where
    by_kind : (kind : Option StoreKind) → option_map_or (λ kind. test (facts_of kind)) kind false ≡ true → test (facts_of (option_map_or (λ kind. kind) kind (kind_of []))) ≡ true
    by_kind None h = absurd (false≢true h)
    by_kind (Some kind) h = h

-- a store that is near: it is there, it has a replica in the region, and its kind passes the test
near_parts : (home : List ℕ) (test : Facts → Bool) (found : Option Data) → option_map_or (near test home) found false ≡ true
    → (d : Data) × (found ≡ Some d) × (has_replica home d ≡ true) × (kind_is test d ≡ true)
near_parts home test None h = absurd (false≢true h)
near_parts home test (Some d) h = let both = and_parts (has_replica home d) (kind_is test d) h in (d, refl, both.0, both.1)

module _ (doc : Members) (fine : first_breach doc ≡ None) where
  -- the number of the region that a thing is
  abbrev number_at : Data → ℕ
  number_at d = region_place (regions_of doc) (text_of d)

  -- how often a store gives a message out, and how many keys a cache of it holds
  abbrev tries_at : Data → ℕ
  tries_at d = number_or 3 (option_and_then as_integer (member_in (codes "tries") d))

  abbrev room_at : Data → ℕ
  room_at d = number_or 8 (option_and_then as_integer (member_in (codes "room") d))

  store_table : (earlier : List Data) (d : Data) → FailsNone doc [] Store earlier d → (ms : Members) × (as_table d ≡ Some ms) × (all_fit has_type (keys_of Store) ms ≡ true)
  store_table earlier d none = tabled (all_fit has_type (keys_of Store)) (as_table d) (none Typed)

  -- the number of its replicas
  replicas_few : (earlier : List Data) (d : Data) → FailsNone doc [] Store earlier d → is_few MOST_REPLICAS (length (things_in (codes "replicas") d)) ≡ true
  replicas_few earlier d none =
      let table = store_table earlier d none in
      let ms : Members = table.0 in
      let counts = each_true (counts_at ms) (keys_of Store) (shaped (all_fit has_count (keys_of Store)) (as_table d) ms table.1 (none Counted)) in
      let needs = each_true (is_there ms) (keys_of Store) (shaped (are_there (keys_of Store)) (as_table d) ms table.1 (none There)) in
      ap (λ (o : Option Members). is_few MOST_REPLICAS (length (option_map_or (things_at (codes "replicas")) o []))) table.1
      ∙ and_from (nat_le 1 (length (things_at (codes "replicas") ms))) (nat_le (length (things_at (codes "replicas") ms)) MOST_REPLICAS)
      (some_things 1 MOST_REPLICAS (get_member (codes "replicas") ms) counts.1.1.0 needs.1.1.0)
      (few_things 1 MOST_REPLICAS (get_member (codes "replicas") ms) counts.1.1.0)

  -- a number of a store whose table has the key's value in its range
  number_few : (key : List ℕ) (most default : ℕ) → is_few most default ≡ true → (d : Data) (ms : Members) → as_table d ≡ Some ms
      → option_map_or (has_range (Number (pos 1) (pos most))) (get_member key ms) true ≡ true
      → is_few most (number_or default (option_and_then as_integer (member_in key d))) ≡ true
  number_few key most default fits d ms table ranged =
      ap (λ (o : Option Members). is_few most (number_or default (option_and_then as_integer (option_and_then (get_member key) o)))) table
      ∙ in_range 1 most default fits (get_member key ms) ranged

  -- both numbers are in their ranges
  numbers_few : (earlier : List Data) (d : Data) → FailsNone doc [] Store earlier d
      → (is_few MOST_TRIES (tries_at d) ≡ true) × (is_few MOST_ROOM (room_at d) ≡ true)
  numbers_few earlier d none =
      let table = store_table earlier d none in
      let ms : Members = table.0 in
      let ranges = each_true (ranges_at ms) (keys_of Store) (shaped (all_fit has_range (keys_of Store)) (as_table d) ms table.1 (none Ranged)) in
      (number_few (codes "tries") MOST_TRIES 3 refl d ms table.1 ranges.1.1.1.0, number_few (codes "room") MOST_ROOM 8 refl d ms table.1 ranges.1.1.1.1.0)

  -- what is at most a number that four bytes hold, these hold too
  few_fits : (most n : ℕ) → most < 2 ^ 32 → is_few most n ≡ true → nat_lt n (2 ^ 32) ≡ true
  few_fits most n less few =
      let parts = and_parts (nat_le 1 n) (nat_le n most) few in let within : n ≤ most = leb-true n most parts.1 in lt-ltb n (2 ^ 32) (omega (arith, less, within))

  -- the code can make stores of them
  pub stores_fit : list_all is_fit_store (stores_in doc) ≡ true
  unfolding is_fit_store
  stores_fit =
      each_fit doc [] Store is_fit_store
      (λ earlier d none. and_from (is_plain (name_in d)) _ (wanted (is_plain (name_in d)) (none PlainNames))
      (let few = numbers_few earlier d none in
      and_from _ _ (few_fits MOST_TRIES (tries_at d) (omega arith) few.0) (few_fits MOST_ROOM (room_at d) (omega arith) few.1))) [] (stores_in doc)
      (λ rule. (each_kept rule doc fine).stores)

  pub store_sound : (earlier : List Data) (d : Data) → FailsNone doc [] Store earlier d → is_sound_store (length (regions_of doc)) (store_of (regions_of doc) d) ≡ true
  unfolding is_sound_store store_of
  store_sound earlier d none =
      let plain : is_plain (name_in d) ≡ true = wanted (is_plain (name_in d)) (none PlainNames) in
      let ds : List Data = things_in (codes "replicas") d in
      let both = and_parts (are_among (regions_in doc) ds) (texts_differ ds) (wanted (are_among (regions_in doc) ds && texts_differ ds) (none Replicas)) in
      let regions : ℕ = length (regions_of doc) in
      and_from _ _ plain
      (and_from _ _ (length_made number_at (is_few MOST_REPLICAS) ds (replicas_few earlier d none))
      (and_from _ _ (all_made (λ e. is_among (text_of e) (regions_in doc)) number_at (λ region. nat_lt region regions)
      (λ e among. region_below doc fine (text_of e) among) ds both.0)
      (and_from _ _ (distinct_made (λ e. is_among (text_of e) (regions_in doc)) number_at (λ e d. bytes_eq (text_of d) (text_of e)) nat_eq
      (λ a b one other same. text_same (text_of b) (text_of a) (sym (region_same doc fine (text_of a) (text_of b) one other (eqb-true _ _ same)))) ds both.0 (texts_apart ds both.1))
      (let few = numbers_few earlier d none in and_from _ _ few.0 few.1))))

  -- the names of the stores, as they are made
  pub stored_is : (name : List ℕ) → is_stored (stores_of doc) name ≡ is_named name (stores_in doc)
  unfolding store_of
  stored_is name = any_made (store_of (regions_of doc)) (λ store. bytes_eq store.name name) (stores_in doc)

  stores_apart : are_apart (λ e d. bytes_eq (name_in e) (name_in d)) (stores_in doc) ≡ true
  stores_apart =
      each_apart (rule_line DistinctObjects doc [] Store) (λ e d. bytes_eq (name_in e) (name_in d))
      (λ earlier d none. not-true (is_named (name_in d) earlier) (wanted (not (is_named (name_in d) earlier)) none)) (stores_in doc)
      (each_kept DistinctObjects doc fine).stores

  names_differ : are_distinct (λ a b. bytes_eq a.name b.name) (stores_of doc) ≡ true
  unfolding store_of
  names_differ =
      distinct_made (λ d. is_plain (name_in d)) (store_of (regions_of doc)) (λ e d. bytes_eq (name_in e) (name_in d)) (λ a b. bytes_eq a.name b.name)
      (λ a b plain also same. same) (stores_in doc) (stores_plain doc fine) stores_apart

  few_listed : nat_le (length (stores_in doc)) MOST_STORES ≡ true
  few_listed = few_things 0 MOST_STORES (get_member (codes "store") doc) (counted doc fine).1.1.1.1.0

  pub stores_sound : are_sound_stores (length (regions_of doc)) (stores_of doc) ≡ true
  stores_sound =
      and_from _ _ (length_made (store_of (regions_of doc)) (λ n. nat_le n MOST_STORES) (stores_in doc) few_listed)
      (and_from _ _ (each_sound doc [] Store (store_of (regions_of doc)) (is_sound_store (length (regions_of doc))) store_sound [] (stores_in doc) (λ rule. (each_kept rule doc fine).stores))
      names_differ)

  pub few_stores : length (stores_of doc) ≤ MOST_STORES
  few_stores = let few : length (stores_in doc) ≤ MOST_STORES = leb-true _ _ few_listed in omega (arith, length-map (stores_in doc) (store_of (regions_of doc)))

  -- a store that is there stands at its number
  pub store_found : (name : List ℕ) (d : Data) → named name (stores_in doc) ≡ Some d
      → slice_get (stores_of doc) (store_place (stores_of doc) name) ≡ Some (store_of (regions_of doc) d)
  unfolding store_of
  store_found name d found =
      first_placed (λ store. bytes_eq store.name name) (stores_of doc) (store_of (regions_of doc) d)
      (first_made (store_of (regions_of doc)) (λ store. bytes_eq store.name name) (stores_in doc) ∙ ap (option_map (store_of (regions_of doc))) found)

  -- a store with a replica in a region of the document has one in the region of that number
  pub replica_there : (home : List ℕ) (d : Data) → is_among home (things_in (codes "replicas") d) ≡ true
      → list_any (λ r. r == region_place (regions_of doc) home) (map number_at (things_in (codes "replicas") d)) ≡ true
  replica_there home d among =
      some_made (λ e. bytes_eq (text_of e) home) number_at (λ r. nat_eq r (region_place (regions_of doc) home))
      (λ e same. eq-eqb _ _ (ap (λ (t : List ℕ). region_place (regions_of doc) t) (same_text (text_of e) home same))) (things_in (codes "replicas") d) among

  -- a store that the rules find for a read is found
  pub read_near : (home name : List ℕ) (test : Facts → Bool) → has_store (near test home) doc name ≡ true
      → is_near (λ kind. test (facts_of kind)) (stores_of doc) name (region_place (regions_of doc) home) ≡ true
  unfolding store_of serves
  read_near home name test read =
      let found = near_parts home test (named name (stores_in doc)) read in
      let d : Data = found.0 in
      any_found (has_text (codes "name") name) (store_of (regions_of doc)) (serves (λ kind. test (facts_of kind)) name (region_place (regions_of doc) home))
      (stores_in doc) d found.1
      (and_from _ _ (first_passes (has_text (codes "name") name) (stores_in doc) d found.1)
      (and_from _ _ (kind_has test (text_at (codes "kind") d) found.3)
      (replica_there home d found.2)))
