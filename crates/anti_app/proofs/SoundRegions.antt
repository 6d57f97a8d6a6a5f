-- What a document without a breach says of its regions.
use Rattle.std.proofs.Common.{◌≡◌, ℕ, ◌^◌, ◌<◌, ◌≤◌, codes, List, [], true, not, nat_lt, nat_le, length, None, Some, slice_get, sym, ap, ◌∙◌, arith}
use Rattle.std.specs.List.{list_all, list_any}
use Rattle.std.specs.Str.{bytes_eq}
use Rattle.std.proofs.lemmas.Bool.{and_from, not-true, leb-true, lt-ltb}
use Rattle.std.proofs.lemmas.List.{length-map}
use Rattle.anti_ids.specs.declared.limits.TheConstants.{MOST_REGIONS}
use Rattle.anti_ids.specs.Names.{is_plain}
use Rattle.toml.specs.Data.{Members, get_member}
use Rattle.anti_rules.specs.Trees.{text_of, is_among, regions_in}
use Rattle.anti_rules.specs.Keys.{keys_of, all_fit, has_count, are_there}
use Rattle.anti_rules.specs.Rules.{rule_line}
use Rattle.anti_rules.specs.Order.{first_breach}
use Rattle.anti_rules.specs.declared.rule.Rule.TheVariants.{There, Counted, PlainNames, DistinctRegions}
use Rattle.anti_rules.specs.declared.place.Part.TheVariants.{Top, Region}
use Rattle.anti_rules.proofs.Holds.{each_kept, wanted, each_wanted, are_apart, each_apart, some_things, few_regions}
use Rattle.anti_app.specs.Parts.{regions_of}
use Rattle.anti_app.specs.Places.{region_place}
use Rattle.anti_app.specs.Sound.{are_distinct, is_few, are_sound_regions}
use Rattle.anti_app.specs.inner.Fit.{is_fit_region}
use Rattle.anti_app.proofs.Lookups.{same_text, first_found, first_passes, first_placed, place_there, any_made, all_made, distinct_made}
use Rattle.anti_app.proofs.Kept.{AllTrue, each_true, counts_at, is_there, length_made}

module _ (doc : Members) (fine : first_breach doc ≡ None) where
  -- ---- the top
  pub counted : AllTrue (counts_at doc) (keys_of Top)
  counted = each_true (counts_at doc) (keys_of Top) (wanted (all_fit has_count (keys_of Top) doc) (each_kept Counted doc fine).top)

  there : AllTrue (is_there doc) (keys_of Top)
  there = each_true (is_there doc) (keys_of Top) (wanted (are_there (keys_of Top) doc) (each_kept There doc fine).top)

  -- ---- regions
  some_region : nat_le 1 (length (regions_in doc)) ≡ true
  some_region = some_things 1 MOST_REGIONS (get_member (codes "regions") doc) counted.0 there.0

  regions_plain : list_all (λ d. is_plain (text_of d)) (regions_in doc) ≡ true
  regions_plain =
      each_wanted (rule_line PlainNames doc [] Region) (λ d. is_plain (text_of d)) (λ earlier d none. wanted (is_plain (text_of d)) none) [] (regions_in doc)
      (each_kept PlainNames doc fine).regions

  regions_apart : are_apart (λ e d. bytes_eq (text_of e) (text_of d)) (regions_in doc) ≡ true
  regions_apart =
      each_apart (rule_line DistinctRegions doc [] Region) (λ e d. bytes_eq (text_of e) (text_of d))
      (λ earlier d none. not-true (is_among (text_of d) earlier) (wanted (not (is_among (text_of d) earlier)) none)) (regions_in doc)
      (each_kept DistinctRegions doc fine).regions

  pub few_names : length (regions_of doc) < 2 ^ 32
  few_names = let few : length (regions_in doc) ≤ MOST_REGIONS = leb-true _ _ (few_regions doc fine) in omega (arith, length-map (regions_in doc) text_of)

  -- the code can make regions of them
  pub regions_fit : list_all is_fit_region (regions_in doc) ≡ true
  unfolding is_fit_region
  regions_fit = regions_plain

  pub regions_sound : are_sound_regions (regions_of doc) ≡ true
  regions_sound =
      and_from (is_few MOST_REGIONS (length (regions_of doc))) _
      (length_made text_of (is_few MOST_REGIONS) (regions_in doc) (and_from (nat_le 1 (length (regions_in doc))) _ some_region (few_regions doc fine)))
      (and_from (list_all is_plain (regions_of doc)) (are_distinct bytes_eq (regions_of doc))
      (all_made (λ d. is_plain (text_of d)) text_of is_plain (λ d plain. plain) (regions_in doc) regions_plain)
      (distinct_made (λ d. is_plain (text_of d)) text_of (λ e d. bytes_eq (text_of e) (text_of d)) bytes_eq
      (λ a b plain also same. same) (regions_in doc) regions_plain regions_apart))

  -- a region of the document stands at its number
  there_named : (text : List ℕ) → is_among text (regions_in doc) ≡ true → list_any (λ name. bytes_eq name text) (regions_of doc) ≡ true
  there_named text among = any_made text_of (λ name. bytes_eq name text) (regions_in doc) ∙ among

  region_found : (text : List ℕ) → is_among text (regions_in doc) ≡ true → slice_get (regions_of doc) (region_place (regions_of doc) text) ≡ Some text
  region_found text among =
      let first = first_found (λ name. bytes_eq name text) (regions_of doc) (there_named text among) in
      let same : first.0 ≡ text = same_text first.0 text (first_passes (λ name. bytes_eq name text) (regions_of doc) first.0 first.1) in
      first_placed (λ name. bytes_eq name text) (regions_of doc) first.0 first.1 ∙ ap Some same

  -- two texts of one number are the same
  pub region_same : (a b : List ℕ) → is_among a (regions_in doc) ≡ true → is_among b (regions_in doc) ≡ true
      → region_place (regions_of doc) a ≡ region_place (regions_of doc) b → a ≡ b
  region_same a b one other same =
      let both : Some a ≡ Some b = sym (region_found a one) ∙ (ap (slice_get (regions_of doc)) same ∙ region_found b other) in cc

  -- the number of a region that is there is below the number of regions
  pub region_below : (text : List ℕ) → is_among text (regions_in doc) ≡ true → nat_lt (region_place (regions_of doc) text) (length (regions_of doc)) ≡ true
  region_below text among =
      lt-ltb (region_place (regions_of doc) text) (length (regions_of doc)) (place_there (λ name. bytes_eq name text) (regions_of doc) (there_named text among))
