-- An application that a document states is sound.
use Rattle.std.proofs.Common.{◌≡◌, ℕ, ◌+◌, ◌≤◌, codes, List, [], true, nat_le, length, map, Option, None, Some, Result, Ok, Err, IsTrue, IfOk, refl, sym, ap, ◌∙◌, arith}
use Rattle.std.specs.Prelude.{is_none, position}
use Rattle.std.specs.Option.{option_and_then, option_map_or, some_prefix}
use Rattle.std.proofs.lemmas.Bool.{and_parts, and_from, leb-true, le-leb}
use Rattle.std.proofs.lemmas.List.{length-map}
use Rattle.toml.specs.Data.{Members, get_member, as_integer}
use Rattle.anti_rules.specs.Trees.{things_at}
use Rattle.anti_rules.specs.Keys.{keys_of, all_fit, has_range}
use Rattle.anti_rules.specs.Order.{first_breach}
use Rattle.anti_rules.specs.declared.breach.Breach.{Breach}
use Rattle.anti_rules.specs.declared.rule.Rule.TheVariants.{Ranged}
use Rattle.anti_rules.specs.declared.place.Part.TheVariants.{Top}
use Rattle.anti_ids.specs.Answers.{AnswersBut}
use Rattle.anti_ids.specs.List.{plain}
use Rattle.anti_ids.specs.declared.limits.TheConstants.{GREATEST_SEED, MOST_CHOICES, MOST_WORKERS}
use Rattle.anti_rules.proofs.Holds.{each_kept, wanted, few_things}
use Rattle.anti_app.specs.declared.app.App.{App}
use Rattle.anti_app.specs.declared.app.AppFault.{AppFault}
use Rattle.anti_app.specs.declared.app.AppFault.TheVariants.{Bad, BadChoice, NoMemory}
use Rattle.anti_app.specs.declared.app.Choice.{Choice}
use Rattle.anti_app.specs.Parts.{number_or}
use Rattle.anti_app.specs.Chosen.{choice_of}
use Rattle.anti_app.specs.Stated.{app_with, app_chosen, app_in}
use Rattle.anti_app.specs.Sound.{are_sound_numbers, is_few, is_sound}
use Rattle.anti_app.proofs.Kept.{AllTrue, each_true, ranges_at, in_range}
use Rattle.anti_app.proofs.SoundRegions.{counted, regions_sound}
use Rattle.anti_app.proofs.SoundStores.{stores_sound}
use Rattle.anti_app.proofs.SoundServices.{services_sound, requests_sound}
use Rattle.anti_app.proofs.SoundSubs.{subs_sound}
use Rattle.anti_app.proofs.SoundChoices.{prefix_short, prefix_sound, sound_listed}

module _ (doc : Members) (fine : first_breach doc ≡ None) where
  ranges : AllTrue (ranges_at doc) (keys_of Top)
  ranges = each_true (ranges_at doc) (keys_of Top) (wanted (all_fit has_range (keys_of Top) doc) (each_kept Ranged doc fine).top)

  few_workers : is_few MOST_WORKERS (number_or 2 (option_and_then as_integer (get_member (codes "workers") doc))) ≡ true
  few_workers = in_range 1 MOST_WORKERS 2 refl (get_member (codes "workers") doc) ranges.1.1.0

  pub workers_fit : number_or 2 (option_and_then as_integer (get_member (codes "workers") doc)) ≤ MOST_WORKERS
  workers_fit =
      leb-true _ _ (and_parts (nat_le 1 (number_or 2 (option_and_then as_integer (get_member (codes "workers") doc))))
      (nat_le (number_or 2 (option_and_then as_integer (get_member (codes "workers") doc))) MOST_WORKERS) few_workers).1

  numbers_sound : (choices : List Choice) → are_sound_numbers (app_with doc choices) ≡ true
  numbers_sound choices =
      and_from _ _ (and_parts _ _ (in_range 0 GREATEST_SEED 0 refl (get_member (codes "seed") doc) ranges.1.0)).1 few_workers

  -- what the document lists as choices, each as the choice that it is, where it is one
  abbrev found : List (Option Choice)
  found = map (choice_of (app_with doc [])) (things_at (codes "choices") doc)

  pub few_choices : nat_le (length (things_at (codes "choices") doc)) MOST_CHOICES ≡ true
  few_choices = few_things 0 MOST_CHOICES (get_member (codes "choices") doc) (counted doc fine).1.1.1.0

  few_found : nat_le (length (some_prefix found)) MOST_CHOICES ≡ true
  few_found =
      let few : length (things_at (codes "choices") doc) ≤ MOST_CHOICES = leb-true _ _ few_choices in
      let as_many : length found ≡ length (things_at (codes "choices") doc) = length-map (things_at (codes "choices") doc) (choice_of (app_with doc [])) in
      let some : length (some_prefix found) ≤ length found = prefix_short found in
      le-leb _ _ (omega arith)

  -- An application of a document that fails no rule, with the choices that it states, is sound.
  sound_of : is_sound (app_with doc (some_prefix found)) ≡ true
  sound_of =
      and_from _ _ (regions_sound doc fine)
      (and_from _ _ (stores_sound doc fine)
      (and_from _ _ (services_sound doc fine)
      (and_from _ _ (subs_sound doc fine)
      (and_from _ _ (requests_sound doc fine)
      (and_from _ _
      (and_from _ _ few_found
      (sound_listed (app_with doc []) (plain (some_prefix found)) (some_prefix found) (prefix_sound (app_with doc []) (things_at (codes "choices") doc))))
      (numbers_sound (some_prefix found)))))))

  chosen_sound : (app : App) → app_chosen doc ≡ Ok app → IsTrue (is_sound app)
  chosen_sound app h = by_first (position is_none found) h
    where
      by_first : (first : Option ℕ) → option_map_or (λ place. Err (BadChoice (place + 1))) first (Ok (app_with doc (some_prefix found))) ≡ Ok app → IsTrue (is_sound app)
      by_first (Some place) h = absurd (cc)
      by_first None h = let same : app_with doc (some_prefix found) ≡ app = cc in ap is_sound (sym same) ∙ sound_of

-- What is read of a document is sound.
stated_sound : (doc : Members) (breach : Option Breach) → first_breach doc ≡ breach → (app : App)
    → option_map_or (λ breach. Err (Bad breach.rule breach.place)) breach (app_chosen doc) ≡ Ok app → IsTrue (is_sound app)
stated_sound doc (Some breach) stated app h = absurd (cc)
stated_sound doc None fine app h = chosen_sound doc fine app h

pub read_sound : (doc : Members) (result : Result App AppFault) → AnswersBut NoMemory result (app_in doc) → IfOk result (λ app. IsTrue (is_sound app))
read_sound doc (Ok app) h = stated_sound doc (first_breach doc) refl app h
read_sound doc (Err fault) h = tt
