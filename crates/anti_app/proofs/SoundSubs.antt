-- What a document without a breach says of its subscriptions.
use Rattle.std.proofs.Common.{◌≡◌, ℕ, ◌≤◌, codes, List, [], true, false, not, nat_le, length, Option, None, slice_get, sym, ap, ◌∙◌, arith}
use Rattle.std.specs.List.{list_all}
use Rattle.std.specs.Option.{option_map_or}
use Rattle.std.specs.Str.{bytes_eq}
use Rattle.std.proofs.lemmas.Bool.{and_parts, and_from, leb-true, not-true}
use Rattle.std.proofs.lemmas.List.{length-map}
use Rattle.anti_ids.specs.declared.limits.TheConstants.{MOST_SUBS}
use Rattle.anti_ids.specs.Names.{is_plain}
use Rattle.toml.specs.Data.{Data, Members, get_member}
use Rattle.anti_rules.specs.Trees.{text_at, things_at, things_in, name_in, is_named, named, stores_in, services_in}
use Rattle.anti_rules.specs.StoreFacts.{kind_is}
use Rattle.anti_rules.specs.Statements.{has_store, has_replica, has_handler as handler_stated}
use Rattle.anti_rules.specs.Rules.{rule_line, home_of}
use Rattle.anti_rules.specs.Order.{first_breach}
use Rattle.anti_rules.specs.declared.rule.Rule.TheVariants.{PlainNames, DistinctSubs, SubStores, SubHandlers, SubReplicas}
use Rattle.anti_rules.specs.declared.place.Part.TheVariants.{Sub}
use Rattle.anti_rules.proofs.Holds.{each_kept, wanted, are_apart, each_apart, few_things}
use Rattle.anti_app.specs.declared.app.StoreDef.{StoreDef}
use Rattle.anti_app.specs.declared.app.ServiceDef.{ServiceDef}
use Rattle.anti_app.specs.Parts.{regions_of, store_of, stores_of, service_of, services_of, sub_of, subs_of}
use Rattle.anti_app.specs.Places.{region_place, store_place, service_place}
use Rattle.anti_app.specs.inner.Fit.{is_fit_sub}
use Rattle.anti_app.specs.Sound.{are_distinct, hands_out, hands_to, is_sound_sub, are_sound_subs}
use Rattle.anti_app.proofs.Lookups.{distinct_made}
use Rattle.anti_app.proofs.Kept.{FailsNone, each_fit, each_sound, length_made, some_passes}
use Rattle.anti_app.proofs.SoundRegions.{counted}
use Rattle.anti_app.proofs.SoundStores.{kind_has, store_found, replica_there}
use Rattle.anti_app.proofs.SoundServices.{service_found, handler_there}

module _ (doc : Members) (fine : first_breach doc ≡ None) where
  -- the store of a subscription that the rules find hands out where the service is
  handed_there : (store service handler : List ℕ)
      → handler_stated doc service handler ≡ true → has_store (kind_is (λ facts. facts.pulled)) doc store ≡ true
      → has_store (has_replica (option_map_or (text_at (codes "region")) (named service (services_in doc)) [])) doc store ≡ true
      → option_map_or (hands_to (stores_of doc) (store_place (stores_of doc) store)) (slice_get (services_of doc) (service_place (services_of doc) service)) false ≡ true
  unfolding hands_out store_of service_of
  handed_there store service handler stated pulled near =
      let a_service = some_passes (λ d. is_named handler (things_in (codes "handler") d)) (named service (services_in doc)) stated in
      let a_store = some_passes (kind_is (λ facts. facts.pulled)) (named store (stores_in doc)) pulled in
      let home : List ℕ = text_at (codes "region") a_service.0 in
      let at_service = service_found doc fine service a_service.0 a_service.1 in
      let at_store = store_found doc fine store a_store.0 a_store.1 in
      let among : has_replica home a_store.0 ≡ true =
      sym (ap (λ (o : Option Data). option_map_or (has_replica home) o false) a_store.1)
      ∙ (sym (ap (λ (o : Option Data). has_store (has_replica (option_map_or (text_at (codes "region")) o [])) doc store) a_service.1) ∙ near) in
      let hands : hands_out (region_place (regions_of doc) home) (store_of (regions_of doc) a_store.0) ≡ true =
      and_from _ _ (kind_has (λ facts. facts.pulled) (text_at (codes "kind") a_store.0) a_store.2) (replica_there doc fine home a_store.0 among) in
      ap (λ (o : Option ServiceDef). option_map_or (hands_to (stores_of doc) (store_place (stores_of doc) store)) o false) at_service
      ∙ (ap (λ (o : Option StoreDef). option_map_or (hands_out (region_place (regions_of doc) home)) o false) at_store ∙ hands)

  -- its name and its channel
  names_plain : (earlier : List Data) (d : Data) → FailsNone doc [] Sub earlier d → is_fit_sub d ≡ true
  unfolding is_fit_sub
  names_plain earlier d none = wanted (is_fit_sub d) (none PlainNames)

  -- the code can make subscriptions of them
  pub subs_fit : list_all is_fit_sub (things_at (codes "sub") doc) ≡ true
  subs_fit = each_fit doc [] Sub is_fit_sub names_plain [] (things_at (codes "sub") doc) (λ rule. (each_kept rule doc fine).subs)

  sub_sound : (earlier : List Data) (d : Data) → FailsNone doc [] Sub earlier d
      → is_sound_sub (stores_of doc) (services_of doc) (sub_of (stores_of doc) (services_of doc) d) ≡ true
  unfolding is_sound_sub sub_of is_fit_sub
  sub_sound earlier d none =
      let plain = and_parts (is_plain (name_in d)) (is_plain (text_at (codes "channel") d)) (names_plain earlier d none) in
      let service : List ℕ = text_at (codes "service") d in let handler : List ℕ = text_at (codes "handler") d in
      let stated : handler_stated doc service handler ≡ true = wanted (handler_stated doc service handler) (none SubHandlers) in
      let store : List ℕ = text_at (codes "store") d in
      and_from _ _ plain.0
      (and_from _ _ plain.1
      (and_from _ _ (handler_there doc fine service handler stated)
      (handed_there store service handler stated
      (wanted (has_store (kind_is (λ facts. facts.pulled)) doc store) (none SubStores))
      (wanted (has_store (has_replica (home_of doc d)) doc store) (none SubReplicas)))))

  subs_apart : are_apart (λ e d. bytes_eq (name_in e) (name_in d)) (things_at (codes "sub") doc) ≡ true
  subs_apart =
      each_apart (rule_line DistinctSubs doc [] Sub) (λ e d. bytes_eq (name_in e) (name_in d))
      (λ earlier d none. not-true (is_named (name_in d) earlier) (wanted (not (is_named (name_in d) earlier)) none)) (things_at (codes "sub") doc)
      (each_kept DistinctSubs doc fine).subs

  names_differ : are_distinct (λ a b. bytes_eq a.name b.name) (subs_of doc) ≡ true
  unfolding sub_of
  names_differ =
      distinct_made is_fit_sub (sub_of (stores_of doc) (services_of doc)) (λ e d. bytes_eq (name_in e) (name_in d)) (λ a b. bytes_eq a.name b.name)
      (λ a b fit also same. same) (things_at (codes "sub") doc) subs_fit subs_apart

  few_listed : nat_le (length (things_at (codes "sub") doc)) MOST_SUBS ≡ true
  few_listed = few_things 0 MOST_SUBS (get_member (codes "sub") doc) (counted doc fine).1.1.1.1.1.1.0

  pub few_subs : length (subs_of doc) ≤ MOST_SUBS
  few_subs =
      let few : length (things_at (codes "sub") doc) ≤ MOST_SUBS = leb-true _ _ few_listed in
      omega (arith, length-map (things_at (codes "sub") doc) (sub_of (stores_of doc) (services_of doc)))

  pub subs_sound : are_sound_subs (stores_of doc) (services_of doc) (subs_of doc) ≡ true
  subs_sound =
      and_from _ _ (length_made (sub_of (stores_of doc) (services_of doc)) (λ n. nat_le n MOST_SUBS) (things_at (codes "sub") doc) few_listed)
      (and_from _ _ (each_sound doc [] Sub (sub_of (stores_of doc) (services_of doc)) (is_sound_sub (stores_of doc) (services_of doc)) sub_sound [] (things_at (codes "sub") doc)
      (λ rule. (each_kept rule doc fine).subs))
      names_differ)
