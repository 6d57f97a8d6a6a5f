-- What a document without a breach says of its services and requests.
use Rattle.std.proofs.Common.{◌≡◌, ℕ, ◌^◌, ◌<◌, ◌≤◌, codes, List, [], ◌∷◌, ◌++◌, true, false, not, ◌&&◌, nat_lt, nat_le, length, map, Option, None, Some, slice_get, option_map, refl, ap, ◌∙◌, arith}
use Rattle.std.specs.List.{list_all, position_or_len}
use Rattle.std.specs.Option.{option_map_or}
use Rattle.std.specs.Str.{bytes_eq}
use Rattle.std.proofs.lemmas.Bool.{and_parts, and_from, not-true, leb-true, lt-ltb}
use Rattle.std.proofs.lemmas.List.{length-map}
use Rattle.anti_ids.specs.declared.limits.TheConstants.{MOST_HANDLERS, MOST_REQUESTS, MOST_SERVICES}
use Rattle.anti_ids.specs.Names.{is_plain}
use Rattle.toml.specs.Data.{Data, Members, get_member, as_table}
use Rattle.anti_rules.specs.Trees.{text_at, things_at, things_in, is_among, name_in, is_named, named, stores_in, services_in, regions_in}
use Rattle.anti_rules.specs.Keys.{keys_of, all_fit, has_type, has_count}
use Rattle.anti_rules.specs.Statements.{has_handler as handler_stated}
use Rattle.anti_rules.specs.Rules.{rule_line}
use Rattle.anti_rules.specs.Order.{first_breach}
use Rattle.anti_rules.specs.declared.rule.Rule.{Rule}
use Rattle.anti_rules.specs.declared.rule.Rule.TheVariants.{Typed, Counted, PlainNames, DistinctObjects, DistinctHandlers, ServiceRegions, RequestHandlers, RequestValues}
use Rattle.anti_rules.specs.declared.place.Part.TheVariants.{Service, Handler, Request}
use Rattle.anti_rules.proofs.Holds.{NoHandlerFails, each_kept, wanted, each_wanted, are_apart, each_apart, tabled, shaped, few_things}
use Rattle.anti_app.specs.declared.app.ServiceDef.{ServiceDef}
use Rattle.anti_app.specs.Parts.{regions_of, stores_of, handler_of, service_of, services_of, request_of, requests_of}
use Rattle.anti_app.specs.Places.{region_place, service_place, handler_place}
use Rattle.anti_app.specs.Sound.{are_distinct, is_sound_handler, is_sound_service, are_sound_services, has_handler, is_sound_request, are_sound_requests}
use Rattle.anti_app.specs.inner.Few.{HaveNumbers}
use Rattle.anti_app.specs.inner.Fit.{is_fit_handler, is_fit_request, is_fit_service}
use Rattle.anti_app.proofs.Lookups.{first_made, first_placed, place_there, distinct_made}
use Rattle.anti_app.proofs.Kept.{FailsNone, FailNone, each_fit, each_sound, each_true, both_pass, counts_at, length_made, some_passes}
use Rattle.anti_app.proofs.SoundLemmas.{each_known, service_known}
use Rattle.anti_app.proofs.SoundRegions.{counted, region_below}
use Rattle.anti_app.proofs.SoundStores.{stored_is}
use Rattle.anti_app.proofs.Served.{are_plain, named_made, services_plain, each_handler_plain}
use Rattle.anti_app.proofs.SoundBodies.{body_sound}

module _ (doc : Members) (fine : first_breach doc ≡ None) where
  -- ---- handlers
  handler_sound : (home : List ℕ) (earlier : List Data) (d : Data) → FailsNone doc home Handler earlier d
      → is_sound_handler (stores_of doc) (services_of doc) (region_place (regions_of doc) home) (handler_of d) ≡ true
  unfolding is_sound_handler handler_of
  handler_sound home earlier d none =
      let plain : is_plain (name_in d) ≡ true = wanted (is_plain (name_in d)) (none PlainNames) in
      and_from _ _ plain (body_sound doc fine home earlier d none)

  each_plain : (home : List ℕ) (ds : List Data) → FailNone doc home Handler [] ds → are_plain ds ≡ true
  each_plain home ds none =
      each_wanted (rule_line PlainNames doc home Handler) (λ d. is_plain (name_in d)) (λ earlier d kept. wanted (is_plain (name_in d)) kept) [] ds (none PlainNames)

  handlers_differ : (home : List ℕ) (ds : List Data) → FailNone doc home Handler [] ds → are_distinct (λ a b. bytes_eq a.name b.name) (map handler_of ds) ≡ true
  unfolding handler_of
  handlers_differ home ds none =
      distinct_made (λ d. is_plain (name_in d)) handler_of (λ e d. bytes_eq (name_in e) (name_in d)) (λ a b. bytes_eq a.name b.name)
      (λ a b plain also same. same) ds (each_plain home ds none)
      (each_apart (rule_line DistinctHandlers doc home Handler) (λ e d. bytes_eq (name_in e) (name_in d))
      (λ earlier d kept. not-true (is_named (name_in d) earlier) (wanted (not (is_named (name_in d) earlier)) kept)) ds (none DistinctHandlers))

  -- ---- services
  few_handlers : (earlier : List Data) (d : Data) → FailsNone doc [] Service earlier d → nat_le (length (things_in (codes "handler") d)) MOST_HANDLERS ≡ true
  few_handlers earlier d none =
      let table = tabled (all_fit has_type (keys_of Service)) (as_table d) (none Typed) in
      let ms : Members = table.0 in
      let counts = each_true (counts_at ms) (keys_of Service) (shaped (all_fit has_count (keys_of Service)) (as_table d) ms table.1 (none Counted)) in
      ap (λ (o : Option Members). nat_le (length (option_map_or (things_at (codes "handler")) o [])) MOST_HANDLERS) table.1
      ∙ few_things 0 MOST_HANDLERS (get_member (codes "handler") ms) counts.1.1.0

  service_sound : (earlier : List Data) (d : Data) → FailsNone doc [] Service earlier d
      → FailNone doc (text_at (codes "region") d) Handler [] (things_in (codes "handler") d)
      → is_sound_service (length (regions_of doc)) (stores_of doc) (services_of doc) (service_of (regions_of doc) d) ≡ true
  unfolding is_sound_service service_of
  service_sound earlier d none handlers =
      let plain : is_plain (name_in d) ≡ true = wanted (is_plain (name_in d)) (none PlainNames) in
      let home : List ℕ = text_at (codes "region") d in
      let ds : List Data = things_in (codes "handler") d in
      let apart = and_parts (not (is_named (name_in d) (stores_in doc))) (not (is_named (name_in d) earlier))
      (wanted (not (is_named (name_in d) (stores_in doc)) && not (is_named (name_in d) earlier)) (none DistinctObjects)) in
      and_from _ _ plain
      (and_from _ _ (region_below doc fine home (wanted (is_among home (regions_in doc)) (none ServiceRegions)))
      (and_from _ _ (ap not (stored_is doc fine (name_in d)) ∙ apart.0)
      (and_from _ _ (length_made handler_of (λ n. nat_le n MOST_HANDLERS) ds (few_handlers earlier d none))
      (and_from _ _ (each_sound doc home Handler handler_of (is_sound_handler (stores_of doc) (services_of doc) (region_place (regions_of doc) home))
      (handler_sound home) [] ds handlers)
      (handlers_differ home ds handlers)))))

  each_service : (earlier ds : List Data) → FailNone doc [] Service earlier ds → ((rule : Rule) → NoHandlerFails rule doc ds)
      → list_all (is_sound_service (length (regions_of doc)) (stores_of doc) (services_of doc)) (map (service_of (regions_of doc)) ds) ≡ true
  each_service earlier [] none handlers = refl
  each_service earlier (d ∷ ds) none handlers =
      and_from _ _ (service_sound earlier d (λ rule. (none rule).0) (λ rule. (handlers rule).0))
      (each_service (earlier ++ d ∷ []) ds (λ rule. (none rule).1) (λ rule. (handlers rule).1))

  services_apart : are_apart (λ e d. bytes_eq (name_in e) (name_in d)) (services_in doc) ≡ true
  services_apart =
      each_apart (rule_line DistinctObjects doc [] Service) (λ e d. bytes_eq (name_in e) (name_in d))
      (λ earlier d none. not-true (is_named (name_in d) earlier)
      (and_parts (not (is_named (name_in d) (stores_in doc))) (not (is_named (name_in d) earlier))
      (wanted (not (is_named (name_in d) (stores_in doc)) && not (is_named (name_in d) earlier)) none)).1) (services_in doc)
      (each_kept DistinctObjects doc fine).services

  few_listed : nat_le (length (services_in doc)) MOST_SERVICES ≡ true
  few_listed = few_things 0 MOST_SERVICES (get_member (codes "service") doc) (counted doc fine).1.1.1.1.1.0

  services_differ : are_distinct (λ a b. bytes_eq a.name b.name) (services_of doc) ≡ true
  unfolding service_of
  services_differ =
      distinct_made (λ d. is_plain (name_in d)) (service_of (regions_of doc)) (λ e d. bytes_eq (name_in e) (name_in d)) (λ a b. bytes_eq a.name b.name)
      (λ a b plain also same. same) (services_in doc) (services_plain doc fine) services_apart

  pub services_sound : are_sound_services (length (regions_of doc)) (stores_of doc) (services_of doc) ≡ true
  services_sound =
      and_from _ _ (length_made (service_of (regions_of doc)) (λ n. nat_le n MOST_SERVICES) (services_in doc) few_listed)
      (and_from _ _ (each_service [] (services_in doc) (λ rule. (each_kept rule doc fine).services) (λ rule. (each_kept rule doc fine).handlers))
      services_differ)

  -- ---- what the code relies on
  -- the code can make services of them
  pub services_fit : list_all is_fit_service (services_in doc) ≡ true
  unfolding is_fit_service is_fit_handler
  services_fit = both_pass (λ d. is_plain (name_in d)) (λ d. are_plain (things_in (codes "handler") d)) (services_in doc) (services_plain doc fine) (each_handler_plain doc fine)

  pub few_services : length (services_of doc) ≤ MOST_SERVICES
  few_services = let few : length (services_in doc) ≤ MOST_SERVICES = leb-true _ _ few_listed in omega (arith, length-map (services_in doc) (service_of (regions_of doc)))

  -- few services, and few handlers in each
  pub few_made : HaveNumbers (services_of doc)
  few_made =
      let all : list_all (is_sound_service (length (regions_of doc)) (stores_of doc) (services_of doc)) (services_of doc) ≡ true =
      each_service [] (services_in doc) (λ rule. (each_kept rule doc fine).services) (λ rule. (each_kept rule doc fine).handlers) in
      record {
        few = omega (arith, few_services);
        each = each_known (is_sound_service (length (regions_of doc)) (stores_of doc) (services_of doc)) (λ service. length service.handlers.items < 2 ^ 32)
            (λ service sound. few_numbers service (service_known (length (regions_of doc)) (stores_of doc) (services_of doc) service sound).few) (services_of doc) all;
      }
    where
      few_numbers : (service : ServiceDef) → length service.handlers.items ≤ MOST_HANDLERS → length service.handlers.items < 2 ^ 32
      few_numbers service few = omega arith

  -- ---- handlers that are named
  -- a service that is there stands at its number
  pub service_found : (name : List ℕ) (d : Data) → named name (services_in doc) ≡ Some d
      → slice_get (services_of doc) (service_place (services_of doc) name) ≡ Some (service_of (regions_of doc) d)
  unfolding service_of
  service_found name d found =
      first_placed (λ service. bytes_eq service.name name) (services_of doc) (service_of (regions_of doc) d)
      (first_made (service_of (regions_of doc)) (λ service. bytes_eq service.name name) (services_in doc) ∙ ap (option_map (service_of (regions_of doc))) found)

  -- a handler that is there has a number
  number_below : (d : Data) (name : List ℕ) → is_named name (things_in (codes "handler") d) ≡ true
      → position_or_len (λ handler. bytes_eq handler.name name) (service_of (regions_of doc) d).handlers.items < length (service_of (regions_of doc) d).handlers.items
  unfolding service_of
  number_below d name there =
      place_there (λ handler. bytes_eq handler.name name) (map handler_of (things_in (codes "handler") d)) (named_made name (things_in (codes "handler") d) ∙ there)

  -- a handler that the rules find has a number
  pub handler_there : (service handler : List ℕ) → handler_stated doc service handler ≡ true
      → has_handler (services_of doc) (service_place (services_of doc) service) (handler_place (services_of doc) (service_place (services_of doc) service) handler) ≡ true
  handler_there service handler stated =
      let found = some_passes (λ d. is_named handler (things_in (codes "handler") d)) (named service (services_in doc)) stated in
      let made : ServiceDef = service_of (regions_of doc) found.0 in
      ap (λ (o : Option ServiceDef). option_map_or (λ s. nat_lt (option_map_or (λ s. position_or_len (λ h. bytes_eq h.name handler) s.handlers.items) o 0) (length s.handlers.items)) o false)
      (service_found service found.0 found.1)
      ∙ lt-ltb (position_or_len (λ h. bytes_eq h.name handler) made.handlers.items) (length made.handlers.items) (number_below found.0 handler found.2)

  -- ---- requests
  value_short : (earlier : List Data) (d : Data) → FailsNone doc [] Request earlier d → is_fit_request d ≡ true
  unfolding is_fit_request
  value_short earlier d none = wanted (is_fit_request d) (none RequestValues)

  -- the code can make requests of them
  pub requests_fit : list_all is_fit_request (things_at (codes "request") doc) ≡ true
  requests_fit = each_fit doc [] Request is_fit_request value_short [] (things_at (codes "request") doc) (λ rule. (each_kept rule doc fine).requests)

  request_sound : (earlier : List Data) (d : Data) → FailsNone doc [] Request earlier d → is_sound_request (services_of doc) (request_of (services_of doc) d) ≡ true
  unfolding is_sound_request request_of is_fit_request
  request_sound earlier d none =
      and_from _ _ (handler_there (text_at (codes "service") d) (text_at (codes "handler") d)
      (wanted (handler_stated doc (text_at (codes "service") d) (text_at (codes "handler") d)) (none RequestHandlers)))
      (value_short earlier d none)

  pub requests_sound : are_sound_requests (services_of doc) (requests_of doc) ≡ true
  requests_sound =
      and_from _ _ (length_made (request_of (services_of doc)) (λ n. nat_le n MOST_REQUESTS) (things_at (codes "request") doc)
      (few_things 0 MOST_REQUESTS (get_member (codes "request") doc) (counted doc fine).1.1.1.1.1.1.1.0))
      (each_sound doc [] Request (request_of (services_of doc)) (is_sound_request (services_of doc)) request_sound [] (things_at (codes "request") doc)
      (λ rule. (each_kept rule doc fine).requests))
