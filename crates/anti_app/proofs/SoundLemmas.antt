-- What a sound application is known to keep.
use Rattle.std.proofs.Common.{◌≡◌, ℕ, ◌+◌, IfSome, ◌<◌, ◌≤◌, List, [], ◌∷◌, Bool, true, false, not, ◌&&◌, ◌==◌, nat_eq, nat_lt, nat_le, length, slice_get, Option, Some, None, is_none, IsTrue, refl, sym, ap, ◌∙◌, subst, arith}
use Rattle.std.specs.List.{list_all, list_any, All, AllPairs, Contains}
use Rattle.std.specs.Option.{option_map_or}
use Rattle.std.proofs.lemmas.Bool.{and_parts, or_parts, not-true, leb-true, eq-eqb, eqb-true}
use Rattle.std.proofs.lemmas.List.Elements.{All-nil, All-cons}
use Rattle.std.proofs.lemmas.List.Folds.{Any-from_list_any}
use Rattle.std.proofs.lemmas.List.Kept.{AllPairs-cons}
use Rattle.std.specs.Str.{bytes_eq}
use Rattle.anti_ids.specs.Names.{is_plain}
use Rattle.anti_lang.specs.Program.{Block}
use Rattle.anti_lang.specs.Bodies.{block_of}
use Rattle.anti_lang.specs.Blocks.{lines_of}
use Rattle.anti_lang.specs.Faults.{block_fault, variable_fault}
use Rattle.anti_lang.specs.Spans.{spans_of}
use Rattle.anti_ids.specs.declared.limits.TheConstants.{GREATEST_SEED, LONGEST_VALUE, MOST_CHOICES, MOST_COUNTED, MOST_HANDLERS, MOST_LINES, MOST_REGIONS, MOST_REPLICAS, MOST_REQUESTS, MOST_ROOM, MOST_SERVICES, MOST_STORES, MOST_SUBS, MOST_TRIES, MOST_WORKERS}
use Rattle.anti_kind.specs.Starts.{is_pulled}
use Rattle.anti_app.specs.Sound.{are_distinct, is_few, is_sound_store, is_stored, fits_stores, fits_services, is_sound_body, is_sound_handler, is_sound_service, has_handler, hands_out, hands_to, is_sound_sub, is_sound_request, is_countable, is_part, is_shipment, is_sound_choice, are_sound_regions, are_sound_stores, are_sound_services, are_sound_subs, are_sound_requests, are_sound_choices, are_sound_numbers, is_sound}
use Rattle.anti_app.proofs.Kept.{some_passes}
use Rattle.anti_app.specs.declared.app.App.{App}
use Rattle.anti_app.specs.declared.app.StoreDef.{StoreDef}
use Rattle.anti_app.specs.declared.app.HandlerDef.{HandlerDef}
use Rattle.anti_app.specs.declared.app.ServiceDef.{ServiceDef}
use Rattle.anti_app.specs.declared.app.RequestDef.{RequestDef}
use Rattle.anti_app.specs.declared.app.SubDef.{SubDef}
use Rattle.anti_app.specs.declared.app.Choice.{Choice}
use Rattle.anti_app.specs.declared.app.Choice.TheVariants.{Take, Repost, Pull, Repull, Ship, Again, Go, Finish}

-- ---- lists
-- what a test says of each element that passes it
pub each_known : {T : Type 0} (test : T → Bool) (P : T → Type 0) → ((x : T) → test x ≡ true → P x) → (xs : List T) → list_all test xs ≡ true → All P xs
each_known test P known [] h = All-nil P
each_known test P known (x ∷ xs) h =
    let parts = and_parts (test x) (list_all test xs) h in All-cons P x xs (known x parts.0) (each_known test P known xs parts.1)

-- what none passes
pub none_known : {T : Type 0} (test : T → Bool) (xs : List T) → list_any test xs ≡ false → All (λ x. test x ≡ false) xs
none_known test [] h = All-nil (λ x. test x ≡ false)
none_known test (x ∷ xs) h =
    let parts = or_parts (test x) (list_any test xs) h in All-cons (λ y. test y ≡ false) x xs parts.0 (none_known test xs parts.1)

-- no two of distinct things are the same
pub pairs_known : {T : Type 0} (same : T → T → Bool) (xs : List T) → are_distinct same xs ≡ true → AllPairs (λ a b. same a b ≡ false) xs
pairs_known same [] h = λ i j d less within. absurd (omega arith)
pairs_known same (x ∷ xs) h =
    let parts = and_parts (not (list_any (same x) xs)) (are_distinct same xs) h in
    AllPairs-cons (λ a b. same a b ≡ false) x xs (none_known (same x) xs (not-true _ parts.0)) (pairs_known same xs parts.1)

-- numbers that are not the same differ
numbers_differ : (xs : List ℕ) → AllPairs (λ a b. nat_eq a b ≡ false) xs → AllPairs (λ a b. a ≡ b → ⊥) xs
numbers_differ xs h = λ i j d less within e. let same = eq-eqb _ _ e in let other = h i j d less within in cc

few_known : (most n : ℕ) → is_few most n ≡ true → (1 ≤ n) × (n ≤ most)
few_known most n h = let parts = and_parts _ _ h in (leb-true _ _ parts.0, leb-true _ _ parts.1)

-- a number that is found is there
number_there : (n : ℕ) (ns : List ℕ) → list_any (λ m. m == n) ns ≡ true → Contains ns n
number_there n ns h =
    let any = Any-from_list_any (λ m. m == n) ns h in subst (Contains ns) (eqb-true _ _ any.4) (any.0, any.2, any.3)

none_is : {T : Type 0} (o : Option T) → is_none o ≡ true → o ≡ None
none_is None h = refl
none_is (Some x) h = cc

-- ---- parts
pub record SoundStore (regions : ℕ) (store : StoreDef) : Type 0 where
  pub name : is_plain store.name ≡ true
  pub some : 1 ≤ length store.replicas.items
  pub few : length store.replicas.items ≤ MOST_REPLICAS
  pub below : All (λ region. region < regions) store.replicas.items
  pub distinct : AllPairs (λ a b. a ≡ b → ⊥) store.replicas.items
  pub tried : 1 ≤ store.tries
  pub few_tries : store.tries ≤ MOST_TRIES
  pub some_room : 1 ≤ store.room
  pub few_room : store.room ≤ MOST_ROOM

pub store_known : (regions : ℕ) (store : StoreDef) → is_sound_store regions store ≡ true → SoundStore regions store
unfolding is_sound_store
store_known regions store h =
    let one = and_parts _ _ h in let two = and_parts _ _ one.1 in let three = and_parts _ _ two.1 in let four = and_parts _ _ three.1 in
    let five = and_parts _ _ four.1 in
    let few = few_known _ _ two.0 in let tries = few_known _ _ five.0 in let room = few_known _ _ five.1 in
    record {
      name = one.0;
      some = few.0;
      few = few.1;
      below = each_known (λ region. nat_lt region regions) (λ region. region < regions) (λ region less. leb-true _ _ less) store.replicas.items three.0;
      distinct = numbers_differ _ (pairs_known nat_eq _ four.0);
      tried = tries.0;
      few_tries = tries.1;
      some_room = room.0;
      few_room = room.1;
    }

pub record SoundBody (stores : List StoreDef) (services : List ServiceDef) (region : ℕ) (body : Block) : Type 0 where
  pub few : length (lines_of body) ≤ MOST_LINES
  pub spans : spans_of body ≤ MOST_LINES
  pub blocks : block_fault (lines_of body) ≡ None
  pub variables : variable_fault (lines_of body) ≡ None
  pub fits : All (λ line. fits_stores stores region line ≡ true) (lines_of body)
  pub serves : All (λ line. fits_services services line ≡ true) (lines_of body)

pub body_known : (stores : List StoreDef) (services : List ServiceDef) (region : ℕ) (body : Block) → is_sound_body stores services region body ≡ true
    → SoundBody stores services region body
unfolding is_sound_body
body_known stores services region body h =
    let one = and_parts _ _ h in let two = and_parts _ _ one.1 in let three = and_parts _ _ two.1 in let four = and_parts _ _ three.1 in
    let five = and_parts _ _ four.1 in
    record {
      few = leb-true _ _ one.0;
      spans = leb-true _ _ two.0;
      blocks = none_is (block_fault (lines_of body)) three.0;
      variables = none_is (variable_fault (lines_of body)) four.0;
      fits = each_known (fits_stores stores region) (λ line. fits_stores stores region line ≡ true) (λ line fits. fits) (lines_of body) five.0;
      serves = each_known (fits_services services) (λ line. fits_services services line ≡ true) (λ line fits. fits) (lines_of body) five.1;
    }

pub record SoundHandler (stores : List StoreDef) (services : List ServiceDef) (region : ℕ) (handler : HandlerDef) : Type 0 where
  pub name : is_plain handler.name ≡ true
  pub body : SoundBody stores services region (block_of handler.body)
  pub spans : spans_of (block_of handler.body) ≤ MOST_LINES

pub handler_known : (stores : List StoreDef) (services : List ServiceDef) (region : ℕ) (handler : HandlerDef) → is_sound_handler stores services region handler ≡ true
    → SoundHandler stores services region handler
unfolding is_sound_handler
handler_known stores services region handler h =
    let one = and_parts _ _ h in let body = body_known stores services region (block_of handler.body) one.1 in
    record { name = one.0; body = body; spans = body.spans }

pub record SoundService (regions : ℕ) (stores : List StoreDef) (services : List ServiceDef) (service : ServiceDef) : Type 0 where
  pub name : is_plain service.name ≡ true
  pub region : service.region < regions
  pub own_name : is_stored stores service.name ≡ false
  pub few : length service.handlers.items ≤ MOST_HANDLERS
  pub handlers : All (SoundHandler stores services service.region) service.handlers.items
  pub distinct : AllPairs (λ a b. bytes_eq a.name b.name ≡ false) service.handlers.items

pub service_known : (regions : ℕ) (stores : List StoreDef) (services : List ServiceDef) (service : ServiceDef) → is_sound_service regions stores services service ≡ true
    → SoundService regions stores services service
unfolding is_sound_service
service_known regions stores services service h =
    let one = and_parts _ _ h in let two = and_parts _ _ one.1 in let three = and_parts _ _ two.1 in let four = and_parts _ _ three.1 in
    let five = and_parts _ _ four.1 in
    record {
      name = one.0;
      region = leb-true _ _ two.0;
      own_name = not-true _ three.0;
      few = leb-true _ _ four.0;
      handlers = each_known (is_sound_handler stores services service.region) (SoundHandler stores services service.region) (handler_known stores services service.region) service.handlers.items five.0;
      distinct = pairs_known (λ a b. bytes_eq a.name b.name) _ five.1;
    }

-- the service that a request names, that it has the handler, and that the value is short
pub record SoundRequest (services : List ServiceDef) (request : RequestDef) : Type 0 where
  pub service : ServiceDef
  pub found : slice_get services request.service ≡ Some service
  pub handler : request.handler < length service.handlers.items
  pub short : length request.value ≤ LONGEST_VALUE

named : (services : List ServiceDef) (request : RequestDef) (found : Option ServiceDef) → slice_get services request.service ≡ found
    → option_map_or (λ service. nat_lt request.handler (length service.handlers.items)) found false ≡ true → length request.value ≤ LONGEST_VALUE → SoundRequest services request
named services request None e h short = absurd (let wrong : false ≡ true = h in cc)
named services request (Some service) e h short = record { service = service; found = e; handler = leb-true _ _ h; short = short }

pub request_known : (services : List ServiceDef) (request : RequestDef) → is_sound_request services request ≡ true → SoundRequest services request
unfolding is_sound_request
request_known services request h =
    let one = and_parts (has_handler services request.service request.handler) (nat_le (length request.value) LONGEST_VALUE) h in
    named services request (slice_get services request.service) refl one.0 (leb-true _ _ one.1)

-- the handler of a subscription, and its store, which subscriptions pull from, with a replica where the service is
pub record SoundSub (stores : List StoreDef) (services : List ServiceDef) (sub : SubDef) : Type 0 where
  pub name : is_plain sub.name ≡ true
  pub channel : is_plain sub.channel ≡ true
  pub service : ServiceDef
  pub served : slice_get services sub.service ≡ Some service
  pub handler : sub.handler < length service.handlers.items
  pub store : StoreDef
  pub stored : slice_get stores sub.store ≡ Some store
  pub kind : is_pulled store.kind ≡ true
  pub near : Contains store.replicas.items service.region

pub sub_known : (stores : List StoreDef) (services : List ServiceDef) (sub : SubDef) → is_sound_sub stores services sub ≡ true → SoundSub stores services sub
unfolding is_sound_sub hands_out
sub_known stores services sub h =
    let one = and_parts _ _ h in let two = and_parts _ _ one.1 in let three = and_parts (has_handler services sub.service sub.handler) _ two.1 in
    let service = some_passes (λ (found : ServiceDef). nat_lt sub.handler (length found.handlers.items)) (slice_get services sub.service) three.0 in
    let hands : hands_to stores sub.store service.0 ≡ true = sym (ap (λ (o : Option ServiceDef). option_map_or (hands_to stores sub.store) o false) service.1) ∙ three.1 in
    let store = some_passes (hands_out service.0.region) (slice_get stores sub.store) hands in
    let parts = and_parts (is_pulled store.0.kind) (list_any (λ r. r == service.0.region) store.0.replicas.items) store.2 in
    record {
      name = one.0;
      channel = two.0;
      service = service.0;
      served = service.1;
      handler = leb-true _ _ service.2;
      store = store.0;
      stored = store.1;
      kind = parts.0;
      near = number_there service.0.region store.0.replicas.items parts.1;
    }

-- the store and the region of a shipment are there, and its numbers are from 1 to 4,096
abbrev pub SoundShipment : ℕ → ℕ → ℕ → ℕ → ℕ → Option ℕ → Type 0
SoundShipment regions stores store region version part =
    (store < stores) × (region < regions) × (1 ≤ version) × (version ≤ MOST_COUNTED) × IfSome part (λ p. (1 ≤ p) × (p ≤ MOST_COUNTED))

-- what a choice names is there, and its numbers are from 1 to 4,096
abbrev pub SoundChoice : App → Choice → Type 0
SoundChoice app (Take service nth) = (service < length app.services.items) × (1 ≤ nth) × (nth ≤ MOST_COUNTED)
SoundChoice app (Repost service number) = (service < length app.services.items) × (1 ≤ number) × (number ≤ MOST_COUNTED)
SoundChoice app (Pull sub) = sub < length app.subs.items
SoundChoice app (Repull sub version) = (sub < length app.subs.items) × (1 ≤ version) × (version ≤ MOST_COUNTED)
SoundChoice app (Ship store region version part) =
    SoundShipment (length app.regions.items) (length app.stores.items) store region version part
SoundChoice app (Again store region version part) =
    SoundShipment (length app.regions.items) (length app.stores.items) store region version part
SoundChoice app (Go object place) =
    (object < length app.stores.items + length app.services.items) × (1 ≤ place) × (place ≤ MOST_COUNTED)
SoundChoice app Finish = Unit {0}

counted_known : (n : ℕ) → is_countable n ≡ true → (1 ≤ n) × (n ≤ MOST_COUNTED)
counted_known n h = let parts = and_parts _ _ h in (leb-true _ _ parts.0, leb-true _ _ parts.1)

part_known : (part : Option ℕ) → is_part part ≡ true → IfSome part (λ p. (1 ≤ p) × (p ≤ MOST_COUNTED))
part_known None h = tt
part_known (Some part) h = counted_known part h

shipment_known : (regions stores store region version : ℕ) (part : Option ℕ) → is_shipment regions stores store region version part ≡ true
    → SoundShipment regions stores store region version part
shipment_known regions stores store region version part h =
    let one = and_parts _ _ h in let two = and_parts _ _ one.1 in let three = and_parts _ _ two.1 in
    let number = counted_known version three.0 in
    (leb-true _ _ one.0, leb-true _ _ two.0, number.0, number.1, part_known part three.1)

-- a thing that is there, and a number
numbered_known : (things thing number : ℕ) → (nat_lt thing things && is_countable number) ≡ true
    → (thing < things) × (1 ≤ number) × (number ≤ MOST_COUNTED)
numbered_known things thing number h =
    let one = and_parts _ _ h in let counted = counted_known number one.1 in (leb-true _ _ one.0, counted.0, counted.1)

pub choice_known : (app : App) (choice : Choice) → is_sound_choice app choice ≡ true → SoundChoice app choice
unfolding is_sound_choice
choice_known app (Take service nth) h = numbered_known _ service nth h
choice_known app (Repost service number) h = numbered_known _ service number h
choice_known app (Pull sub) h = leb-true _ _ h
choice_known app (Repull sub version) h = numbered_known _ sub version h
choice_known app (Ship store region version part) h = shipment_known _ _ store region version part h
choice_known app (Again store region version part) h = shipment_known _ _ store region version part h
choice_known app (Go object place) h = numbered_known _ object place h
choice_known app Finish h = tt

-- ---- the whole
pub record SoundApp (app : App) : Type 0 where
  pub some_region : 1 ≤ length app.regions.items
  pub few_regions : length app.regions.items ≤ MOST_REGIONS
  pub plain_regions : All (λ region. is_plain region ≡ true) app.regions.items
  pub regions : AllPairs (λ a b. bytes_eq a b ≡ false) app.regions.items
  pub few_stores : length app.stores.items ≤ MOST_STORES
  pub stores : All (SoundStore (length app.regions.items)) app.stores.items
  pub store_names : AllPairs (λ a b. bytes_eq a.name b.name ≡ false) app.stores.items
  pub few_services : length app.services.items ≤ MOST_SERVICES
  pub services : All (SoundService (length app.regions.items) app.stores.items app.services.items) app.services.items
  pub names : AllPairs (λ a b. bytes_eq a.name b.name ≡ false) app.services.items
  pub few_subs : length app.subs.items ≤ MOST_SUBS
  pub subs : All (SoundSub app.stores.items app.services.items) app.subs.items
  pub sub_names : AllPairs (λ a b. bytes_eq a.name b.name ≡ false) app.subs.items
  pub few_requests : length app.requests.items ≤ MOST_REQUESTS
  pub requests : All (SoundRequest app.services.items) app.requests.items
  pub few_choices : length app.choices.items ≤ MOST_CHOICES
  pub choices : All (SoundChoice app) app.choices.items
  pub seed : app.seed ≤ GREATEST_SEED
  pub some_worker : 1 ≤ app.workers
  pub few_workers : app.workers ≤ MOST_WORKERS

pub app_known : (app : App) → IsTrue (is_sound app) → SoundApp app
app_known app h =
    let regions : ℕ = length app.regions.items in
    let one = and_parts (are_sound_regions app.regions.items) _ h in
    let two = and_parts (are_sound_stores regions app.stores.items) _ one.1 in
    let three = and_parts (are_sound_services regions app.stores.items app.services.items) _ two.1 in
    let four = and_parts (are_sound_subs app.stores.items app.services.items app.subs.items) _ three.1 in
    let five = and_parts (are_sound_requests app.services.items app.requests.items) _ four.1 in
    let six = and_parts (are_sound_choices app app.choices.items) (are_sound_numbers app) five.1 in
    let few = and_parts _ _ one.0 in let named = and_parts _ _ few.1 in let count = few_known _ _ few.0 in
    let stores = and_parts _ _ two.0 in let more_stores = and_parts _ _ stores.1 in
    let services = and_parts _ _ three.0 in let more_services = and_parts _ _ services.1 in
    let subs = and_parts _ _ four.0 in let more_subs = and_parts _ _ subs.1 in
    let requests = and_parts _ _ five.0 in
    let choices = and_parts _ _ six.0 in
    let numbers = and_parts _ _ six.1 in let workers = few_known _ _ numbers.1 in
    record {
      some_region = count.0;
      few_regions = count.1;
      plain_regions = each_known is_plain (λ region. is_plain region ≡ true) (λ region plain. plain) app.regions.items named.0;
      regions = pairs_known bytes_eq _ named.1;
      few_stores = leb-true _ _ stores.0;
      stores = each_known (is_sound_store regions) (SoundStore regions) (store_known regions) app.stores.items more_stores.0;
      store_names = pairs_known (λ a b. bytes_eq a.name b.name) _ more_stores.1;
      few_services = leb-true _ _ services.0;
      services = each_known (is_sound_service regions app.stores.items app.services.items) (SoundService regions app.stores.items app.services.items)
          (service_known regions app.stores.items app.services.items) app.services.items more_services.0;
      names = pairs_known (λ a b. bytes_eq a.name b.name) _ more_services.1;
      few_subs = leb-true _ _ subs.0;
      subs = each_known (is_sound_sub app.stores.items app.services.items) (SoundSub app.stores.items app.services.items)
          (sub_known app.stores.items app.services.items) app.subs.items more_subs.0;
      sub_names = pairs_known (λ a b. bytes_eq a.name b.name) _ more_subs.1;
      few_requests = leb-true _ _ requests.0;
      requests = each_known (is_sound_request app.services.items) (SoundRequest app.services.items) (request_known app.services.items) app.requests.items requests.1;
      few_choices = leb-true _ _ choices.0;
      choices = each_known (is_sound_choice app) (SoundChoice app) (choice_known app) app.choices.items choices.1;
      seed = leb-true _ _ numbers.0;
      some_worker = workers.0;
      few_workers = workers.1;
    }
