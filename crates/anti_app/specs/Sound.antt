-- What an application keeps, whatever is done with it: counts, names that differ, and numbers of things that are there.
use Rattle.std.specs.Prelude.{ℕ, ◌+◌, List, [], ◌∷◌, Bool, true, false, not, ◌&&◌, ◌==◌, nat_le, nat_lt, nat_eq, length, slice_get, Option, Some, None, is_none}
use Rattle.std.specs.List.{list_all, list_any}
use Rattle.std.specs.Option.{option_map_or}
use Rattle.std.specs.Str.{bytes_eq}
use Rattle.anti_ids.specs.Names.{is_plain}
use Rattle.anti_kind.specs.Kinds.{facts_of}
use Rattle.anti_kind.specs.declared.store_kind.StoreKind.{StoreKind}
use Rattle.anti_kind.specs.Starts.{is_pulled}
use Rattle.anti_lang.specs.Program.{Block, Write, Read, Scan, Poll, Call, Send}
use Rattle.anti_lang.specs.Bodies.{block_of}
use Rattle.anti_lang.specs.Lines.{Line, Does}
use Rattle.anti_lang.specs.Blocks.{lines_of}
use Rattle.anti_lang.specs.Faults.{block_fault, variable_fault}
use Rattle.anti_lang.specs.Spans.{spans_of}
use Rattle.anti_ids.specs.declared.limits.TheConstants.{GREATEST_SEED, LONGEST_VALUE, MOST_CHOICES, MOST_COUNTED, MOST_HANDLERS, MOST_LINES, MOST_REGIONS, MOST_REPLICAS, MOST_REQUESTS, MOST_ROOM, MOST_SERVICES, MOST_STORES, MOST_SUBS, MOST_TRIES, MOST_WORKERS}
use Rattle.anti_app.specs.declared.app.App.{App}
use Rattle.anti_app.specs.declared.app.StoreDef.{StoreDef}
use Rattle.anti_app.specs.declared.app.HandlerDef.{HandlerDef}
use Rattle.anti_app.specs.declared.app.ServiceDef.{ServiceDef}
use Rattle.anti_app.specs.declared.app.RequestDef.{RequestDef}
use Rattle.anti_app.specs.declared.app.SubDef.{SubDef}
use Rattle.anti_app.specs.declared.app.Choice.{Choice}
use Rattle.anti_app.specs.declared.app.Choice.TheVariants.{Take, Repost, Pull, Repull, Ship, Again, Go, Finish}
use Rattle.anti_app.specs.Objects.{has_named}

-- No two of these are the same.
abbrev pub are_distinct : {T : Type 0} → (T → T → Bool) → List T → Bool
are_distinct same [] = true
are_distinct same (x ∷ xs) = not (list_any (same x) xs) && are_distinct same xs

-- a number from 1 to this
abbrev pub is_few : ℕ → ℕ → Bool
is_few most n = nat_le 1 n && nat_le n most

-- ---- stores
-- a plain name, replicas, each a region, and distinct, tries and room
unfoldable pub is_sound_store : ℕ → StoreDef → Bool
is_sound_store regions store =
    is_plain store.name && (is_few MOST_REPLICAS (length store.replicas.items)
    && (list_all (λ region. nat_lt region regions) store.replicas.items && (are_distinct nat_eq store.replicas.items
    && (is_few MOST_TRIES store.tries && is_few MOST_ROOM store.room))))

-- Whether a store has this name.
abbrev pub is_stored : List StoreDef → List ℕ → Bool
is_stored stores name = list_any (λ store. bytes_eq store.name name) stores

-- whether a store has this name, a kind that passes a test, and a replica in this region
unfoldable pub serves : (StoreKind → Bool) → List ℕ → ℕ → StoreDef → Bool
serves test name region store =
    bytes_eq store.name name && (test store.kind && list_any (λ r. r == region) store.replicas.items)

-- Whether the store of a name has such a kind, and a replica in a region.
abbrev pub is_near : (StoreKind → Bool) → List StoreDef → List ℕ → ℕ → Bool
is_near test stores name region = list_any (serves test name region) stores

-- ---- services
-- Whether the store of a line, where it names one, is there and fits the line in the region where the handler runs.
unfoldable pub fits_stores : List StoreDef → ℕ → Line → Bool
fits_stores stores region (Does (Write store key value variable untracked)) = is_stored stores store
fits_stores stores region (Does (Read store key variable)) = is_near (λ kind. (facts_of kind).keyed) stores store region
fits_stores stores region (Does (Scan store prefix variable)) = is_near (λ kind. (facts_of kind).scanned) stores store region
fits_stores stores region (Does (Poll store key variable)) = is_near (λ kind. (facts_of kind).polled) stores store region
fits_stores stores region line = true

abbrev pub is_served : List ServiceDef → List ℕ → List ℕ → Bool
is_served services service handler = list_any (λ s. bytes_eq s.name service && has_named handler s.handlers.items) services

-- Whether the handler of a line that posts a call or a send is there.
unfoldable pub fits_services : List ServiceDef → Line → Bool
fits_services services (Does (Call service handler value variable)) = is_served services service handler
fits_services services (Does (Send service handler value)) = is_served services service handler
fits_services services line = true

-- at most `MOST_LINES` lines, that begin as many spans at most, with no fault of blocks or variables, each of which has its store and its handler
unfoldable pub is_sound_body : List StoreDef → List ServiceDef → ℕ → Block → Bool
is_sound_body stores services region body =
    nat_le (length (lines_of body)) MOST_LINES && (nat_le (spans_of body) MOST_LINES && (is_none (block_fault (lines_of body))
    && (is_none (variable_fault (lines_of body)) && (list_all (fits_stores stores region) (lines_of body) && list_all (fits_services services) (lines_of body)))))

-- a plain name and a sound body
unfoldable pub is_sound_handler : List StoreDef → List ServiceDef → ℕ → HandlerDef → Bool
is_sound_handler stores services region handler = is_plain handler.name && is_sound_body stores services region (block_of handler.body)

-- a plain name that no store has, a region that is there, and at most `MOST_HANDLERS` handlers, of distinct names
unfoldable pub is_sound_service : ℕ → List StoreDef → List ServiceDef → ServiceDef → Bool
is_sound_service regions stores services service =
    is_plain service.name && (nat_lt service.region regions && (not (is_stored stores service.name) && (nat_le (length service.handlers.items) MOST_HANDLERS
    && (list_all (is_sound_handler stores services service.region) service.handlers.items
    && are_distinct (λ a b. bytes_eq a.name b.name) service.handlers.items))))

-- the service of this number is there and has a handler of this number
abbrev pub has_handler : List ServiceDef → ℕ → ℕ → Bool
has_handler services service handler = option_map_or (λ found. nat_lt handler (length found.handlers.items)) (slice_get services service) false

-- ---- subscriptions
-- a store that subscriptions pull from, with a replica in this region
unfoldable pub hands_out : ℕ → StoreDef → Bool
hands_out region store = is_pulled store.kind && list_any (λ r. r == region) store.replicas.items

-- whether the store of this number is there and hands out in the region of a service
abbrev pub hands_to : List StoreDef → ℕ → ServiceDef → Bool
hands_to stores store service = option_map_or (hands_out service.region) (slice_get stores store) false

-- a plain name and a plain channel, a handler that is there, and a store that subscriptions pull from, with a replica where the service is
unfoldable pub is_sound_sub : List StoreDef → List ServiceDef → SubDef → Bool
is_sound_sub stores services sub =
    is_plain sub.name && (is_plain sub.channel && (has_handler services sub.service sub.handler
    && option_map_or (hands_to stores sub.store) (slice_get services sub.service) false))

-- ---- requests and choices
-- the handler is there, and the value has at most `LONGEST_VALUE` bytes
unfoldable pub is_sound_request : List ServiceDef → RequestDef → Bool
is_sound_request services request = has_handler services request.service request.handler && nat_le (length request.value) LONGEST_VALUE

-- a number of a choice
abbrev pub is_countable : ℕ → Bool
is_countable n = nat_le 1 n && nat_le n MOST_COUNTED

abbrev pub is_part : Option ℕ → Bool
is_part None = true
is_part (Some part) = is_countable part

-- a store and a region that are there, a version and a part
abbrev pub is_shipment : ℕ → ℕ → ℕ → ℕ → ℕ → Option ℕ → Bool
is_shipment regions stores store region version part =
    nat_lt store stores && (nat_lt region regions && (is_countable version && is_part part))

-- Each number of a choice is in its range, and what it names is there.
unfoldable pub is_sound_choice : App → Choice → Bool
is_sound_choice app (Take service nth) = nat_lt service (length app.services.items) && is_countable nth
is_sound_choice app (Repost service number) = nat_lt service (length app.services.items) && is_countable number
is_sound_choice app (Pull sub) = nat_lt sub (length app.subs.items)
is_sound_choice app (Repull sub version) = nat_lt sub (length app.subs.items) && is_countable version
is_sound_choice app (Ship store region version part) =
    is_shipment (length app.regions.items) (length app.stores.items) store region version part
is_sound_choice app (Again store region version part) =
    is_shipment (length app.regions.items) (length app.stores.items) store region version part
is_sound_choice app (Go object place) = nat_lt object (length app.stores.items + length app.services.items) && is_countable place
is_sound_choice app Finish = true

-- ---- the whole
-- at most `MOST_REGIONS` plain names that differ, and at least one
abbrev pub are_sound_regions : List (List ℕ) → Bool
are_sound_regions regions = is_few MOST_REGIONS (length regions) && (list_all is_plain regions && are_distinct bytes_eq regions)

-- at most `MOST_STORES` sound stores of distinct names
abbrev pub are_sound_stores : ℕ → List StoreDef → Bool
are_sound_stores regions stores =
    nat_le (length stores) MOST_STORES && (list_all (is_sound_store regions) stores && are_distinct (λ a b. bytes_eq a.name b.name) stores)

-- at most `MOST_SERVICES` sound services of distinct names
abbrev pub are_sound_services : ℕ → List StoreDef → List ServiceDef → Bool
are_sound_services regions stores services =
    nat_le (length services) MOST_SERVICES && (list_all (is_sound_service regions stores services) services && are_distinct (λ a b. bytes_eq a.name b.name) services)

-- at most `MOST_SUBS` sound subscriptions of distinct names
abbrev pub are_sound_subs : List StoreDef → List ServiceDef → List SubDef → Bool
are_sound_subs stores services subs =
    nat_le (length subs) MOST_SUBS && (list_all (is_sound_sub stores services) subs && are_distinct (λ a b. bytes_eq a.name b.name) subs)

-- at most `MOST_REQUESTS` sound requests
abbrev pub are_sound_requests : List ServiceDef → List RequestDef → Bool
are_sound_requests services requests = nat_le (length requests) MOST_REQUESTS && list_all (is_sound_request services) requests

-- at most `MOST_CHOICES` sound choices
abbrev pub are_sound_choices : App → List Choice → Bool
are_sound_choices app choices = nat_le (length choices) MOST_CHOICES && list_all (is_sound_choice app) choices

-- the numbers of a run with workers
abbrev pub are_sound_numbers : App → Bool
are_sound_numbers app = nat_le app.seed GREATEST_SEED && is_few MOST_WORKERS app.workers

-- What an application keeps.
abbrev pub is_sound : App → Bool
is_sound app =
    are_sound_regions app.regions.items && (are_sound_stores (length app.regions.items) app.stores.items
    && (are_sound_services (length app.regions.items) app.stores.items app.services.items
    && (are_sound_subs app.stores.items app.services.items app.subs.items
    && (are_sound_requests app.services.items app.requests.items
    && (are_sound_choices app app.choices.items && are_sound_numbers app)))))
