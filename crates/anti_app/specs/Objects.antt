-- The numbers of objects and handlers. The stores come first, in the order of the application, and then the inboxes of its
-- services.
use Rattle.anti_kind.specs.Kinds.{facts_of}
use Rattle.std.specs.Prelude.{ℕ, ◌+◌, suc, ◌==◌, Bool, false, List, [], ◌∷◌, Option, Some, None, length, map, nat_lt, slice_get, ◌-◌, if◌then◌else◌}
use Rattle.std.specs.List.{list_any}
use Rattle.std.specs.Option.{option_and_then, option_map_or}
use Rattle.std.specs.Str.{bytes_eq}
use Rattle.anti_lang.specs.Bodies.{block_of}
use Rattle.anti_lang.specs.Program.{Block, End}
use Rattle.anti_app.specs.Places.{store_place, service_place, handler_place}
use Rattle.anti_app.specs.declared.app.App.{App}
use Rattle.anti_app.specs.declared.app.HandlerDef.{HandlerDef}
use Rattle.anti_app.specs.declared.app.StoreDef.{StoreDef}
use Rattle.anti_app.specs.declared.objects.ObjectAt.{ObjectAt}
use Rattle.anti_app.specs.declared.objects.ObjectAt.TheVariants.{Store, Inbox}

-- Whether a service of this name has a handler of that name.
abbrev pub has_named : List ℕ → List HandlerDef → Bool
has_named name handlers = list_any (λ handler. bytes_eq handler.name name) handlers

-- the names of the stores, by their numbers
abbrev pub store_names : App → List (List ℕ)
store_names app = map (λ s. s.name) app.stores.items

-- the number of the store with a name
abbrev pub store_number : App → List ℕ → ℕ
store_number app name = store_place app.stores.items name

-- how many objects there are: the stores, and an inbox for each service
abbrev pub object_count : App → ℕ
object_count app = length app.stores.items + length app.services.items

-- what the object of a number is; none past the last of them
abbrev pub inbox_at : ℕ → ℕ → Option ObjectAt
inbox_at services service = if nat_lt service services then Some (Inbox service) else None

abbrev pub object_at : App → ℕ → Option ObjectAt
object_at app number =
    if nat_lt number (length app.stores.items) then Some (Store number)
    else inbox_at (length app.services.items) (number - length app.stores.items)

-- whether a number is that of a store
abbrev pub is_store : App → ℕ → Bool
is_store app number = nat_lt number (length app.stores.items)

-- the number of the inbox of a service
abbrev pub inbox_number : App → ℕ → ℕ
inbox_number app service = length app.stores.items + service

-- the inbox of the service with a name
abbrev pub inbox_of : App → List ℕ → ℕ
inbox_of app name = inbox_number app (service_place app.services.items name)

-- the number of the handler with a name, in its service
abbrev pub handler_number : App → ℕ → List ℕ → ℕ
handler_number app service name = handler_place app.services.items service name

-- whether a service has a handler with a name
abbrev pub has_handler : App → ℕ → List ℕ → Bool
has_handler app service name = option_map_or (λ s. has_named name s.handlers.items) (slice_get app.services.items service) false

-- the body of a handler by its number; the empty one, where there is no such handler
abbrev pub body_of : App → ℕ → ℕ → Block
body_of app service handler =
    option_map_or (λ h. block_of h.body) (option_and_then (λ s. slice_get s.handlers.items handler) (slice_get app.services.items service)) End

-- the region of a service
abbrev pub region_of : App → ℕ → ℕ
region_of app service = option_map_or (λ s. s.region) (slice_get app.services.items service) 0

-- whether the store of a number is a queue
abbrev pub is_queue_at : App → ℕ → Bool
is_queue_at app store = option_map_or (λ s. (facts_of s.kind).tried) (slice_get app.stores.items store) false

-- whether a store has a replica in a region
abbrev pub is_here : ℕ → StoreDef → Bool
is_here region store = list_any (λ replica. replica == region) store.replicas.items

-- whether the store of a number has a replica in a region
abbrev pub is_store_here : App → ℕ → ℕ → Bool
is_store_here app region store = option_map_or (is_here region) (slice_get app.stores.items store) false

-- the numbers of those of these stores that have a replica in a region, where the first of them has the number n
abbrev pub here_from : ℕ → ℕ → List StoreDef → List ℕ
here_from region n [] = []
here_from region n (s ∷ ss) = if is_here region s then n ∷ here_from region (suc n) ss else here_from region (suc n) ss

-- the numbers of the application's stores that have a replica in a region, ascending
abbrev pub stores_here : App → ℕ → List ℕ
stores_here app region = here_from region 0 app.stores.items
