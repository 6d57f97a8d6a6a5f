-- What the objects of an application start as.
use Rattle.std.specs.Prelude.{ℕ, cond, List, [], ◌∷◌, nat_eq, Option, None, Some, option_map, slice_get, flat_map, if◌then◌else◌}
use Rattle.std.specs.Option.{option_and_then}
use Rattle.anti_ids.specs.List.{plain}
use Rattle.anti_kind.specs.Kinds.{facts_of}
use Rattle.anti_kind.specs.declared.message.Message.{Message}
use Rattle.anti_kind.specs.declared.message.MessageKind.TheVariants as kinds
use Rattle.anti_kind.specs.Caches.{store_with}
use Rattle.anti_kind.specs.Objects.{Start, store, inbox}
use Rattle.anti_app.specs.declared.app.App.{App}
use Rattle.anti_app.specs.declared.app.StoreDef.{StoreDef}
use Rattle.anti_app.specs.declared.app.ServiceDef.{ServiceDef}
use Rattle.anti_app.specs.declared.app.HandlerDef.{HandlerDef}
use Rattle.anti_app.specs.declared.app.RequestDef.{RequestDef}
use Rattle.anti_app.specs.declared.objects.ObjectAt.{ObjectAt}
use Rattle.anti_app.specs.declared.objects.ObjectAt.TheVariants.{Store, Inbox}
use Rattle.anti_app.specs.Objects.{object_at}
use Rattle.anti_app.specs.Subs.{subs_on}

-- the message of a request: it has depth 0, and its baggage is the text of the empty lineage
abbrev pub message_to : RequestDef → Option HandlerDef → List Message
message_to r None = []
message_to r (Some h) =
    record { kind = kinds.Request; to = 0; depth = 0; handler = h.name; value = r.value; baggage = plain (49 ∷ 59 ∷ []) } ∷ []

abbrev pub message_of : ServiceDef → ℕ → RequestDef → List Message
message_of s service r = if nat_eq r.service service then message_to r (slice_get s.handlers.items r.handler) else []

-- the requests to a service, in the order of the application
abbrev pub requests_to : App → ServiceDef → ℕ → List Message
requests_to app s service = flat_map (message_of s service) app.requests.items

-- only a queue has tries
abbrev pub tries_of : StoreDef → ℕ
tries_of s = cond (facts_of s.kind).tried s.tries 0

-- only a store with caches has room
abbrev pub room_of : StoreDef → ℕ
room_of s = cond (facts_of s.kind).cached s.room 0

abbrev pub store_start : App → ℕ → StoreDef → Start
store_start app number s = store (store_with s.kind number s.replicas.items (subs_on app number) (tries_of s) (room_of s))

abbrev pub inbox_start : App → ℕ → ServiceDef → Start
inbox_start app service s = inbox (requests_to app s service)

-- the start of a store or of an inbox
abbrev pub start_at : App → ObjectAt → Option Start
start_at app (Store number) = option_map (store_start app number) (slice_get app.stores.items number)
start_at app (Inbox service) = option_map (inbox_start app service) (slice_get app.services.items service)

-- the object with a number
abbrev pub start_of : App → ℕ → Option Start
start_of app object = option_and_then (start_at app) (object_at app object)
