-- The parts of the application that the tables of a document state. A document that fails no rule of the format names what is there
-- and states bodies, so what stands for anything else is never read.
use Rattle.std.specs.Prelude.{ℕ, ℤ, pos, codes, List, nat_le, length, map, Option, Some, if◌then◌else◌}
use Rattle.std.specs.Option.{option_and_then}
use Rattle.std.specs.Result.{result_unwrap_or}
use Rattle.anti_ids.specs.List.{Listed, plain, empty}
use Rattle.anti_ids.specs.declared.limits.TheConstants.{MOST_LINES}
use Rattle.anti_lang.specs.Program.{End}
use Rattle.anti_lang.specs.Bodies.{body_of}
use Rattle.anti_lang.specs.Parsing.{parsed}
use Rattle.anti_lang.specs.declared.statement.Statement.{Statement}
use Rattle.toml.specs.Data.{Data, Members, as_integer}
use Rattle.anti_kind.specs.Kinds.{kind_of}
use Rattle.anti_rules.specs.Trees.{things_at, things_in, text_of, member_in, text_at, name_in}
use Rattle.anti_app.specs.Places.{region_place, store_place, service_place, handler_place}
use Rattle.anti_app.specs.declared.app.StoreDef.{StoreDef}
use Rattle.anti_app.specs.declared.app.HandlerDef.{HandlerDef}
use Rattle.anti_app.specs.declared.app.ServiceDef.{ServiceDef}
use Rattle.anti_app.specs.declared.app.SubDef.{SubDef}
use Rattle.anti_app.specs.declared.app.RequestDef.{RequestDef}

-- The number that is found; the default where the key is left out.
abbrev pub number_or : ℕ → Option ℤ → ℕ
number_or default (Some (pos n)) = n
number_or default _ = default

-- ---- regions
-- The names of the regions.
abbrev pub regions_of : Members → List (List ℕ)
regions_of doc = map text_of (things_at (codes "regions") doc)

-- ---- stores
-- A store. Where it says nothing, it gives a message out three times, and a cache of it holds eight keys.
unfoldable pub store_of : List (List ℕ) → Data → StoreDef
store_of regions d = record {
  name = name_in d;
  kind = kind_of (text_at (codes "kind") d);
  replicas = plain (map (λ replica. region_place regions (text_of replica)) (things_in (codes "replicas") d));
  tries = number_or 3 (option_and_then as_integer (member_in (codes "tries") d));
  room = number_or 8 (option_and_then as_integer (member_in (codes "room") d));
}

-- The stores.
abbrev pub stores_of : Members → List StoreDef
stores_of doc = map (store_of (regions_of doc)) (things_at (codes "store") doc)

-- ---- services
-- The body that lines state.
abbrev pub body_in : List (List ℕ) → Listed Statement
body_in lines = if nat_le (length lines) MOST_LINES then body_of (result_unwrap_or (parsed lines) End) else empty

-- A handler.
unfoldable pub handler_of : Data → HandlerDef
handler_of d = record { name = name_in d; body = body_in (map text_of (things_in (codes "body") d)) }

-- A service.
unfoldable pub service_of : List (List ℕ) → Data → ServiceDef
service_of regions d = record {
  name = name_in d;
  region = region_place regions (text_at (codes "region") d);
  handlers = plain (map handler_of (things_in (codes "handler") d));
}

-- The services.
abbrev pub services_of : Members → List ServiceDef
services_of doc = map (service_of (regions_of doc)) (things_at (codes "service") doc)

-- the number of the service that a thing names, and of the handler that it names among those of that service
abbrev pub service_at : List ServiceDef → Data → ℕ
service_at services d = service_place services (text_at (codes "service") d)

abbrev pub handler_at : List ServiceDef → Data → ℕ
handler_at services d = handler_place services (service_at services d) (text_at (codes "handler") d)

-- ---- subscriptions
-- A subscription.
unfoldable pub sub_of : List StoreDef → List ServiceDef → Data → SubDef
sub_of stores services d = record {
  name = name_in d;
  store = store_place stores (text_at (codes "store") d);
  channel = text_at (codes "channel") d;
  service = service_at services d;
  handler = handler_at services d;
}

-- The subscriptions.
abbrev pub subs_of : Members → List SubDef
subs_of doc = map (sub_of (stores_of doc) (services_of doc)) (things_at (codes "sub") doc)

-- ---- requests
-- A request. Its value is empty where it says nothing.
unfoldable pub request_of : List ServiceDef → Data → RequestDef
request_of services d = record {
  service = service_at services d;
  handler = handler_at services d;
  value = text_at (codes "value") d;
}

-- The requests.
abbrev pub requests_of : Members → List RequestDef
requests_of doc = map (request_of (services_of doc)) (things_at (codes "request") doc)
