-- Where the things of an application stand that are found by their names: the place of the first with a name in its list, counted
-- from 0; how many there are, where none has it.
use Rattle.std.specs.Prelude.{ℕ, List, slice_get}
use Rattle.std.specs.List.{position_or_len}
use Rattle.std.specs.Option.{option_map_or}
use Rattle.std.specs.Str.{bytes_eq}
use Rattle.anti_app.specs.declared.app.StoreDef.{StoreDef}
use Rattle.anti_app.specs.declared.app.ServiceDef.{ServiceDef}

abbrev pub region_place : List (List ℕ) → List ℕ → ℕ
region_place regions name = position_or_len (λ region. bytes_eq region name) regions

abbrev pub store_place : List StoreDef → List ℕ → ℕ
store_place stores name = position_or_len (λ store. bytes_eq store.name name) stores

abbrev pub service_place : List ServiceDef → List ℕ → ℕ
service_place services name = position_or_len (λ service. bytes_eq service.name name) services

-- of a handler in the service of a number; 0 where there is no such service
abbrev pub handler_place : List ServiceDef → ℕ → List ℕ → ℕ
handler_place services service name =
    option_map_or (λ s. position_or_len (λ handler. bytes_eq handler.name name) s.handlers.items) (slice_get services service) 0
