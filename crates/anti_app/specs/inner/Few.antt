-- Things that are few enough for numbers of four bytes.
use Rattle.std.specs.Prelude.{◌+◌, ◌^◌, ◌<◌, List, length}
use Rattle.std.specs.List.{All}
use Rattle.anti_app.specs.declared.app.App.{App}
use Rattle.anti_app.specs.declared.app.ServiceDef.{ServiceDef}

-- Services, each with its handlers.
pub record HaveNumbers (services : List ServiceDef) : Type 0 where
  pub few : length services < 2 ^ 32
  pub each : All (λ service. length service.handlers.items < 2 ^ 32) services

-- The objects, the regions and the subscriptions of an application.
pub record AreFew (app : App) : Type 0 where
  pub regions : length app.regions.items < 2 ^ 32
  pub objects : length app.stores.items + length app.services.items < 2 ^ 32
  pub subs : length app.subs.items < 2 ^ 32
