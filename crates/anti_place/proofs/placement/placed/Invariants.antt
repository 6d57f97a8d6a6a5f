use Rattle.std.proofs.Common.{◌≡◌, drop}
use Rattle.anti_place.specs.Placements.{placement, services_from}
use Rattle.anti_place.proofs.placement.placed.Given as goal

-- none of those before has a handler that fails
abbrev pub invariant-loop-service : goal.invariant-loop-service
invariant-loop-service l = services_from l.app l.service (drop l.service l.app.services.items) ≡ placement l.app
