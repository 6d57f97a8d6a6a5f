use Rattle.std.proofs.Common.{◌≡◌, drop}
use Rattle.anti_place.specs.declared.placement.Placement.{Placement}
use Rattle.anti_place.specs.Placements.{handlers_from}
use Rattle.anti_place.proofs.placement.placed_in.Given as goal

-- none of those before fails
abbrev pub invariant-loop-handler : goal.invariant-loop-handler
invariant-loop-handler l =
    (further : Placement) → handlers_from l.app l.service l.handler (drop l.handler l.handlers) further ≡ handlers_from l.app l.service 0 l.handlers further
