use Rattle.std.proofs.Common.{◌≡◌, drop}
use Rattle.std.specs.List.{list_any}
use Rattle.anti_place.specs.inner.Posted.{posts_it, some_of}
use Rattle.anti_place.specs.Placements.{some_line}
use Rattle.anti_place.proofs.targets.is_posted.Given as goal

-- none of those before has a line that posts to it
abbrev pub invariant-loop-service : goal.invariant-loop-service
invariant-loop-service l =
    list_any (λ s. some_of (posts_it l.posting l.app l.target.service l.target.handler) s.handlers.items) (drop l.service-index l.app.services.items)
    ≡ some_line (posts_it l.posting l.app l.target.service l.target.handler) l.app
