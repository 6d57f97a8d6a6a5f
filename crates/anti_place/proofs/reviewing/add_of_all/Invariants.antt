use Rattle.std.proofs.Common.{◌≡◌, ◌++◌, drop}
use Rattle.anti_place.specs.Reviews.{services_say}
use Rattle.anti_place.specs.inner.Said.{said}
use Rattle.anti_place.proofs.reviewing.add_of_all.Given as goal

-- what is said of those before is added
abbrev pub invariant-loop-service : goal.invariant-loop-service
invariant-loop-service l =
    l.remarks.items ++ services_say (said l.subject l.app) l.service (drop l.service l.app.services.items)
    ≡ l.fn.remarks.items ++ services_say (said l.subject l.app) 0 l.app.services.items
