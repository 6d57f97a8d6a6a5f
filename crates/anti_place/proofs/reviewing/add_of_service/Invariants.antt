use Rattle.std.proofs.Common.{◌≡◌, ◌++◌, drop}
use Rattle.anti_place.specs.Reviews.{handlers_say}
use Rattle.anti_place.specs.inner.Said.{said}
use Rattle.anti_place.proofs.reviewing.add_of_service.Given as goal

-- what is said of those before is added
abbrev pub invariant-loop-handler : goal.invariant-loop-handler
invariant-loop-handler l =
    l.remarks.items ++ handlers_say (said l.subject l.app) l.service l.handler (drop l.handler l.handlers)
    ≡ l.fn.remarks.items ++ handlers_say (said l.subject l.app) l.service 0 l.handlers
