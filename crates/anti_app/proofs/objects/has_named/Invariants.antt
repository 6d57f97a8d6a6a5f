use Rattle.std.proofs.Common.{◌≡◌, drop}
use Rattle.anti_app.specs.Objects.{has_named}
use Rattle.anti_app.proofs.objects.has_named.Given as goal

-- none of those before has the name
abbrev pub invariant-loop-handler : goal.invariant-loop-handler
invariant-loop-handler l = has_named l.name (drop l.handler-index l.handlers) ≡ has_named l.name l.handlers
