use Rattle.std.proofs.Common.{◌≡◌, drop}
use Rattle.anti_place.specs.inner.Posted.{posts_it, some_of}
use Rattle.anti_place.proofs.targets.some_handler_posts.Given as goal

-- none of those before posts to it
abbrev pub invariant-loop-handler : goal.invariant-loop-handler
invariant-loop-handler l =
    some_of (posts_it l.posting l.app l.target.service l.target.handler) (drop l.handler-index l.handlers)
    ≡ some_of (posts_it l.posting l.app l.target.service l.target.handler) l.handlers
