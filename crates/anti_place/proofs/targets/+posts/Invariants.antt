use Rattle.std.proofs.Common.{◌≡◌}
use Rattle.std.specs.List.{list_any}
use Rattle.anti_lang.specs.Blocks.{lines_of}
use Rattle.anti_place.specs.inner.Posted.{posts_it}
use Rattle.anti_place.proofs.Stepping.{from}
use Rattle.anti_place.proofs.targets.+posts.Given as goal

-- none of those before posts to it
abbrev pub invariant-some_posts-loop-statement : goal.invariant-some_posts-loop-statement
invariant-some_posts-loop-statement l =
    list_any (posts_it l.posting l.app l.target.service l.target.handler) (lines_of (from l.statements l.statement-index))
    ≡ list_any (posts_it l.posting l.app l.target.service l.target.handler) (lines_of (from l.statements 0))
