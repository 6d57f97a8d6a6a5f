use Rattle.std.proofs.Common.{arith}
use Rattle.std.proofs.lemmas.Grind.{common_steps}
use Rattle.anti_place.proofs.targets.+posts.Goals as goal

pub some_posts-loop-statement-preserved : goal.some_posts-loop-statement-preserved
some_posts-loop-statement-preserved t c = grind (arith, common_steps)

pub some_posts-returns-then-posts_in : goal.some_posts-returns-then-posts_in
some_posts-returns-then-posts_in t c = grind (arith, common_steps)

pub some_posts-returns : goal.some_posts-returns
some_posts-returns t c = grind (arith, common_steps)
