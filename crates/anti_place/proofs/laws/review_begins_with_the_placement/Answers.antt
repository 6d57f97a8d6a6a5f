use Rattle.anti_place.proofs.Beginning.{begins_with, placed_where_none_fails}
use Rattle.anti_place.proofs.laws.review_begins_with_the_placement.Goals as goal

pub returns-clause-placed : goal.returns-clause-placed
returns-clause-placed c = λ app. placed_where_none_fails app

pub returns-clause-first : goal.returns-clause-first
returns-clause-first c = λ app service handler line reason is. begins_with app service handler line reason is
