use Rattle.std.proofs.Common.{[], ◌∷◌, refl}
use Rattle.anti_kind.specs.Starts.{queue_store}
use Rattle.anti_queue.specs.QueueStates.{QueueStands, its_start}
use Rattle.test_libraries.proofs.Subscribed.{queue_starts, is_first, stands_new}
use Rattle.test_libraries.proofs.queue.queue.Goals as goal

pub new-requires : goal.new-requires
new-requires c = queue_starts c.in-Ok.first c.in-Ok-sub.second c.in-Ok.ensures.region c.in-Ok.ensures.plain c.in-Ok-sub.ensures.region c.in-Ok-sub.ensures.plain

pub returns-clause-fresh : goal.returns-clause-fresh
returns-clause-fresh c =
    stands_new its_start QueueStands c.new.result _
    (queue_starts c.in-Ok.first c.in-Ok-sub.second c.in-Ok.ensures.region c.in-Ok.ensures.plain c.in-Ok-sub.ensures.region c.in-Ok-sub.ensures.plain)
    c.new.ensures.start c.new.ensures.stands

pub returns-clause-here : goal.returns-clause-here
returns-clause-here c = is_first its_start c.new.result (queue_store 0 (0 ∷ []) (c.in-Ok.first ∷ c.in-Ok-sub.second ∷ []) 2) refl refl c.new.ensures.start
