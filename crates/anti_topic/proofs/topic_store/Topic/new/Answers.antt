use Rattle.std.proofs.Common.{List, length, replicate, refl, sym, ap, ◌∙◌}
use Rattle.anti_kind.specs.declared.store_kind.Sub.{Sub}
use Rattle.anti_topic.specs.declared.pull_cursor.PullCursor.{PullCursor}
use Rattle.anti_topic.specs.declared.topic_store.Topic.{Topic}
use Rattle.anti_topic.specs.TopicStates.{its_store}
use Rattle.anti_topic.proofs.Standing.{stands_empty}
use Rattle.anti_topic.proofs.topic_store.Topic.new.Goals as goal

pub returns-clause-stands : goal.returns-clause-stands
returns-clause-stands c =
    let base = c.in_ok-base.ensures in
    let topic : Topic = record { base = c.in_ok-base.base; channels = c.new-2.result; subs = c.in_ok-subs.subs; cursors = c.in_ok-cursors.cursors } in
    stands_empty topic (base.stands (its_store topic) (record { kind_is = refl; number_is = base.number; regions_are = base.regions })) c.new-2.ensures
    (c.in_ok-cursors.ensures ∙ ap (λ (subs : List Sub). let blank : PullCursor = record { count = 0; last = 0 } in replicate (length subs) blank) (sym c.in_ok-subs.ensures))
