use Rattle.std.proofs.Common.{sym, subst}
use Rattle.anti_topic.specs.TopicStates.{its_store}
use Rattle.anti_topic.specs.inner.Changes.{IsQuiet}
use Rattle.anti_topic.proofs.Pulling.{topic_base}
use Rattle.anti_topic.proofs.Standing.{stands_beside, weighs_one, quiet_writes, quiet_pulls, quiet_passing}
use Rattle.anti_topic.proofs.topic_store.Topic.pass.Goals as goal

pub pass-requires-clause-passing : goal.pass-requires-clause-passing
pass-requires-clause-passing c = quiet_passing c.args.c.now c.requires.quiet

pub returns-clause-stands : goal.returns-clause-stands
returns-clause-stands c = λ h e at f is.
    let m = c.args.self.now in
    let passed = c.pass.ensures in
    let quiet = subst IsQuiet (sym is) c.requires.quiet in
    stands_beside m h e at f (quiet_writes e.call quiet) (quiet_pulls e.call quiet) c.pass.new.self passed.number passed.regions
    (passed.stands (its_store m) h e (topic_base m h at) f is (weighs_one m h e f quiet))
