use Rattle.std.proofs.Common.{refl, ap}
use Rattle.anti_kind.specs.Store.{is_pull}
use Rattle.anti_topic.specs.TopicStates.{its_store}
use Rattle.anti_topic.proofs.Pulling.{topic_base}
use Rattle.anti_topic.proofs.Standing.{stands_with}
use Rattle.anti_topic.proofs.topic_store.Topic.write.Goals as goal

pub write-requires : goal.write-requires
write-requires c =
    let m = c.args.self.now in
    let may = c.requires.may in (
      its_store m,
      c.args.channel.now,
      record {
        may = record { history = may.history; stands_for = topic_base m may.history may.stands_for; is_ready = may.is_ready; fits = may.fits };
        is_due = c.requires.is_due;
      },
    )

pub returns-clause-stands : goal.returns-clause-stands
returns-clause-stands c = λ h e at f is given.
    let lineage = c.args.lineage.now in
    let m = c.args.self.now in
    let channel = c.args.channel.now in
    let wrote = c.in_ok-write.ensures in
    stands_with m h e at f (ap is_pull is) c.write.new.self c.add.new.self wrote.number wrote.regions
    (wrote.stands (its_store m) h e channel (topic_base m h at) f is given)
    (c.add.ensures (its_store m) h e c.args.value.now lineage at.legal f refl is (c.in_ok-make_place.ensures.counts h at.state.counts))
