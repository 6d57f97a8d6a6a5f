use Rattle.std.proofs.Common.{arith}
use Rattle.std.proofs.lemmas.Grind.{common_steps}
use Rattle.anti_kind.specs.declared.actor.Actor.TheVariants.{Carrier}
use Rattle.anti_play.proofs.KeptWorld.{stamp_more}
use Rattle.anti_play.proofs.kept_world.last_carried.Goals as goal

pub loop-entry-preserved : goal.loop-entry-preserved
loop-entry-preserved c =
    let more = stamp_more (Carrier 0) c.args.entries.now c.loop-entry.entry-index c.entry-item.result c.loop-entry-test.true c.entry-item.is in
    grind arith

pub returns : goal.returns
returns c = grind (arith, common_steps)
