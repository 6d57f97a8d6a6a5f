use Rattle.anti_play.specs.Schedule.{finished}
use Rattle.anti_adversary.proofs.Made.{made_whole}
use Rattle.anti_adversary.proofs.player.Player.finish.Goals as goal

pub over-requires : goal.over-requires
over-requires c =
    let has = c.requires.player.made in
    record {
      app = c.args.app.now;
      trace = finished c.args.app.now has.trace;
      sound = c.requires.sound;
      stands = c.in_ok-finish.ensures.finished has.trace has.stands;
    }

pub returns : goal.returns
returns c =
    made_whole c.args.app.now c.args.self.world c.finish.new.self c.args.self.marks c.in_ok-trace.trace c.requires.player
    c.in_ok-finish.ensures.finished c.in_ok-finish.ensures.complete
    (λ t s. (c.in_ok-trace.ensures c.args.app.now t c.requires.sound s).0)
