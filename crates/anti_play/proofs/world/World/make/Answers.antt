use Rattle.anti_play.proofs.HasPlayed.{steps_chosen}
use Rattle.anti_play.proofs.world.World.make.Goals as goal

pub returns-in_default : goal.returns-in_default
returns-in_default c = λ run number s.
    steps_chosen c.args.app.now run number c.args.choice.now c.in_default.not-Finish c.choose.result c.choose.new.self (c.choose.ensures.chose run.trace s)
