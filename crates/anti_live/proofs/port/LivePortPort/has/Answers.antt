use Rattle.anti_live.proofs.PassCalls.{is_there}
use Rattle.anti_live.proofs.port.LivePortPort.has.Goals as goal

pub returns : goal.returns
returns g c = rw (← c.self.view_is) (is_there c.self.inside.shareds.now c.self.inside.passes.items c.args.object c.self.invariant)
