use Rattle.anti_replicas.proofs.Standing.{shippable, stands_ship}
use Rattle.anti_replicas.proofs.replicas.Replicas.ship.Goals as goal

pub mark-requires : goal.mark-requires
mark-requires c = shippable c.args.self.now c.args.region c.args.version c.args.part c.requires

pub returns-clause-stands : goal.returns-clause-stands
returns-clause-stands c = λ s h e at f is. stands_ship c.args.self.now c.mark.new.self s h e c.args.region c.args.version c.args.part at f is c.mark.ensures
