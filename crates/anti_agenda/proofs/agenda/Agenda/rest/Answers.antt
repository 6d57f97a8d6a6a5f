use Rattle.anti_agenda.proofs.Changes.{gone}
use Rattle.anti_agenda.proofs.agenda.Agenda.rest.Goals as goal

pub returns : goal.returns
returns c = gone c.args.self.now c.args.offer c.remove.new.self c.remove.ensures.others c.remove.ensures.fewer
