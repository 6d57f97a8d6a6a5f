use Rattle.anti_agenda.proofs.Finding.{first_is}
use Rattle.anti_agenda.proofs.agenda.Agenda.first.Goals as goal

pub returns : goal.returns
returns c = first_is c.args.self.now c.first.result c.first.ensures
