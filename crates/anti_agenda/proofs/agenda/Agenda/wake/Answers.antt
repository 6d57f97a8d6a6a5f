use Rattle.anti_agenda.proofs.Changes.{woken}
use Rattle.anti_agenda.proofs.agenda.Agenda.wake.Goals as goal

pub returns-clause-ok : goal.returns-clause-ok
returns-clause-ok c = woken c.args.self.now c.args.offer c.insert.new.self c.in_ok-insert.ensures.more
