use Rattle.anti_agenda.proofs.Changes.{put_to_sleep}
use Rattle.anti_agenda.proofs.agenda.Agenda.sleep.Goals as goal

pub returns-clause-ok : goal.returns-clause-ok
returns-clause-ok c =
    put_to_sleep c.args.self.now c.rest.new.self c.args.offer c.args.object c.args.awaited c.insert.new.self c.in_ok-insert.ensures.more
    c.rest.ensures
