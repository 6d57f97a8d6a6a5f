use Rattle.anti_agenda.specs.declared.agenda.Agenda.{Agenda}
use Rattle.std.proofs.Common.{refl}
use Rattle.anti_agenda.proofs.Changes.{idled}
use Rattle.anti_agenda.proofs.agenda.Agenda.idle.Goals as goal

pub returns-clause-ok : goal.returns-clause-ok
returns-clause-ok c =
    let old : Agenda = c.args.self.now in
    let with_one : Agenda = record { awake = old.awake; asleep = old.asleep; idle = c.push.new.self } in
    idled old with_one c.rest.new.self c.args.offer refl refl c.in_ok-push.ensures.items c.rest.ensures
