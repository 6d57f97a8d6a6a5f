use Rattle.std.proofs.Common.{refl}
use Rattle.anti_agenda.specs.declared.agenda.Agenda.{Agenda}
use Rattle.anti_agenda.proofs.Changes.{more_waiting, wakes_sleeper}
use Rattle.anti_agenda.proofs.agenda.Agenda.wake_each.Goals as goal

pub loop-sleeper-smaller : goal.loop-sleeper-smaller
loop-sleeper-smaller c = c.remove.ensures.fewer c.in-Some.ensures.0

pub loop-sleeper-preserved : goal.loop-sleeper-preserved
loop-sleeper-preserved c =
    let old : Agenda = c.loop-sleeper.self in
    let new : Agenda = record { awake = c.insert.new.self; asleep = c.remove.new.self; idle = old.idle } in
    more_waiting c.args.object c.args.brought c.args.self.now old new c.loop-sleeper.invariant
    (wakes_sleeper c.args.object c.args.brought old new c.in-Some.sleeper c.in-Some.ensures c.remove.ensures.others
    c.in_ok-insert.ensures.more refl)
