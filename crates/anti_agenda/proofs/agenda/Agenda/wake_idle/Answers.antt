use Rattle.std.proofs.Common.{refl, append-nil, sym, ◌∙◌}
use Rattle.anti_agenda.specs.declared.agenda.Agenda.{Agenda}
use Rattle.anti_agenda.proofs.Changes.{more_idle, wakes_idle, wakes_same}
use Rattle.anti_agenda.proofs.agenda.Agenda.wake_idle.Goals as goal

pub loop-offer-preserved : goal.loop-offer-preserved
loop-offer-preserved c =
    let old : Agenda = c.loop-offer.self in
    let new : Agenda = record { awake = c.insert.new.self; asleep = old.asleep; idle = c.pop.new.self } in
    more_idle c.args.self.now old new c.loop-offer.invariant
    (wakes_idle old new c.in-Some.offer c.in-Some.ensures.items c.in_ok-insert.ensures.more refl)

pub returns-clause-wakes : goal.returns-clause-wakes
returns-clause-wakes c =
    let old : Agenda = c.loop-offer.self in
    let new : Agenda = record { awake = old.awake; asleep = old.asleep; idle = c.pop.new.self } in
    more_idle c.args.self.now old new c.loop-offer.invariant
    (wakes_same old new refl refl (sym (c.in_default.ensures.items ∙ append-nil new.idle.items)))
