use Rattle.anti_agenda.proofs.Changes.{on_both, stirred_once, stirred_twice}
use Rattle.anti_agenda.proofs.agenda.Agenda.stir.Goals as goal

pub returns-in_ok-wake_waiting-in-Shipped : goal.returns-in_ok-wake_waiting-in-Shipped
returns-in_ok-wake_waiting-in-Shipped c =
    let idle = c.in_ok-wake_idle.ensures in
    let handed = c.in_ok-wake_waiting-in-Shipped.ensures in
    let last = c.wake_waiting-in-Shipped in
    on_both last.result
    (stirred_twice c.args.object c.in-Shipped.region c.in-Shipped.version c.args.brought c.in-Shipped.is c.args.self.now
    c.wake_idle.new.self c.wake_waiting.new.self last.new.self idle.wakes idle.none_idle handed.wakes handed.none_waits)
    last.ensures.wakes last.ensures.none_waits

pub returns-in_default : goal.returns-in_default
returns-in_default c =
    let idle = c.in_ok-wake_idle.ensures in
    let last = c.wake_waiting-in_default in
    on_both last.result
    (stirred_once c.args.object c.args.brought c.args.self.now c.wake_idle.new.self last.new.self c.in_default.not-Shipped idle.wakes
    idle.none_idle)
    last.ensures.wakes last.ensures.none_waits
