use Rattle.std.proofs.Common.{take}
use Rattle.anti_past.proofs.Asked.{by_process, carries, still_asks}
use Rattle.anti_past.proofs.processes_before.carried_by.Goals as goal

pub of-requires : goal.of-requires
of-requires c = c.requires c.in-Process.birth c.in-Process.is

pub returns-in_err-asked-in-Process : goal.returns-in_err-asked-in-Process
returns-in_err-asked-in-Process c = λ app trace j n.
    absurd (still_asks app trace j _ c.args.entry.now n c.in-Process.birth c.in-Process.is c.in_ok-process-in-Process.process.now
    (c.in_ok-process-in-Process.ensures app (take j trace) n.next.are) (c.in_err-asked-in-Process.ensures.none app))

pub returns-in_ok-asked-in-Process : goal.returns-in_ok-asked-in-Process
returns-in_ok-asked-in-Process c = λ app trace j n.
    carries app trace j _ c.args.entry.now n c.in-Process.birth c.in-Process.is c.in_ok-process-in-Process.process.now
    c.in_ok-asked-in-Process.asked.carried.now (c.in_ok-process-in-Process.ensures app (take j trace) n.next.are) (c.in_ok-asked-in-Process.ensures.carried app)

pub returns-in_default : goal.returns-in_default
returns-in_default c = λ app trace j n.
    let by = by_process app trace j _ c.args.entry.now n in
    absurd (c.in_default.not-Process by.0 by.1)
