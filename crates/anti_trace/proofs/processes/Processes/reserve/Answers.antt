use Rattle.anti_trace.specs.declared.processes.AtObject.{AtObject}
use Rattle.anti_trace.proofs.Changed.{changes_same}
use Rattle.anti_trace.proofs.processes.Processes.reserve.Goals as goal

pub returns-in_err-reserve-clause-changes : goal.returns-in_err-reserve-clause-changes
returns-in_err-reserve-clause-changes c =
    let new : AtObject = record { born = c.reserve.new.self } in
    changes_same c.args.self.now.at.items c.args.object c.index_mut-here.result.now new c.index_mut-here.ensures.value c.requires c.reserve.ensures.items

pub returns-clause-changes : goal.returns-clause-changes
returns-clause-changes c =
    let new : AtObject = record { born = c.reserve.new.self } in
    changes_same c.args.self.now.at.items c.args.object c.index_mut-here.result.now new c.index_mut-here.ensures.value c.requires c.reserve.ensures.items
