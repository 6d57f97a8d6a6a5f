use Rattle.std.proofs.Common.{◌≡◌, ◌<◌, length, arith, sym, ◌∙◌, subst}
use Rattle.anti_trace.specs.inner.Living.{AreInOrder, born_at}
use Rattle.anti_trace.proofs.Changed.{born_here}
use Rattle.anti_trace.proofs.InOrder.{in_order}
use Rattle.anti_trace.proofs.processes.Processes.find.Goals as goal
use Rattle.anti_trace.proofs.processes.Processes.find.Goals.{After-as_slice}

-- those of the object
here_are : (c : After-as_slice) → born_at c.args.self.now.at.items c.args.birth.object ≡ c.as_slice.result.now
here_are c =
    let within : c.args.birth.object < length c.args.self.now.at.items = omega (arith, c.if-object-len.true, c.len.ensures, c.args.self.now.at.ok.0) in
    born_here c.args.self.now.at.items c.args.birth.object c.index.result.now c.index.ensures within ∙ sym c.as_slice.ensures.value

pub position-requires : goal.position-requires
position-requires c =
    subst (AreInOrder c.args.birth.object) (here_are c)
    (in_order c.requires.app c.requires.trace c.requires.legal c.args.birth.object c.args.self.now.at.items c.requires.are.born)
