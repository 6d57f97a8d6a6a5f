use Rattle.std.proofs.Common.{ap, ◌∙◌}
use Rattle.anti_kind.specs.Objects.{weight}
use Rattle.anti_queue.specs.QueueStates.{its_store}
use Rattle.anti_queue.proofs.Quiet.{quiet}
use Rattle.anti_queue.proofs.Standing.{base_at, stands_other}
use Rattle.anti_queue.proofs.queue_store.Queue.note.Goals as goal

pub returns-clause-stands : goal.returns-clause-stands
returns-clause-stands c = λ h e at f is.
    let m = c.args.self.now in
    let noted = c.note.ensures in
    let q = quiet (its_store m) h e.call is in
    stands_other m c.note.new.self h e at q.writes q.ships q.pulling q.settling noted.number noted.regions
    (noted.stands (its_store m) h e (base_at m h at) f q.other (ap weight f.reply ∙ q.weighs))
