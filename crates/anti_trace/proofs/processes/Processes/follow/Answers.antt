use Rattle.anti_trace.proofs.Prefix.{legal_front}
use Rattle.anti_trace.proofs.processes.Processes.follow.Goals as goal

pub place_of-place-requires : goal.place_of-place-requires
place_of-place-requires c = record {
  app = c.args.app.now;
  trace = c.requires.next.before;
  legal = legal_front c.args.app.now c.requires.next.before _ c.requires.next.legal;
  are = c.requires.next.are;
}
