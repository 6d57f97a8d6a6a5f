-- A new world stands for the empty trace, the finished one for what follows, and the refused one for one that goes on.
use Rattle.std.proofs.Common.{[]}
use Rattle.anti_play.specs.Schedule.{finished}
use Rattle.test_documents.proofs.finishes.is_finished.Goals as goal

pub has_all-requires : goal.has_all-requires
has_all-requires c = record {
  app = c.args.app.now;
  trace = finished c.args.app.now [];
  sound = c.requires;
  stands = c.in-Ok-finish.ensures.finished [] c.in-Ok.ensures;
}

pub is_finished_again-requires-clause-world : goal.is_finished_again-requires-clause-world
is_finished_again-requires-clause-world c =
    let went = c.in-Err.ensures.kept [] c.in-Ok.ensures in record { trace = went.after; stands = went.stands }
