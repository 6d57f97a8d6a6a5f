use Rattle.anti_app.proofs.Runnable.{can_run}
use Rattle.test_documents.proofs.absent.ends.Goals as goal

pub object_count-requires : goal.object_count-requires
object_count-requires c = can_run c.args.app.now c.requires
