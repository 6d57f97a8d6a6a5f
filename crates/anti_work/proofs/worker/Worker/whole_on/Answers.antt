use Rattle.std.proofs.Common.{refl}
use Rattle.anti_work.proofs.Told.{told_comes}
use Rattle.anti_work.proofs.worker.Worker.whole_on.Goals as goal

pub returns : goal.returns
returns c app =
    told_comes app c.args.shared.now c.args.self.now (record c.args.self.now { passes = c.upto.new.passes }) c.index-route.result.now.store c.upto.ensures c.requires.of refl refl refl refl
