-- The version that is taken out is the one that stood there.
use Rattle.anti_work.proofs.Noted.{taken_out}
use Rattle.anti_work.proofs.noting.take_out.Goals as goal

pub returns-clause-rest : goal.returns-clause-rest
returns-clause-rest c version there =
    taken_out c.args.versions.now.items c.swap_remove.new.self.items c.args.at c.swap_remove.result version c.requires c.swap_remove.ensures.value c.swap_remove.ensures.items there
