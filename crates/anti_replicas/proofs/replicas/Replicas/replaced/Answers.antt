use Rattle.anti_replicas.proofs.Replacing.{last_there, last_absent, kept_version}
use Rattle.anti_replicas.proofs.replicas.Replicas.replaced.Goals as goal

pub returns-in-Some-clause-first : goal.returns-in-Some-clause-first
returns-in-Some-clause-first c = λ s h at. kept_version c.args.self.now s h at c.last.result c.in-Some.kept.now c.in-Some.ensures.kept

pub returns-in-Some-clause-some : goal.returns-in-Some-clause-some
returns-in-Some-clause-some c = λ s h at.
    last_there c.args.self.now s h at c.args.key.now c.last.result c.last.ensures c.in-Some.kept.now c.in-Some.ensures.first c.in-Some.ensures.kept

pub returns-in-None-clause-none : goal.returns-in-None-clause-none
returns-in-None-clause-none c = λ s h at. last_absent c.args.self.now s h at c.args.key.now c.last.result c.last.ensures c.in-None.ensures.none
