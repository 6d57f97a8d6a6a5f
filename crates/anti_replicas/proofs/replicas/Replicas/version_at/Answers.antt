use Rattle.anti_replicas.proofs.Bringing.{shows_nothing}
use Rattle.anti_replicas.proofs.replicas.Replicas.version_at.Goals as goal

pub returns-then-region-ge-MOST_REGIONS : goal.returns-then-region-ge-MOST_REGIONS
returns-then-region-ge-MOST_REGIONS c = λ s h key at number. shows_nothing c.args.self.now s h at c.args.region key c.if-region-ge-MOST_REGIONS.true
