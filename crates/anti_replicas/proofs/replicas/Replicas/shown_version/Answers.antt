use Rattle.anti_replicas.proofs.Bringing.{shows_nothing}
use Rattle.anti_replicas.proofs.replicas.Replicas.shown_version.Goals as goal

pub returns-then-region-ge-MOST_REGIONS : goal.returns-then-region-ge-MOST_REGIONS
returns-then-region-ge-MOST_REGIONS c = λ s h at. shows_nothing c.args.self.now s h at c.args.region c.args.key.now c.if-region-ge-MOST_REGIONS.true
