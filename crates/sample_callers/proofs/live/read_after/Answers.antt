use Rattle.std.proofs.Common.{ap}
use Rattle.anti_live.specs.Clients.{ClientView}
use Rattle.sample_callers.proofs.Clients.{shows_kept}
use Rattle.sample_callers.proofs.live.read_after.Goals as goal

pub returns-clause-shows : goal.returns-clause-shows
returns-clause-shows g c =
    shows_kept c.args.from c.args.row.now c.args.store c.args.key c.args.client.now.lineage c.transfer.new.self.lineage c.read_here.result
    (ap (λ (v : ClientView). v.lineage) c.in-Ok.ensures.ok) c.read_here.ensures.shows
