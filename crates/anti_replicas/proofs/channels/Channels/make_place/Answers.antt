use Rattle.std.proofs.Common.{refl, sym, ◌∙◌}
use Rattle.anti_replicas.proofs.Counting.{place_made}
use Rattle.anti_replicas.proofs.channels.Channels.make_place.Goals as goal

pub returns-in-Ok-clause-counts : goal.returns-in-Ok-clause-counts
returns-in-Ok-clause-counts c = place_made c.args.self.now (record { counts = c.insert.new.self }) c.args.channel 0 c.in-Ok.ensures.updates refl (sym c.contains_key.ensures ∙ c.if-contains_key.false)
