use Rattle.std.proofs.lemmas.List.Sums.{prefix_len-le-length}
use Rattle.anti_replicas.proofs.cells.channel_of.Goals as goal

pub split_at-requires : goal.split_at-requires
split_at-requires c = rw c.bytes_before_hash.ensures (prefix_len-le-length _ c.args.key.now)
