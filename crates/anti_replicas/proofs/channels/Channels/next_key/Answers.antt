use Rattle.std.proofs.Common.{◌≡◌, ◌+◌, Some, ap, ◌∙◌, arith}
use Rattle.anti_kind.specs.Cells.{cell_key}
use Rattle.anti_replicas.specs.Channels.{count_at}
use Rattle.anti_replicas.proofs.Counting.{few_writes, next_key_is}
use Rattle.anti_replicas.proofs.channels.Channels.next_key.Goals as goal

pub returns : goal.returns
returns c = λ s h l counts keyless plain.
    let m = c.args.self.now in
    let channel = c.args.channel.now in
    let one : c.saturating_add.result ≡ count_at m channel + 1 = omega (arith, c.saturating_add.ensures, c.count.ensures, counts.counted channel, few_writes s h l channel) in
    c.cell_key.ensures plain (omega (arith, one, counts.counted channel, few_writes s h l channel))
    ∙ ap (λ n. Some (cell_key channel n)) one
    ∙ ap (λ key. Some key) (next_key_is m s h counts keyless channel)
