use Rattle.std.proofs.lemmas.List.Sums.{prefix_len_passes}
use Rattle.anti_kind.specs.Stored.{is_whole, rows}
use Rattle.anti_shared.proofs.laws.upto_is_whole.Goals as goal

pub returns : goal.returns
returns c = λ s region h before d less. prefix_len_passes (is_whole s.kind h region) (rows h) before d less
