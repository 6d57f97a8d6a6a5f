use Rattle.std.proofs.Common.{sym, ◌∙◌}
use Rattle.anti_kind.specs.Store.{is_written}
use Rattle.anti_replicas.proofs.Reading.{all_pass}
use Rattle.anti_replicas.proofs.replicas.Replicas.unwritten_of.Goals as goal

pub returns-then-found : goal.returns-then-found
returns-then-found c = λ s h at written. c.root.ensures ∙ sym (all_pass (is_written h) c.args.ids.now (sym written ∙ c.if-found.true))
