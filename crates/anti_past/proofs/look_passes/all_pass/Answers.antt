use Rattle.std.proofs.Common.{◌∙◌}
use Rattle.anti_ids.specs.declared.id.WriteId.{WriteId}
use Rattle.anti_past.specs.inner.Looking.{all_pass}
use Rattle.anti_past.proofs.look_passes.all_pass.Goals as goal

pub returns : goal.returns
returns c = c.each_passes.ensures ∙ λ i. all_pass c.args.app.now c.args.region (λ (w : WriteId). c.of.ensures w i) c.args.ids.now
