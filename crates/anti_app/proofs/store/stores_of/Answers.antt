use Rattle.std.proofs.Common.{arith}
use Rattle.std.proofs.lemmas.Grind.{common_steps}
use Rattle.toml.specs.View.{view}
use Rattle.anti_app.specs.inner.Fit.{is_fit_store}
use Rattle.anti_app.proofs.Kept.{left_pass}
use Rattle.anti_app.proofs.store.stores_of.Goals as goal

pub returns : goal.returns
returns c = grind (arith, common_steps)

pub loop-value-preserved : goal.loop-value-preserved
loop-value-preserved c = record {
  made = grind (arith, common_steps);
  spare = grind (arith, common_steps);
  fit = left_pass view is_fit_store c.args.values.now c.loop-value.value-index c.value-item.result (omega (arith, c.loop-value-test.true)) c.loop-value.invariant.fit;
}
