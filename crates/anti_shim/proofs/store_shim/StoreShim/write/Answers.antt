use Rattle.std.proofs.Common.{refl, ◌∙◌}
use Rattle.std.specs.Prelude.{Err}
use Rattle.anti_kind.specs.declared.call.Call.TheVariants.{Write}
use Rattle.anti_shim.specs.declared.fault.ShimFault.TheVariants.{NoMemory}
use Rattle.anti_shim.proofs.NextCall.{unasked, no_memory_of}
use Rattle.anti_shim.proofs.store_shim.StoreShim.write.Goals as goal

-- without memory for what the call holds, or for the ids that may come, nothing is asked
pub returns-in_err-key-clause-answer : goal.returns-in_err-key-clause-answer
returns-in_err-key-clause-answer g c =
    record {
      outcome = Err NoMemory;
      asked = unasked (g.P.Port.start c.args.port.now) (g.P.Port.view c.args.port.now) c.args.who.now c.args.self.now.store (Write c.args.key c.args.value c.args.lineage.now);
      gives = (no_memory_of c.from_residual.result c.from_residual.ensures.1, refl);
    }

pub returns-in_err-spare-clause-answer : goal.returns-in_err-spare-clause-answer
returns-in_err-spare-clause-answer g c =
    record {
      outcome = Err NoMemory;
      asked = unasked (g.P.Port.start c.args.port.now) (g.P.Port.view c.args.port.now) c.args.who.now c.args.self.now.store (Write c.args.key c.args.value c.args.lineage.now);
      gives = (no_memory_of c.from_residual-in_err-spare.result c.from_residual-in_err-spare.ensures.1, refl);
    }

pub returns-in-Err-clause-answer : goal.returns-in-Err-clause-answer
returns-in-Err-clause-answer g c =
    record {
      outcome = Err NoMemory;
      asked = unasked (g.P.Port.start c.args.port.now) (g.P.Port.view c.args.port.now) c.args.who.now c.args.self.now.store (Write c.args.key c.args.value c.args.lineage.now);
      gives = (refl, c.in-Err.ensures.err ∙ c.replace-taken.ensures.value);
    }
