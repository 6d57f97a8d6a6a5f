use Rattle.std.specs.Prelude.{Err, false}
use Rattle.anti_ids.specs.Ids.{ids_of}
use Rattle.anti_kind.specs.declared.call.Call.TheVariants.{Look}
use Rattle.anti_shim.specs.declared.fault.ShimFault.TheVariants.{NoMemory}
use Rattle.anti_shim.proofs.NextCall.{unasked, no_memory_of}
use Rattle.anti_shim.proofs.store_shim.StoreShim.wait.Goals as goal

-- without memory for the ids nothing is asked
pub returns-in_err-ids-clause-answer : goal.returns-in_err-ids-clause-answer
returns-in_err-ids-clause-answer g c =
    let shim = c.args.self.now in
    record {
      outcome = Err NoMemory;
      asked = unasked (g.P.Port.start c.args.port.now) (g.P.Port.view c.args.port.now) c.args.who.now shim.store (Look shim.region (ids_of shim.store c.args.ids.now) false);
      gives = no_memory_of c.from_residual.result c.from_residual.ensures.1;
    }
