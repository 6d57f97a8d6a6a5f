use Rattle.std.proofs.Common.{false, refl, ap, ◌∙◌}
use Rattle.std.specs.Prelude.{Err}
use Rattle.anti_kind.specs.declared.call.Call.TheVariants.{Look}
use Rattle.anti_shim.specs.declared.fault.ShimFault.TheVariants.{NoMemory}
use Rattle.anti_shim.specs.Steps.{between}
use Rattle.anti_shim.specs.Shims.{Sees}
use Rattle.anti_shim.proofs.NextCall.{unasked}
use Rattle.anti_shim.proofs.barrier_cursor.Barrier.look.Given as given
use Rattle.anti_shim.proofs.barrier_cursor.Barrier.look.Goals as goal
use Rattle.anti_shim.proofs.barrier_cursor.Barrier.look.Goals.{After-share}

-- without memory for the ids, or for one sight more, nothing is asked
unseen : (g : given.Over) (c : After-share g) → let look = c.args.look.now in
    Sees (between g.P.Port c.args.port.now c.args.port.now c.args.who.now c.args.who.now) look.store c.args.region look.ids (Err NoMemory)
unseen g c =
    let look = c.args.look.now in
    record {
      outcome = Err NoMemory;
      asked = unasked (g.P.Port.start c.args.port.now) (g.P.Port.view c.args.port.now) c.args.who.now look.store (Look c.args.region look.ids false);
      gives = refl;
    }

pub returns-in_default-clause-answer : goal.returns-in_default-clause-answer
returns-in_default-clause-answer g c =
    record {
      sight = Err NoMemory;
      seen = unseen g (goal.at.returns-in_default-clause-answer g c).After-share;
      kept = (refl, refl);
    }

pub returns-in_default-reserve-clause-answer : goal.returns-in_default-reserve-clause-answer
returns-in_default-reserve-clause-answer g c =
    record {
      sight = Err NoMemory;
      seen = unseen g (goal.at.returns-in_default-reserve-clause-answer g c).After-share;
      kept = (refl, ap (λ l. l.items) c.in_default-reserve.ensures.err ∙ c.self.view_is);
    }
