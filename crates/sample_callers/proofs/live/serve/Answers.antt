-- The client carries nothing when the header comes, and then what it states, and the id that was written.
use Rattle.std.proofs.Common.{◌≡◌, Ok, subst}
use Rattle.anti_live.specs.Clients.{ClientView}
use Rattle.anti_live.specs.Headers.{carried_in}
use Rattle.sample_callers.proofs.Carrying.{carries}
use Rattle.sample_callers.proofs.live.serve.Goals as goal

pub returns-clause-served : goal.returns-clause-served
returns-clause-served g c = record {
  ids = c.carry_in.new.client.lineage;
  stated =
      subst (λ (v : ClientView). carried_in c.args.live.now.stores c.args.header.now v.lineage ≡ Ok c.carry_in.new.client.lineage) c.root.ensures
      c.in_ok-carry_in.ensures.ok;
  id = c.in_ok-write.field-0;
  carried = c.write.new.client.lineage;
  written = (carries _ _ _ _ _ _ _ c.in_ok-write.ensures.answer).0;
  text_is = c.in_ok-carry_out.ensures;
}
