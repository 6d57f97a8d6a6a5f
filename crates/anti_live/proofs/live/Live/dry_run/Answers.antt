use Rattle.std.proofs.Common.{ℕ, map, sym, ap, subst, ◌∙◌}
use Rattle.anti_ids.specs.List.{Listed}
use Rattle.anti_object.specs.declared.object.Object.{Object}
use Rattle.anti_shared.specs.Passes.{PassView, rest_of}
use Rattle.anti_shim.specs.Sights.{IsHere}
use Rattle.anti_live.specs.Clients.{ClientView, starts_in}
use Rattle.anti_live.specs.Stores.{here_of}
use Rattle.anti_live.proofs.Staying.{still_client, still_of}
use Rattle.anti_live.proofs.live.Live.dry_run.Goals as goal

pub dry_run-missing-requires : goal.dry_run-missing-requires
dry_run-missing-requires g c =
    let region = c.client.inside.region in
    subst (IsHere (starts_in c.port-port.result) region)
    (ap (λ (r : ℕ). here_of r c.args.self.now.stores) (ap (λ (v : ClientView). v.region) c.client.view_is) ∙ sym c.requires.of.here ∙ ap (λ (v : ClientView). v.here) (sym c.client.view_is) ∙ sym c.as_slice.ensures.value)
    (c.port-port.ensures.here region)

pub invariant_of-client : goal.invariant_of-client
invariant_of-client g c =
    still_client c.client.inside.passes.items c.into_passes.result.items c.client.inside.who c.dry_run-missing.new.who
    (ap (map rest_of) c.into_passes.ensures ∙ ap (λ (l : Listed (PassView Object)). l.items) c.dry_run-missing.ensures.rest ∙ ap (map rest_of) c.port-port.ensures.passes)
    c.dry_run-missing.ensures.only.caller.actor c.client.invariant

pub returns-clause-of : goal.returns-clause-of
returns-clause-of g c =
    still_of c.args.self.now c.args.client.now _ (record {
      passes = (ap (map rest_of) c.into_passes.ensures ∙ ap (λ (l : Listed (PassView Object)). l.items) c.dry_run-missing.ensures.rest ∙ ap (map rest_of) c.port-port.ensures.passes) ∙ ap (λ (v : ClientView). map rest_of v.passes) c.client.view_is;
      region = ap (λ (v : ClientView). v.region) c.client.view_is;
      here = ap (λ (v : ClientView). v.here) c.client.view_is;
    }) c.requires.of
