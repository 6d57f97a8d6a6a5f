use Rattle.std.proofs.Common.{map, ap, ◌∙◌}
use Rattle.anti_ids.specs.List.{Listed}
use Rattle.anti_object.specs.declared.object.Object.{Object}
use Rattle.anti_shared.specs.Passes.{PassView, rest_of}
use Rattle.anti_live.specs.Clients.{ClientView}
use Rattle.anti_live.proofs.Staying.{may_asked_actor, still_client, still_of}
use Rattle.anti_live.proofs.live.Live.write.Goals as goal

pub write-wrote-requires : goal.write-wrote-requires
write-wrote-requires g c = rw c.new-shim.ensures.store (c.port-port.ensures.there c.args.store c.requires.store)

pub invariant_of-client : goal.invariant_of-client
invariant_of-client g c =
    still_client c.client.inside.passes.items c.into_passes.result.items c.client.inside.who c.write-wrote.new.who
    (ap (map rest_of) c.into_passes.ensures ∙ ap (λ (l : Listed (PassView Object)). l.items) c.write-wrote.ensures.rest ∙ ap (map rest_of) c.port-port.ensures.passes)
    (may_asked_actor _ _ _ _ c.write-wrote.ensures.answer.asked) c.client.invariant

pub returns-clause-of : goal.returns-clause-of
returns-clause-of g c =
    still_of c.args.self.now c.args.client.now _ (record {
      passes = (ap (map rest_of) c.into_passes.ensures ∙ ap (λ (l : Listed (PassView Object)). l.items) c.write-wrote.ensures.rest ∙ ap (map rest_of) c.port-port.ensures.passes) ∙ ap (λ (v : ClientView). map rest_of v.passes) c.client.view_is;
      region = ap (λ (v : ClientView). v.region) c.client.view_is;
      here = ap (λ (v : ClientView). v.here) c.client.view_is;
    }) c.requires.of
