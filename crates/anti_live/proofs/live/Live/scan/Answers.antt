use Rattle.std.proofs.Common.{map, sym, ap, ◌∙◌}
use Rattle.anti_ids.specs.List.{Listed}
use Rattle.anti_object.specs.declared.object.Object.{Object}
use Rattle.anti_shared.specs.Passes.{PassView, rest_of}
use Rattle.anti_live.specs.Clients.{ClientView, starts_in}
use Rattle.anti_live.specs.Stores.{here_of, is_among}
use Rattle.anti_live.proofs.HereLemmas.{here_started}
use Rattle.anti_live.proofs.Staying.{asked_actor, still_client, still_of}
use Rattle.anti_live.proofs.live.Live.scan.Goals as goal

pub scan-shown-requires : goal.scan-shown-requires
scan-shown-requires g c =
    let region = c.args.client.now.region in
    rw c.new.ensures.store
    (here_started (starts_in c.port-port.result) region (here_of region c.args.self.now.stores) c.args.store (c.port-port.ensures.here region)
    (ap (is_among c.args.store) (sym c.requires.of.here) ∙ c.requires.here))

pub invariant_of-client : goal.invariant_of-client
invariant_of-client g c =
    still_client c.client.inside.passes.items c.into_passes.result.items c.client.inside.who c.scan-shown.new.who
    (ap (map rest_of) c.into_passes.ensures ∙ ap (λ (l : Listed (PassView Object)). l.items) c.scan-shown.ensures.rest ∙ ap (map rest_of) c.port-port.ensures.passes)
    (asked_actor _ _ _ _ c.scan-shown.ensures.answer.asked) c.client.invariant

pub returns-clause-of : goal.returns-clause-of
returns-clause-of g c =
    still_of c.args.self.now c.args.client.now _ (record {
      passes = (ap (map rest_of) c.into_passes.ensures ∙ ap (λ (l : Listed (PassView Object)). l.items) c.scan-shown.ensures.rest ∙ ap (map rest_of) c.port-port.ensures.passes) ∙ ap (λ (v : ClientView). map rest_of v.passes) c.client.view_is;
      region = ap (λ (v : ClientView). v.region) c.client.view_is;
      here = ap (λ (v : ClientView). v.here) c.client.view_is;
    }) c.requires.of
