use Rattle.std.proofs.Common.{map, refl, ap, ◌∙◌}
use Rattle.anti_ids.specs.List.{Listed}
use Rattle.anti_object.specs.declared.object.Object.{Object}
use Rattle.anti_shared.specs.Passes.{PassView, rest_of}
use Rattle.anti_live.specs.Clients.{ClientView}
use Rattle.anti_live.proofs.Staying.{still_client, still_of}
use Rattle.anti_live.proofs.live.Live.ship.Goals as goal
use Rattle.anti_live.proofs.live.Live.ship.Goals.{in-Made, in_default}

pub invariant_of-client : goal.invariant_of-client
invariant_of-client g c =
    let rests = (ap (map rest_of) c.into_passes.ensures ∙ ap (λ (l : Listed (PassView Object)). l.items) c.call-answer.ensures.rest ∙ ap (map rest_of) c.port-port.ensures.passes) in
    elim c.match-answer.branch [
      | in-Made w ↦
          rw w.client-inside-is (still_client c.client.inside.passes.items c.into_passes.result.items c.client.inside.who (record c.client.inside.who { clock = w.in-Made.stamp }) rests refl c.client.invariant)
      | in_default w ↦
          rw w.client-inside-is (still_client c.client.inside.passes.items c.into_passes.result.items c.client.inside.who c.client.inside.who rests refl c.client.invariant)
    ]

pub returns-clause-of : goal.returns-clause-of
returns-clause-of g c =
    let rests = (ap (map rest_of) c.into_passes.ensures ∙ ap (λ (l : Listed (PassView Object)). l.items) c.call-answer.ensures.rest ∙ ap (map rest_of) c.port-port.ensures.passes) in
    elim c.match-answer.branch [
      | in-Made w ↦
          rw w.client-inside-is (still_of c.args.self.now c.args.client.now _ (record {
            passes = rests ∙ ap (λ (v : ClientView). map rest_of v.passes) c.client.view_is;
            region = ap (λ (v : ClientView). v.region) c.client.view_is;
            here = ap (λ (v : ClientView). v.here) c.client.view_is;
          }) c.requires.of)
      | in_default w ↦
          rw w.client-inside-is (still_of c.args.self.now c.args.client.now _ (record {
            passes = rests ∙ ap (λ (v : ClientView). map rest_of v.passes) c.client.view_is;
            region = ap (λ (v : ClientView). v.region) c.client.view_is;
            here = ap (λ (v : ClientView). v.here) c.client.view_is;
          }) c.requires.of)
    ]
