use Rattle.std.proofs.Common.{All, take, ap, ◌∙◌, subst}
use Rattle.std.proofs.lemmas.List.{take_all}
use Rattle.std.proofs.lemmas.List.Elements.{All-push}
use Rattle.anti_object.specs.Standing.{object_start}
use Rattle.anti_shared.specs.Passes.{IsPass}
use Rattle.anti_live.specs.Clients.{ClientView, IsClient}
use Rattle.anti_live.proofs.Pushed.{push_next}
use Rattle.anti_live.proofs.client.Client.histories.Goals as goal

pub loop-pass-preserved : goal.loop-pass-preserved
loop-pass-preserved c =
    let passes = c.as_slice-pass-items.result.now in
    subst (All (IsPass object_start)) (push_next passes c.loop-pass.pass-index c.pass-item.result c.loop-pass-test.true c.pass-item.is)
    (All-push (IsPass object_start) (take c.loop-pass.pass-index passes) c.pass-item.result c.loop-pass.invariant c.number-number.ensures.knows)

pub returns-clause-legal : goal.returns-clause-legal
returns-clause-legal c =
    subst (All (IsPass object_start))
    (take_all c.loop-pass.pass-index c.as_slice-pass-items.result.now c.loop-pass-test.false ∙ c.as_slice-pass-items.ensures.value
    ∙ ap (λ (client : ClientView). client.passes) c.self.view_is) c.loop-pass.invariant

pub returns-clause-actor : goal.returns-clause-actor
returns-clause-actor c = subst (λ (view : ClientView). IsClient view.passes view.who) c.self.view_is c.self.invariant
