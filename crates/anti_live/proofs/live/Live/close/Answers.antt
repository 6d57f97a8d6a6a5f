use Rattle.std.proofs.Common.{◌≡◌, true, List, All, map, sym, ap, ◌∙◌, subst}
use Rattle.std.specs.List.{AllZip}
use Rattle.anti_object.specs.declared.object.Object.{Object}
use Rattle.anti_shared.specs.Passes.{PassView, SharedView}
use Rattle.anti_live.specs.Clients.{ClientView, IsLeft, asked_alone}
use Rattle.anti_live.specs.Stores.{here_of}
use Rattle.anti_live.specs.inner.Lives.{AreOf}
use Rattle.anti_live.proofs.Closings.{are_noted, asked_of, asked_stays, asked_without_another}
use Rattle.anti_live.proofs.live.Live.close.Goals as goal

pub invariant_of-client : goal.invariant_of-client
invariant_of-client c =
    asked_stays c.args.self c.args.client c.requires.of c.client.inside.passes.items c.are_alone.new.passes.items (ap (λ (v : ClientView). v.passes) c.client.view_is)
    c.are_alone.ensures.asked c.client.inside.who c.client.invariant

pub invariant_of-client-2 : goal.invariant_of-client-2
invariant_of-client-2 c =
    asked_stays c.args.self c.args.client c.requires.of c.client.inside.passes.items c.are_alone.new.passes.items (ap (λ (v : ClientView). v.passes) c.client.view_is)
    c.are_alone.ensures.asked c.client.inside.who c.client.invariant

pub close_each-requires-clause-of : goal.close_each-requires-clause-of
close_each-requires-clause-of c =
    subst (λ (z : List (SharedView Object) × List (PassView Object)). AreOf z.0 z.1) (λ i. (sym c.into_parts-shareds.ensures.shareds i, sym c.into_passes.ensures i))
    (asked_of c.args.self c.args.client c.requires.of c.client.inside.passes.items c.are_alone.new.passes.items (ap (λ (v : ClientView). v.passes) c.client.view_is)
    c.are_alone.ensures.asked)

pub close_each-requires-clause-alone : goal.close_each-requires-clause-alone
close_each-requires-clause-alone c =
    let by : c.into_passes.result.items ≡ map asked_alone c.args.client.passes = c.into_passes.ensures
    ∙ asked_without_another c.args.self c.args.client c.requires.of c.client.inside.passes.items c.are_alone.new.passes.items (ap (λ (v : ClientView). v.passes) c.client.view_is)
    c.are_alone.ensures.asked c.are_alone.result c.are_alone.ensures.answer c.if-not-are_alone.false in
    subst (All (λ (p : PassView Object). p.alone ≡ true)) (sym by) (are_noted c.args.client.passes)

pub returns-clause-left : goal.returns-clause-left
returns-clause-left c =
    let by : c.into_passes.result.items ≡ map asked_alone c.args.client.passes = c.into_passes.ensures
    ∙ asked_without_another c.args.self c.args.client c.requires.of c.client.inside.passes.items c.are_alone.new.passes.items (ap (λ (v : ClientView). v.passes) c.client.view_is)
    c.are_alone.ensures.asked c.are_alone.result c.are_alone.ensures.answer c.if-not-are_alone.false in
    subst (λ (ps : List (PassView Object)). AllZip IsLeft ps c.close_each.result.items) by c.close_each.ensures

pub returns-then-not-are_alone-clause-of : goal.returns-then-not-are_alone-clause-of
returns-then-not-are_alone-clause-of c = record {
  passes = asked_of c.args.self c.args.client c.requires.of c.client.inside.passes.items c.are_alone.new.passes.items
      (ap (λ (v : ClientView). v.passes) c.client.view_is) c.are_alone.ensures.asked;
  here = ap (λ (v : ClientView). v.here) c.client.view_is ∙ c.requires.of.here
      ∙ ap (λ (v : ClientView). here_of v.region c.args.self.stores) (sym c.client.view_is);
}
