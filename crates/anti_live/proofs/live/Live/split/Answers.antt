use Rattle.std.proofs.Common.{List, sym, ap, ◌∙◌, subst}
use Rattle.anti_object.specs.declared.object.Object.{Object}
use Rattle.anti_shared.specs.Passes.{PassView, SharedView}
use Rattle.anti_live.specs.Clients.{ClientView, IsClient, IsSplitOff, LiveView}
use Rattle.anti_live.specs.Stores.{here_of}
use Rattle.anti_live.specs.inner.Lives.{AreSplit}
use Rattle.anti_live.proofs.Splits.{split_off, split_stays}
use Rattle.anti_live.proofs.live.Live.split.Goals as goal

are_split : (c : goal.After-client_of) → AreSplit c.args.self.now.shareds c.args.client.now.passes c.split_all.new.passes.items c.split_all.new.made.items
are_split c =
    subst (λ (z : List (SharedView Object) × List (PassView Object)). AreSplit z.0 z.1 c.split_all.new.passes.items c.split_all.new.made.items)
    (λ i. ((c.as_slice-2.ensures.value ∙ ap (λ (l : LiveView). l.shareds) c.self.view_is) i, ap (λ (v : ClientView). v.passes) c.client.view_is i))
    c.split_all.ensures

pub invariant_of-client : goal.invariant_of-client
invariant_of-client c =
    split_stays c.args.self.now c.args.client.now c.split_all.new.passes.items c.split_all.new.made.items c.requires.of (are_split c) c.client.inside.who
    (subst (λ (ps : List (PassView Object)). IsClient ps c.client.inside.who) (ap (λ (v : ClientView). v.passes) c.client.view_is) c.client.invariant)

pub returns-clause-ok : goal.returns-clause-ok
returns-clause-ok c =
    subst (λ (v : ClientView). IsSplitOff c.args.self.now c.args.region c.args.client.now (record v { passes = c.split_all.new.passes.items }) c.client_of.result) (sym c.client.view_is)
    (split_off c.args.self.now c.args.client.now c.split_all.new.passes.items c.split_all.new.made.items c.requires.of (are_split c) c.args.region c.client_of.result
    c.client_of.ensures.passes c.client_of.ensures.region
    (c.client_of.ensures.here ∙ c.in_ok-here.ensures ∙ ap (here_of c.args.region) (c.as_slice.ensures ∙ ap (λ (l : LiveView). l.stores) c.self.view_is))
    c.client_of.ensures.lineage c.client_of.ensures.span c.client_of.ensures.clock)
