use Rattle.std.proofs.Common.{List, max, refl, sym, ap, ◌∙◌, subst}
use Rattle.anti_object.specs.declared.object.Object.{Object}
use Rattle.anti_shared.specs.Passes.{PassView, SharedView}
use Rattle.anti_live.specs.Clients.{ClientView, IsClient, IsJoinedTo, LiveView}
use Rattle.anti_live.specs.inner.Lives.{AreJoined}
use Rattle.anti_live.proofs.Joins.{join_stays, joined_to}
use Rattle.anti_live.proofs.live.Live.join.Goals as goal

are_joined : (c : goal.After-join_all) → AreJoined c.args.self.now.shareds c.args.into.now.passes c.args.from.passes c.join_all.new.into.items
are_joined c =
    subst (λ (z : List (SharedView Object) × List (PassView Object) × List (PassView Object)). AreJoined z.0 z.1 z.2 c.join_all.new.into.items)
    (λ i. ((c.as_slice.ensures.value ∙ ap (λ (l : LiveView). l.shareds) c.self.view_is) i, ap (λ (v : ClientView). v.passes) c.into.view_is i, c.into_passes.ensures i))
    c.join_all.ensures

pub invariant_of-into : goal.invariant_of-into
invariant_of-into c =
    join_stays c.args.self.now c.args.into.now c.args.from c.join_all.new.into.items c.requires.into_of c.requires.from_of (are_joined c) c.into.inside.who c.into.inside.who refl
    (subst (λ (ps : List (PassView Object)). IsClient ps c.into.inside.who) (ap (λ (v : ClientView). v.passes) c.into.view_is) c.into.invariant)

pub returns : goal.returns
returns c =
    subst (λ (v : ClientView). IsJoinedTo c.args.self.now c.args.into.now c.args.from (record v { passes = c.join_all.new.into.items; who = record v.who { clock = c.max-into-inside.result } }))
    (sym c.into.view_is)
    (joined_to c.args.self.now c.args.into.now c.args.from c.join_all.new.into.items c.requires.into_of c.requires.from_of (are_joined c) c.max-into-inside.result
    (c.max-into-inside.ensures ∙ (λ i. max (ap (λ (v : ClientView). v.who.clock) c.into.view_is i) (ap (λ (v : ClientView). v.who.clock) c.from.view_is i))))
