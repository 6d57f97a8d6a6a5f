use Rattle.std.proofs.Common.{List, sym, subst}
use Rattle.anti_ids.specs.declared.id.WriteId.{WriteId}
use Rattle.anti_ids.specs.inner.Stores.{PassedSame}
use Rattle.anti_ids.proofs.WalkLemmas.{passed_on}
use Rattle.anti_ids.proofs.walk.Walk.pass_same.Goals as goal

pub loop-self-preserved : goal.loop-self-preserved
loop-self-preserved c =
    let ids = c.args.self.now in
    let others = c.args.other.now in
    let more = c.pass_in_parts.new.self in
    let others_more = c.pass_in_parts.new.other in
    let on : PassedSame ids more others others_more = passed_on ids c.loop-self.self more others c.loop-self.other others_more c.loop-self.invariant c.pass_in_parts.ensures.same in
    subst (λ (x : List WriteId). PassedSame ids x others c.take_up-in-loop-self.new.self) (sym c.take_up.ensures)
    (subst (λ (x : List WriteId). PassedSame ids more others x) (sym c.take_up-in-loop-self.ensures) on)
