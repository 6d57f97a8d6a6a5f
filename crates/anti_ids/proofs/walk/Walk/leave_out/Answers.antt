use Rattle.std.proofs.Common.{◌-◌, List, length, take, drop, sym, ap, ◌∙◌, arith}
use Rattle.anti_ids.specs.declared.id.WriteId.{WriteId}
use Rattle.anti_ids.specs.inner.Parts.{joined}
use Rattle.anti_ids.proofs.WalkLemmas.{drop_past}
use Rattle.anti_ids.proofs.walk.Walk.leave_out.Goals as goal

pub loop-self-preserved : goal.loop-self-preserved
loop-self-preserved c =
    let part = c.loop-self.self-inside.part.now in
    let rest = take c.loop-self.self-inside.left (joined c.loop-self.self-inside.parts.now) in
    ap (λ (x : List WriteId). drop (c.loop-self.more - length part) x) c.in-Some.ensures.ids
    ∙ sym (drop_past part rest c.loop-self.more (omega (arith, c.loop-self-test.true)))
    ∙ c.loop-self.invariant
