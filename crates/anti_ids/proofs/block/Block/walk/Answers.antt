use Rattle.std.proofs.Common.{◌≡◌, ◌+◌, List, take, drop, ap, ◌∙◌, arith, rules}
use Rattle.std.specs.Arc.{arc_value}
use Rattle.std.proofs.lemmas.List.{drop-take}
use Rattle.anti_ids.specs.declared.id.WriteId.{WriteId}
use Rattle.anti_ids.specs.inner.Parts.{joined}
use Rattle.anti_ids.proofs.block.Block.walk.Goals as goal

pub overflow_add-self-inside : goal.overflow_add-self-inside
overflow_add-self-inside c = omega (arith, c.self.invariant.1, c.self.invariant.2)

pub returns : goal.returns
returns c =
    let start = c.self.inside.from in
    let parts : c.through-walk.result ≡ take (start + c.self.inside.len) (joined (arc_value c.self.inside.parts).items) = search rules in
    c.leave_out.ensures ∙ ap (λ (x : List WriteId). drop start x) parts ∙ drop-take start c.self.inside.len (joined (arc_value c.self.inside.parts).items) ∙ c.self.view_is
