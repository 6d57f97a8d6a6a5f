use Rattle.std.proofs.Common.{◌≡◌, ◌+◌, ◌≤◌, List, length, take, drop, ap, ◌∙◌, arith, rules}
use Rattle.std.specs.Arc.{arc_value}
use Rattle.anti_ids.specs.declared.id.WriteId.{WriteId}
use Rattle.anti_ids.specs.inner.Parts.{joined}
use Rattle.anti_ids.proofs.RangeLemmas.{length_range, range_range}
use Rattle.anti_ids.proofs.block.Block.range.Goals as goal
use Rattle.anti_ids.proofs.block.Block.range.Goals.{In-Ok}

-- the range ends where the block does, or before
ends : (c : In-Ok) → c.args.from + c.args.len ≤ c.self.inside.len
ends c =
    let ids = joined (arc_value c.self.inside.parts).items in
    let size : length (take c.self.inside.len (drop c.self.inside.from ids)) ≡ c.self.inside.len = length_range ids c.self.inside.from c.self.inside.len (omega (arith, c.self.invariant.0, c.self.invariant.1)) in
    omega (arith, size, ap length c.self.view_is, c.requires)

pub overflow_cast-result : goal.overflow_cast-result
overflow_cast-result c = omega (arith, ends c, c.self.invariant.1, c.self.invariant.2)

pub overflow_add-result : goal.overflow_add-result
overflow_add-result c = omega (arith, ends c, c.self.invariant.1, c.self.invariant.2)

pub overflow_cast-result-in-Ok : goal.overflow_cast-result-in-Ok
overflow_cast-result-in-Ok c = omega (arith, ends c, c.self.invariant.1, c.self.invariant.2)

pub returns-in-Ok : goal.returns-in-Ok
returns-in-Ok c =
    let ids = joined (arc_value c.self.inside.parts).items in
    let same : joined (arc_value c.in-Ok.parts).items ≡ ids = search rules in
    ap (λ (x : List WriteId). take c.args.len (drop (c.self.inside.from + c.args.from) x)) same
    ∙ range_range ids c.self.inside.from c.self.inside.len c.args.from c.args.len (ends c)
    ∙ ap (λ (x : List WriteId). take c.args.len (drop c.args.from x)) c.self.view_is
