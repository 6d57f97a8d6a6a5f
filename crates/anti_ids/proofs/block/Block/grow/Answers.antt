use Rattle.std.proofs.Common.{◌≡◌, ◌+◌, ◌≤◌, List, length, sym, ap, ◌∙◌, arith, rules}
use Rattle.std.specs.Arc.{arc_value}
use Rattle.anti_ids.specs.declared.id.WriteId.{WriteId}
use Rattle.anti_ids.specs.inner.Parts.{joined, put_at}
use Rattle.anti_ids.proofs.RangeLemmas.{length_put, range_all}
use Rattle.anti_ids.proofs.block.Block.grow.Goals as goal

pub returns-clause-ok : goal.returns-clause-ok
returns-clause-ok c =
    let ids = joined (arc_value c.self.inside.parts).items in
    let more = joined (arc_value c.put.new.parts).items in
    let none : c.self.inside.from ≡ 0 = omega (arith, c.self.invariant.1, c.if-self.false) in
    let whole : ids ≡ c.args.self.now = sym (range_all ids c.self.inside.from c.self.inside.len (omega (arith, c.self.invariant.0, c.self.invariant.1, c.if-self.false)) none) ∙ c.self.view_is in
    let now : more ≡ put_at c.args.at c.args.id ids = search rules in
    let one_more : c.in-Some.len ≡ c.self.inside.len + 1 = search rules in
    let within : c.args.at ≤ length ids = omega (arith, ap length whole, c.requires) in
    let size : length more ≡ c.in-Some.len =
    omega (arith, one_more, ap length now, length_put ids c.args.at c.args.id within, c.self.invariant.0, c.self.invariant.1, c.if-self.false) in
    range_all more c.self.inside.from c.in-Some.len size none ∙ now ∙ ap (λ (x : List WriteId). put_at c.args.at c.args.id x) whole
