use Rattle.std.proofs.Common.{◌≡◌, ◌+◌, ℕ, ◌∙◌, sym, ap, arith}
use Rattle.std.specs.Prelude.{slice_index, slice_set}
use Rattle.std.proofs.lemmas.List.{get_or_read}
use Rattle.anti_past.proofs.AlongTrail.{none_passed, object_low, one_passed, passed_low}
use Rattle.anti_past.proofs.trail_cursor.TrailCursor.go_past.Goals as goal

pub overflow_add-index_mut : goal.overflow_add-index_mut
overflow_add-index_mut c =
    let (app, trace, k, passing) = c.requires in
    let o : ℕ = c.args.entry.now.object in
    let there = object_low app trace k c.args.entry.now c.args.self.now passing in
    let many = passing.cursor.many in
    let read : c.index_mut.result.now ≡ slice_index c.args.self.now.passed.items o =
    get_or_read c.args.self.now.passed.items o c.index_mut.result.now (omega arith) c.index_mut.ensures.value 0 in
    let known = passing.cursor.each o there in
    let few = passed_low trace k o in
    let low = passing.low in
    omega arith

pub returns-then-leaves_trail : goal.returns-then-leaves_trail
returns-then-leaves_trail c = λ app trace k passing.
    let o : ℕ = c.args.entry.now.object in
    let there = object_low app trace k c.args.entry.now c.args.self.now passing in
    let many = passing.cursor.many in
    let read : c.index_mut.result.now ≡ slice_index c.args.self.now.passed.items o =
    get_or_read c.args.self.now.passed.items o c.index_mut.result.now (omega arith) c.index_mut.ensures.value 0 in
    one_passed trace k c.args.entry.now passing.there app c.args.self.now passing.cursor (sym c.leaves_trail.ensures ∙ c.if-leaves_trail.true) there _
    (ap (λ (n : ℕ). slice_set c.args.self.now.passed.items o (n + 1)) read)

pub returns-else-leaves_trail : goal.returns-else-leaves_trail
returns-else-leaves_trail c = λ app trace k passing.
    none_passed trace k c.args.entry.now passing.there app c.args.self.now passing.cursor (sym c.leaves_trail.ensures ∙ c.if-leaves_trail.false)
