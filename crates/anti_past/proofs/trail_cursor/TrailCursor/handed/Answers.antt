use Rattle.std.proofs.Common.{◌∙◌, sym, arith}
use Rattle.std.proofs.lemmas.List.{get_or_read}
use Rattle.anti_past.proofs.AlongTrail.{object_low, trail_handed, write_handed}
use Rattle.anti_past.proofs.trail_cursor.TrailCursor.handed.Goals as goal

pub returns-in-Write : goal.returns-in-Write
returns-in-Write c = λ app trace k passing its.
    let keeps = write_handed app trace k c.args.entry.now c.args.self.now passing _ _ _ c.in-Write.is in
    (keeps.0, c.get.ensures ∙ keeps.1)

pub index-requires : goal.index-requires
index-requires c =
    let (app, trace, k, passing) = c.requires in
    let low = object_low app trace k c.args.entry.now c.args.self.now passing in
    let many = passing.cursor.many in
    omega arith

pub returns : goal.returns
returns c = λ app trace k passing its.
    let low = object_low app trace k c.args.entry.now c.args.self.now passing in
    let many = passing.cursor.many in
    trail_handed app trace k c.args.entry.now c.args.self.now passing c.args.trail.now its (sym c.leaves_trail.ensures ∙ c.if-not-leaves_trail.false) c.index.result.now
    (get_or_read c.args.self.now.passed.items c.args.entry.now.object c.index.result.now (omega arith) c.index.ensures 0) _ c.get-2.ensures
