use Rattle.std.proofs.Common.{List, arith, subst}
use Rattle.std.specs.Prelude.{Option}
use Rattle.anti_ids.specs.declared.id.WriteId.{WriteId}
use Rattle.anti_trace.specs.inner.Trails.{TrailBecomes, trail_at, with_footprint}
use Rattle.anti_trace.proofs.Trails.{becomes_then, next_born, next_carried, next_went}
use Rattle.anti_trace.proofs.aftermath.note.Goals as goal

pub returns-in_default-clause-trail : goal.returns-in_default-clause-trail
returns-in_default-clause-trail c = λ app before after sound legal are is.
    next_carried app sound before c.args.entry.now after legal c.args.trail.now is c.in_default.not-Process

pub of-requires : goal.of-requires
of-requires c = c.requires.place c.in-Process.birth c.in-Process.is

pub put-requires-clause-object : goal.put-requires-clause-object
put-requires-clause-object c = omega (arith, c.requires.there, c.prepare.ensures.same.count)

pub returns-in_ok-carried-in-Some-clause-trail : goal.returns-in_ok-carried-in-Some-clause-trail
returns-in_ok-carried-in-Some-clause-trail c = λ app before after sound legal are is.
    let t = c.args.trail.now in
    let e = c.args.entry.now in
    let n = c.put.new.self in
    next_went app sound before e after legal t is c.in-Process.birth c.in-Process.is c.in-Some.process.now (c.in-Some.ensures app before are) n
    (subst (λ (ids : Option (List WriteId)). TrailBecomes t n e.object (with_footprint (trail_at t e.object) ids)) (c.in_ok-carried-in-Some.ensures.carried app)
    (becomes_then t c.prepare.new.self n e.object c.in_ok-carried-in-Some.carried c.prepare.ensures.same c.put.ensures))

pub returns-in-None-clause-trail : goal.returns-in-None-clause-trail
returns-in-None-clause-trail c = λ app before after sound legal are is.
    next_born app sound before c.args.entry.now after legal c.args.trail.now is c.in-Process.birth c.in-Process.is (c.in-None.ensures app before are)
