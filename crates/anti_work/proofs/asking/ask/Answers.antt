-- The pass of the object asks at the shared object at its place, and both are of one turn.
use Rattle.std.proofs.Common.{refl, arith}
use Rattle.std.specs.Prelude.{slice_set}
use Rattle.anti_object.proofs.News.{found}
use Rattle.anti_work.proofs.PassCalls.{asked_by, still_of}
use Rattle.anti_work.proofs.asking.ask.Goals as goal

pub returns-clause-asked : goal.returns-clause-asked
returns-clause-asked g c =
    asked_by c.args.shared.now c.args.passes.now.items c.args.asking c.index_mut-pass.result.now c.call-answer.new.pass c.call-answer.result c.requires.of
    (found c.args.passes.now.items c.args.passes.now.items c.args.asking.object c.index_mut-pass.result.now refl (omega (arith, c.requires.there, c.requires.of.count)) c.index_mut-pass.ensures.value)
    c.call-answer.ensures.pass c.call-answer.ensures.answer c.number-number.ensures.knows

pub returns-clause-of : goal.returns-clause-of
returns-clause-of g c =
    still_of c.args.passes.now.items (slice_set c.args.passes.now.items c.args.asking.object c.call-answer.new.pass) c.args.asking.object
    (returns-clause-asked g c).used c.args.shared.now c.requires.of
