use Rattle.std.proofs.Common.{sym}
use Rattle.anti_adversary.proofs.Missing.{examined_all, examined_miss}
use Rattle.anti_adversary.proofs.examined.first_miss.Goals as goal

pub loop-found-preserved : goal.loop-found-preserved
loop-found-preserved c =
    examined_miss c.args.trace.now c.loop-found.diagnoses.items c.pop.new.self.items c.loop-found.first c.in-Some.found c.in-Some.ensures.some
    c.loop-found.invariant (sym c.if-not-is_miss.ensures)

pub returns-clause-nothing : goal.returns-clause-nothing
returns-clause-nothing c =
    examined_all c.args.trace.now c.loop-found.diagnoses.items c.loop-found.first
    (c.diagnoses_decide.ensures.spans c.args.app.now c.args.trace.now c.requires.sound c.requires.legal) c.loop-found.invariant
    c.in_default.ensures.none
