use Rattle.std.proofs.Common.{sym}
use Rattle.anti_adversary.proofs.Missing.{sifted_barred, sifted_order}
use Rattle.anti_adversary.proofs.examined.first_barred.Goals as goal

pub loop-answer-preserved-then-not-is_barred : goal.loop-answer-preserved-then-not-is_barred
loop-answer-preserved-then-not-is_barred c =
    sifted_order c.args.app.now c.args.trace.now c.loop-answer.answers.items c.pop.new.self.items c.loop-answer.first c.in-Some.answer
    c.in-Some.ensures.some c.loop-answer.invariant

pub loop-answer-preserved : goal.loop-answer-preserved
loop-answer-preserved c =
    sifted_barred c.args.app.now c.args.trace.now c.loop-answer.answers.items c.pop.new.self.items c.loop-answer.first c.in-Some.answer
    c.in-Some.ensures.some c.loop-answer.invariant (sym c.if-not-is_barred.ensures)
