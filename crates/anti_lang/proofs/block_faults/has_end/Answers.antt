use Rattle.std.proofs.Common.{ap, arith}
use Rattle.anti_lang.specs.Bodies.{step_of}
use Rattle.anti_lang.specs.Stated.{stated}
use Rattle.anti_lang.proofs.TurnLemmas.{behind_repeat, behind_if, behind_end, behind_does}
use Rattle.anti_lang.proofs.block_faults.has_end.Goals.{in-Repeat, in-IfAbsent, in-End+else-inner-eq0, in-Does}
use Rattle.anti_lang.proofs.block_faults.has_end.Goals as goal

pub loop-line-preserved : goal.loop-line-preserved
loop-line-preserved c = elim c.match-line.branch [
  | in-Repeat w ↦ record {
    few = omega (arith, w.inner-is);
    left =
        behind_repeat c.args.lines.now c.loop-line.line-index c.line-item.result w.in-Repeat.field-0 c.loop-line.inner c.match-line.inner _
        c.loop-line-test.true c.line-item.is (ap stated w.in-Repeat.is) w.inner-is c.loop-line.invariant.left;
  }
  | in-IfAbsent w ↦ record {
    few = omega (arith, w.inner-is);
    left =
        behind_if c.args.lines.now c.loop-line.line-index c.line-item.result w.in-IfAbsent.field-0 c.loop-line.inner c.match-line.inner _
        c.loop-line-test.true c.line-item.is (ap stated w.in-IfAbsent.is) w.inner-is c.loop-line.invariant.left;
  }
  | in-End+else-inner-eq0 w ↦ record {
    few = omega (arith, w.inner-is);
    left =
        behind_end c.args.lines.now c.loop-line.line-index c.line-item.result c.loop-line.inner c.match-line.inner _
        c.loop-line-test.true c.line-item.is (ap stated w.in-End.is) w.if-inner-eq0.false w.inner-is c.loop-line.invariant.left;
  }
  | in-Does w ↦ record {
    few = omega (arith, w.inner-is);
    left =
        behind_does c.args.lines.now c.loop-line.line-index c.line-item.result (step_of w.in-Does.field-0) c.loop-line.inner c.match-line.inner _
        c.loop-line-test.true c.line-item.is (ap stated w.in-Does.is) w.inner-is c.loop-line.invariant.left;
  }
]
