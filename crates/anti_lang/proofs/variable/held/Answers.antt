use Rattle.std.proofs.Common.{◌∙◌, sym, ap, arith}
use Rattle.std.proofs.lemmas.List.{length-take}
use Rattle.anti_lang.specs.Bodies.{step_of}
use Rattle.anti_lang.specs.Stated.{stated}
use Rattle.anti_lang.proofs.VariableLemmas.{passed_repeat, passed_if, passed_end, passed_inside, passed_other, spanned, found_here, none_left}
use Rattle.anti_lang.proofs.variable.held.Goals as goal

pub loop-above-preserved-in-Repeat : goal.loop-above-preserved-in-Repeat
loop-above-preserved-in-Repeat c =
    record {
      few = simp length-take (omega arith);
      left =
          rw c.saturating_sub-ended.ensures
          (passed_repeat c.loop-above.above.now c.line-item.result c.in-Repeat.field-0 c.loop-above.ended c.args.name.now _
          (c.in-len1-up.len_at_least, c.line-item.is) (ap stated c.in-Repeat.is) c.loop-above.invariant.left);
    }

pub loop-above-preserved-in-IfAbsent : goal.loop-above-preserved-in-IfAbsent
loop-above-preserved-in-IfAbsent c =
    record {
      few = simp length-take (omega arith);
      left =
          rw c.saturating_sub-ended-in-IfAbsent.ensures
          (passed_if c.loop-above.above.now c.line-item.result c.in-IfAbsent.field-0 c.loop-above.ended c.args.name.now _
          (c.in-len1-up.len_at_least, c.line-item.is) (ap stated c.in-IfAbsent.is) c.loop-above.invariant.left);
    }

pub loop-above-preserved-in-End : goal.loop-above-preserved-in-End
loop-above-preserved-in-End c =
    record {
      few = simp length-take (omega arith);
      left =
          passed_end c.loop-above.above.now c.line-item.result c.loop-above.ended c.args.name.now _
          (c.in-len1-up.len_at_least, c.line-item.is) (ap stated c.in-End.is) c.loop-above.invariant.left;
    }

pub loop-above-preserved : goal.loop-above-preserved
loop-above-preserved c =
    record {
      few = simp length-take (omega arith);
      left =
          passed_inside c.loop-above.above.now c.line-item.result (step_of c.in-Does.field-0) c.loop-above.ended c.args.name.now _
          (c.in-len1-up.len_at_least, c.line-item.is) (ap stated c.in-Does.is) c.if-ended-eq0.false c.loop-above.invariant.left;
    }

pub returns : goal.returns
returns c = none_left c.loop-above.above.now c.loop-above.ended c.args.name.now _ c.in_default.len_below c.loop-above.invariant.left

pub returns-then-begins_span : goal.returns-then-begins_span
returns-then-begins_span c =
    spanned c.loop-above.above.now c.line-item.result (step_of c.in-Does.field-0) c.args.name.now _ (c.in-len1-up.len_at_least, c.line-item.is)
    (ap stated c.in-Does.is) (sym c.begins_span.ensures ∙ c.if-begins_span.true) (rw c.if-ended-eq0.true at c.loop-above.invariant.left)

pub returns-in-Some : goal.returns-in-Some
returns-in-Some c =
    found_here c.loop-above.above.now c.line-item.result (step_of c.in-Does.field-0) c.args.name.now c.in-Some.kind _ (c.in-len1-up.len_at_least, c.line-item.is)
    (ap stated c.in-Does.is) (sym c.begins_span.ensures ∙ c.if-begins_span.false) (sym c.in-Some.is ∙ c.held_by.ensures)
    (rw c.if-ended-eq0.true at c.loop-above.invariant.left)

pub loop-above-preserved-in_default-held_by : goal.loop-above-preserved-in_default-held_by
loop-above-preserved-in_default-held_by c =
    record {
      few = simp length-take (omega arith);
      left =
          rw c.if-ended-eq0.true
          (passed_other c.loop-above.above.now c.line-item.result (step_of c.in-Does.field-0) c.args.name.now _ (c.in-len1-up.len_at_least, c.line-item.is)
          (ap stated c.in-Does.is) (sym c.begins_span.ensures ∙ c.if-begins_span.false) (sym c.in_default-held_by.is ∙ c.held_by.ensures)
          (rw c.if-ended-eq0.true at c.loop-above.invariant.left));
    }
