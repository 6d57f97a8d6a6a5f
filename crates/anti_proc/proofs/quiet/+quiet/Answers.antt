use Rattle.std.proofs.Common.{◌≡◌, Bool, true, IsTrue, List, if◌then◌else◌, sym, ap, ◌∙◌, subst, rules}
use Rattle.std.proofs.lemmas.Result.{IfOk-weaker}
use Rattle.anti_lang.specs.Bodies.{block_from, step_of}
use Rattle.anti_lang.specs.Program.{Step}
use Rattle.anti_lang.specs.Steps.{steps_of}
use Rattle.anti_lang.specs.declared.statement.Statement.{Statement}
use Rattle.anti_lang.proofs.PlainLemmas.{step_if, step_repeat}
use Rattle.anti_proc.specs.declared.quiet.Quiet.{Quiet}
use Rattle.anti_proc.specs.Local.{held_in, is_absent}
use Rattle.anti_proc.specs.Meaning.{block_tree, step_tree}
use Rattle.anti_proc.specs.inner.Quiet.{IsQuietBlock, local_with}
use Rattle.anti_proc.specs.inner.Standing.{local_in, setting_in}
use Rattle.anti_proc.proofs.Quieting.{quiet_more, repeated}
use Rattle.anti_proc.proofs.quiet.+quiet.Goals as goal

pub run_quietly-returns-else-not-branch-2-clause-goes : goal.run_quietly-returns-else-not-branch-2-clause-goes
run_quietly-returns-else-not-branch-2-clause-goes t c = λ same go.
    let way = c.args.way.now in
    let old = c.args.quiet.now in
    let once = c.run_block.new.quiet in
    let last = c.run_block-in-Repeat.new.quiet in
    let body = c.in-Repeat.body in
    let all : IsTrue c.in_ok-run_block-in-Repeat.field-0 = search rules in
    let again : IsTrue c.in_ok-run_block-in-Repeat-2.field-0 = search rules in
    let first : IsQuietBlock (block_from (steps_of body.items)) way old once =
    subst (λ (those : List Statement). IsQuietBlock (block_from (steps_of those)) way old once) c.as_slice-block.ensures (c.in_ok-run_block-in-Repeat.ensures.goes all) in
    let second : IsQuietBlock (block_from (steps_of body.items)) way once last =
    subst (λ (those : List Statement). IsQuietBlock (block_from (steps_of those)) way once last) c.as_slice-block.ensures
    (c.in_ok-run_block-in-Repeat-2.ensures.goes again) in
    ap (λ (s : Step). step_tree s (setting_in way) (local_with way old) go) (ap step_of c.in-Repeat.is ∙ step_repeat c.in-Repeat.count body)
    ∙ repeated c.in-Repeat.count (block_from (steps_of body.items)) way old once last c.if-count-eq0.false first second
    (ap (λ (q : Quiet). q.carried) (sym c.in_ok-once-in-Repeat.ensures) ∙ c.is_as.ensures.carried same)
    (ap (λ (q : Quiet). q.reply) (sym c.in_ok-once-in-Repeat.ensures) ∙ c.is_as.ensures.reply same) go

pub run_quietly-returns-else-not-is_absent-clause-goes : goal.run_quietly-returns-else-not-is_absent-clause-goes
run_quietly-returns-else-not-is_absent-clause-goes t c =
    let way = c.args.way.now in
    let l = local_with way c.args.quiet.now in
    let body = c.in-IfAbsent.body in
    let left = c.run_block-in-IfAbsent.new.quiet in
    let absent : is_absent (held_in (local_in way).variables c.in-IfAbsent.variable) ≡ true = search rules in
    IfOk-weaker c.run_block-in-IfAbsent.result _ _
    (λ all goes. λ is go.
    ap (λ (s : Step). step_tree s (setting_in way) l go) (ap step_of c.in-IfAbsent.is ∙ step_if c.in-IfAbsent.variable body)
    ∙ ap (λ (b : Bool). if b then block_tree (block_from (steps_of body.items)) (setting_in way) l go else go l) absent
    ∙ subst (λ (those : List Statement). IsQuietBlock (block_from (steps_of those)) way c.args.quiet.now left) c.as_slice.ensures (goes is) go)
    c.run_block-in-IfAbsent.ensures.goes

pub run_block-loop-statement-preserved : goal.run_block-loop-statement-preserved
run_block-loop-statement-preserved t c =
    let all : IsTrue c.in_ok-run_quietly.field-0 = search rules in
    record {
      goes =
          quiet_more c.args.block.now c.loop-statement.statement-index c.statement-item.result c.args.way.now c.args.quiet.now c.loop-statement.quiet
          c.run_quietly.new.quiet (block_from (steps_of c.args.block.now)) c.loop-statement-test.true c.statement-item.is
          (c.in_ok-run_quietly.ensures.goes all) c.loop-statement.invariant.goes;
      known = c.run_quietly.ensures.known;
    }
