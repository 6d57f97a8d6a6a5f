use Rattle.std.proofs.Common.{sym, ap, ◌∙◌}
use Rattle.std.specs.Prelude.{Option, option_and_then}
use Rattle.std.proofs.lemmas.Result.{IfOk-weaker}
use Rattle.anti_kind.specs.declared.call.Reply.{Reply}
use Rattle.anti_kind.specs.declared.call.Reply.TheVariants.{Got}
use Rattle.anti_proc.specs.declared.task.Role.{Role}
use Rattle.anti_proc.specs.Tasks.{task_for}
use Rattle.anti_proc.proofs.task.Task.of.Goals as goal

pub returns-in-Got-clause-task : goal.returns-in-Got-clause-task
returns-in-Got-clause-task c =
    let e = c.args.entry.now in
    IfOk-weaker c.task_of_message.result _ _
    (λ task is.
    ap (λ (role : Option Role). option_and_then (task_for c.args.app.now e.object e.reply) role) (sym c.role_of.ensures ∙ c.in-Some.is)
    ∙ ap (λ (r : Reply). task_for c.args.app.now e.object r c.in-Some.role) (c.in-Got.is ∙ ap (Got c.in-Got.number) (sym c.get.ensures))
    ∙ is e.object c.in-Got.number)
    c.task_of_message.ensures.task

pub returns-in-Got-clause-foreign : goal.returns-in-Got-clause-foreign
returns-in-Got-clause-foreign c = λ is.
    let e = c.args.entry.now in
    ap (λ (role : Option Role). option_and_then (task_for c.args.app.now e.object e.reply) role) (sym c.role_of.ensures ∙ c.in-Some.is)
    ∙ ap (λ (r : Reply). task_for c.args.app.now e.object r c.in-Some.role) (c.in-Got.is ∙ ap (Got c.in-Got.number) (sym c.get.ensures))
    ∙ c.task_of_message.ensures.foreign is e.object c.in-Got.number
