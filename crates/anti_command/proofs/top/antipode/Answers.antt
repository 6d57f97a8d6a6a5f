-- Where no workers are asked for, the answer is that of the call without threads.
use Rattle.std.proofs.Common.{refl, sym, ap, ◌∙◌}
use Rattle.anti_command.specs.Words.{command_of, plain_command_of, without_workers}
use Rattle.anti_command.proofs.Settled.{answers, answers_as, prepared_run}
use Rattle.anti_command.proofs.top.antipode.Goals as goal

pub returns-then-not-runs_workers : goal.returns-then-not-runs_workers
returns-then-not-runs_workers g c =
    answers_as (plain_command_of c.args.words.now) (command_of c.args.words.now)
    (ap without_workers (sym c.asked_for.ensures.command) ∙ c.runs_workers.ensures.no c.if-not-runs_workers.true ∙ c.asked_for.ensures.command) _ _ _ _ c.antipode_plain.ensures

pub returns : goal.returns
returns g c =
    answers_as _ (command_of c.args.words.now) (sym (c.runs_workers.ensures.yes c.if-not-runs_workers.false) ∙ c.asked_for.ensures.command) _ _ _ _
    (answers _ _ _ _ _ c.work_document-prepared.result
    (prepared_run _ c.work_document-prepared.result c.work_document-prepared.ensures.done (c.work_document-prepared.ensures.cause _ refl) c.work_document-prepared.ensures.unwritten)
    c.settle.ensures)
