use Rattle.std.proofs.Common.{sym, ◌∙◌}
use Rattle.std.specs.Prelude.{Some}
use Rattle.anti_lang.specs.Bodies.{block_from}
use Rattle.anti_lang.specs.Steps.{steps_of}
use Rattle.anti_place.specs.Reviews.{all_waits}
use Rattle.anti_place.proofs.Waiting.{before, body_waits, found_there, none_there}
use Rattle.anti_place.proofs.body.waits_at.Goals as goal

pub returns-in-Some : goal.returns-in-Some
returns-in-Some c =
    found_there c.args.line (all_waits c.args.named (block_from (steps_of c.args.body.now))) c.in-Some.found
    (body_waits (Some (before c.args.line)) c.args.named (block_from (steps_of c.args.body.now)) ∙ sym c.in-Some.ensures)

pub returns-in-None : goal.returns-in-None
returns-in-None c =
    none_there c.args.line (all_waits c.args.named (block_from (steps_of c.args.body.now)))
    (body_waits (Some (before c.args.line)) c.args.named (block_from (steps_of c.args.body.now)) ∙ sym c.in-None.ensures)
