use Rattle.std.proofs.Common.{sym, ◌∙◌, ap₂}
use Rattle.anti_lang.specs.Bodies.{block_from}
use Rattle.anti_lang.specs.Steps.{steps_of}
use Rattle.anti_place.specs.Paths.{earlier}
use Rattle.anti_place.proofs.Doubting.{joined_is_first}
use Rattle.anti_place.proofs.body.next_fault.Goals as goal

pub returns : goal.returns
returns c =
    c.earlier-2.ensures
    ∙ ap₂ earlier c.fault_of-always.ensures (c.earlier.ensures ∙ ap₂ earlier c.fault_of-unsettled.ensures c.fault_of_reads.ensures)
    ∙ sym (joined_is_first c.args.called c.args.named c.args.after (block_from (steps_of c.args.body.now)))
