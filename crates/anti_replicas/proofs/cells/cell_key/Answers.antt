use Rattle.std.proofs.Common.{◌≡◌, ap, sym, ◌∙◌, arith, append_assoc}
use Rattle.std.proofs.lemmas.Grind.{common_steps}
use Rattle.anti_ids.specs.Names.{name_of}
use Rattle.anti_kind.specs.Cells.{cell_key}
use Rattle.anti_replicas.proofs.Keys.{named}
use Rattle.anti_replicas.proofs.cells.cell_key.Goals as goal

pub returns-in-Err : goal.returns-in-Err
returns-in-Err c = λ plain small.
    let items : c.as_slice.result.now ≡ cell_key c.args.channel.now c.args.number = grind (arith, common_steps, append_assoc) in
    let bad = sym c.in-Err.is ∙ c.new.ensures ∙ ap name_of items ∙ named c.args.channel.now c.args.number plain small in
    absurd (cc)

pub returns-in-Ok : goal.returns-in-Ok
returns-in-Ok c = grind (arith, common_steps)
