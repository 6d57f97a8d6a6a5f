use Rattle.std.proofs.Common.{sym, ap, ap₂, ◌∙◌}
use Rattle.std.specs.Prelude.{bytes_eq}
use Rattle.anti_kind.specs.Stored.{channel_of}
use Rattle.anti_kind.specs.Cells.{is_row_in}
use Rattle.anti_replicas.proofs.Reading.{row_there, row_absent}
use Rattle.anti_replicas.proofs.replicas.Replicas.is_cell.Goals as goal

pub returns-in-Some : goal.returns-in-Some
returns-in-Some c = λ s h at.
    c.eq.ensures
    ∙ ap₂ bytes_eq (c.channel_of.ensures ∙ ap channel_of c.bytes.ensures.value) c.bytes-in-Some.ensures.value
    ∙ sym (ap (is_row_in c.args.channel.now) (row_there c.args.self.now s h at c.args.version c.in-Some.kept.now c.in-Some.ensures.first c.in-Some.ensures.kept))

pub returns-in-None : goal.returns-in-None
returns-in-None c = λ s h at. sym (ap (is_row_in c.args.channel.now) (row_absent c.args.self.now s h at c.args.version c.in-None.ensures.none))
