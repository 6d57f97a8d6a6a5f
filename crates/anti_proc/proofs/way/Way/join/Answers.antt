use Rattle.std.proofs.Common.{◌≡◌, not, refl, sym, ap, ◌∙◌}
use Rattle.std.specs.Prelude.{None, Option}
use Rattle.anti_proc.specs.declared.next.Stage.{Stage}
use Rattle.anti_proc.specs.declared.variables.Binding.{Binding}
use Rattle.anti_proc.specs.Local.{held_ids}
use Rattle.anti_proc.specs.Meaning.{carry}
use Rattle.anti_proc.specs.inner.Quiet.{local_with}
use Rattle.anti_proc.specs.inner.Standing.{setting_in, stage_or}
use Rattle.anti_proc.proofs.Quieting.{no_stage}
use Rattle.anti_proc.proofs.way.Way.join.Goals as goal

pub returns-clause-goes : goal.returns-clause-goes
returns-clause-goes c = λ all go.
    let way = c.args.self.now in
    let l = local_with way c.args.quiet.now in
    let left = record l { carried = c.add.new.carried } in
    ap (λ (held : Option Binding). carry (held_ids held) l go) (sym c.held.ensures)
    ∙ sym (c.in_ok-stage.ensures (setting_in way) l go refl)
    ∙ ap (λ (stage : Option Stage). stage_or stage (setting_in way) left go) (no_stage c.in_ok-stage.stage (ap not (c.is_none.ensures ∙ ap not all)))
