use Rattle.std.proofs.Common.{◌||◌, Bool, ap, ◌∙◌}
use Rattle.anti_ids.specs.Ids.{has_id}
use Rattle.anti_past.proofs.Finding.{found_set}
use Rattle.anti_past.proofs.finds.Finds.begin.Goals as goal

pub returns-in-Ok : goal.returns-in-Ok
returns-in-Ok c = λ q w.
    found_set c.args.self.now (record { spans = c.insert.new.self }) c.args.span c.args.ids.now q w c.add_all.new.self c.in-Ok.ensures.updates
    (c.in_ok-add_all.ensures w ∙ ap (λ (t : Bool). t || has_id w c.args.ids.now) (c.new-found.ensures w))
