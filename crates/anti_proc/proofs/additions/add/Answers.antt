use Rattle.std.specs.Prelude.{option_map}
use Rattle.anti_proc.specs.Local.{held_ids}
use Rattle.anti_proc.proofs.additions.add.Goals as goal

pub returns : goal.returns
returns c = c.next_with.ensures (held_ids (option_map (λ h. h.now) c.args.held)) c.args.carried.now c.add_held-added.ensures
