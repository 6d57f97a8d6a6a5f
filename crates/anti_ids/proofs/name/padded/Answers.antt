use Rattle.anti_ids.proofs.NameLemmas.{padded_from}
use Rattle.anti_ids.proofs.name.padded.Goals as goal
use Rattle.std.proofs.Common.{refl}

pub returns : goal.returns
returns c = padded_from _ _ _ c.copy_from_slice.ensures.after refl
