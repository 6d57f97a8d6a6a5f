use Rattle.std.proofs.Common.{[], refl}
use Rattle.anti_ids.proofs.ValueLemmas.{no_bytes}
use Rattle.anti_ids.proofs.value.Value.empty.Goals as goal

pub invariant_of-result : goal.invariant_of-result
invariant_of-result c = no_bytes [] refl
