use Rattle.std.proofs.lemmas.Slice.Eq.{bytes_eq-Decides, slice_eq-Decides}
use Rattle.anti_baggage.proofs.held.are_same_names.Goals as goal

pub returns : goal.returns
returns c equal = (slice_eq-Decides bytes_eq-Decides _ _ c.eq.result c.eq.ensures).0 equal
