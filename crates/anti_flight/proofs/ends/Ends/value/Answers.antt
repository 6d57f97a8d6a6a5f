use Rattle.std.proofs.Common.{sym, subst}
use Rattle.anti_flight.specs.inner.Linked.{IsAt}
use Rattle.anti_flight.proofs.ends.Ends.value.Goals as goal

pub value-requires : goal.value-requires
value-requires g c = subst (λ ns. IsAt ns c.args.place.ptr) (sym c.self.view_is) c.requires
