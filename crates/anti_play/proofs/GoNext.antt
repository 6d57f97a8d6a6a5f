-- The process that asks for what is to be made next.
use Rattle.std.proofs.Common.{◌≡◌, ℕ}
use Rattle.std.specs.Prelude.{Some, position}
use Rattle.anti_kind.specs.declared.actor.Birth.{Birth}
use Rattle.anti_kind.specs.declared.asking.Asking.{Asking}
use Rattle.anti_trace.specs.inner.Living.{born_at, is_named, lists}
use Rattle.anti_play.specs.declared.world.World.{World}
use Rattle.anti_play.specs.inner.Choosing.{IsNextOf}
use Rattle.anti_play.proofs.GoOn.{IsFound}

pub is_next_found : (w : World) (b : Birth) (i : ℕ) (q : Asking) → position (is_named b) (born_at (lists w.processes) b.object) ≡ Some i
    → (next : IsNextOf w b i q) → IsFound w b i next.process
is_next_found w b i q found next = record { found = found; is = next.there }
