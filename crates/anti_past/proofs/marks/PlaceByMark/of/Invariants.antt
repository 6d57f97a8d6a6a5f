use Rattle.anti_app.specs.declared.app.App.{App}
use Rattle.anti_trace.specs.Legal.{IsLegalTrace}
use Rattle.anti_past.specs.inner.Marks.{KnowsBefore}
use Rattle.anti_past.proofs.marks.PlaceByMark.of.Given as goal

-- the places of the entries so far are known
abbrev pub invariant-loop-index : goal.invariant-loop-index
invariant-loop-index l = (app : App) → IsLegalTrace app l.trace → KnowsBefore l.trace l.index (record { places = l.places })
