use Rattle.std.proofs.Common.{◌≡◌, ℕ}
use Rattle.sample_callers.specs.Shipments.{AreBrought}
use Rattle.sample_callers.proofs.port.bring_from.Given as goal

-- the versions before this one are brought, and nothing changed but what was seen of the store
abbrev pub invariant-loop-version : goal.invariant-loop-version
invariant-loop-version g l = record {
  brought : AreBrought (g.P.Port.view l.port l.fn.store).seen l.fn.region l.fn.first l.version;
  others : (o : ℕ) → (o ≡ l.fn.store → ⊥) → g.P.Port.view l.port o ≡ g.P.Port.view l.fn.port o;
  fixed : (o : ℕ) → g.P.Port.start l.port o ≡ g.P.Port.start l.fn.port o;
}
