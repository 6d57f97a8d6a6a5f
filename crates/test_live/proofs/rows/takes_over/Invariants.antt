use Rattle.anti_live.specs.Clients.{IsOf, LiveView}
use Rattle.test_live.proofs.rows.takes_over.Given as goal

-- the client is of the stores that it was of
abbrev pub invariant-loop-version : goal.invariant-loop-version
invariant-loop-version l = (live : LiveView) → IsOf live l.fn.client → IsOf live l.client
