use Rattle.std.proofs.Common.{◌≡◌, ℕ, true, take, All}
use Rattle.anti_shim.specs.Plans.{plan}
use Rattle.anti_shim.specs.Steps.{between}
use Rattle.anti_shim.specs.Sights.{has_sight, unseen}
use Rattle.anti_shim.specs.Barriers.{NotRefused}
use Rattle.anti_shim.proofs.BarrierLoop.{Went, Unasked}
use Rattle.anti_shim.proofs.barrier_call.go_over.Given as goal

abbrev pub invariant-loop-look : goal.invariant-loop-look
invariant-loop-look g l =
    let s = between g.P.Port l.fn.port l.port l.fn.who l.who in
    let planned = plan l.wanted.here.now l.wanted.lineage.now in
    record {
      went : Went s l.wanted.region planned l.fn.cursor l.cursor;
      not_refused : (o : ℕ) → NotRefused s l.wanted.region (unseen l.fn.cursor planned) o;
      unasked : Unasked s l.cursor;
      covered : All (λ look. has_sight l.cursor look.store ≡ true) (take l.look-index planned);
      fixed : (o : ℕ) → g.P.Port.start l.port o ≡ g.P.Port.start l.fn.port o;
      rest : g.P.Port.rest l.port ≡ g.P.Port.rest l.fn.port;
    }
