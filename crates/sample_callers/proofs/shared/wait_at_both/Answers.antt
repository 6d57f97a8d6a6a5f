-- The ports begin as the passes that are lent to them.
use Rattle.std.proofs.Common.{ℕ, List, MutBor, sym, subst}
use Rattle.anti_kind.specs.Ports.{first_start}
use Rattle.anti_kv.specs.KvStates.{its_start}
use Rattle.anti_kv.specs.declared.kv_store.Kv.{Kv}
use Rattle.anti_shared.specs.Passes.{PassView, port_start}
use Rattle.anti_shim.specs.Sights.{IsHere}
use Rattle.sample_callers.proofs.shared.wait_at_both.Goals as goal

-- the stores are here for both passes
abbrev AreHere : ℕ → List ℕ → PassView Kv → PassView Kv → Type 0
AreHere region here first second = IsHere (λ o. first_start (port_start its_start first o) (port_start its_start second o)) region here

pub barrier_wait-answer-requires-clause-here : goal.barrier_wait-answer-requires-clause-here
barrier_wait-answer-requires-clause-here g c =
    subst (λ (first : MutBor (PassView Kv)). AreHere c.args.region c.args.here.now first.now c.new-2.result.now) (sym c.new.ensures)
    (subst (λ (second : MutBor (PassView Kv)). AreHere c.args.region c.args.here.now c.args.by.now second.now) (sym c.new-2.ensures) c.requires.here)
