use Rattle.std.proofs.Common.{◌≡◌, ◌+◌, ℕ, true, List, length, take}
use Rattle.std.specs.List.{AllZip}
use Rattle.anti_ids.specs.declared.id.WriteId.{WriteId}
use Rattle.anti_ids.specs.Ids.{has_id}
use Rattle.anti_shim.specs.Plans.{plan}
use Rattle.anti_shim.specs.Steps.{between}
use Rattle.anti_shim.specs.Looks.{OnlyLooks}
use Rattle.anti_shim.specs.DryRuns.{Names, union}
use Rattle.anti_shim.proofs.DryRunLoop.{Untouched}
use Rattle.anti_shim.proofs.dry_run_call.dry_run.Given as goal

abbrev pub invariant-loop-look : goal.invariant-loop-look
invariant-loop-look g l =
    let s = between g.P.Port l.fn.port l.port l.fn.who l.who in
    let planned = plan l.here l.lineage in
    record {
      only : OnlyLooks s l.region true planned;
      untouched : Untouched s planned l.look-index;
      finds : (finds : List (List WriteId)) × AllZip (Names s l.region) (take l.look-index planned) finds × (l.named.ids ≡ union finds);
      part : (id : WriteId) → has_id id l.named.ids ≡ true → has_id id l.lineage ≡ true;
      room : length l.named.ids + l.named.spare ≡ length l.lineage;
      fixed : (o : ℕ) → g.P.Port.start l.port o ≡ g.P.Port.start l.fn.port o;
      rest : g.P.Port.rest l.port ≡ g.P.Port.rest l.fn.port;
    }
