use Rattle.std.proofs.Common.{◌≡◌, ◌++◌, drop}
use Rattle.anti_shim.specs.Plans.{plan}
use Rattle.anti_shim.proofs.looks.plan.Given as goal

abbrev pub invariant-loop-store : goal.invariant-loop-store
invariant-loop-store l = record {
  looks : l.looks.items ++ plan (drop l.store-index l.here) l.lineage ≡ plan l.here l.lineage;
  room : l.looks.spare ≡ 0;
}
