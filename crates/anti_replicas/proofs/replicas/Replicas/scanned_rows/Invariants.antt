use Rattle.std.proofs.Common.{◌≡◌, List, ◌++◌}
use Rattle.anti_kind.specs.declared.entry.Entry.{Entry}
use Rattle.anti_kind.specs.Store.{Store}
use Rattle.anti_replicas.specs.Stores.{At}
use Rattle.anti_replicas.specs.inner.Scans.{listed}
use Rattle.anti_replicas.proofs.replicas.Replicas.scanned_rows.Given as goal

abbrev pub invariant-loop-key : goal.invariant-loop-key
invariant-loop-key l = record {
  rows : (s : Store) (h : List Entry) → At l.self s h
      → l.rows.items ++ listed h l.self.newest l.region l.prefix l.key-iterator ≡ listed h l.self.newest l.region l.prefix l.self.newest.numbers.entries;
  spare : l.rows.spare ≡ 0;
}
