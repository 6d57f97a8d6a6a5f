use Rattle.std.proofs.Common.{◌≡◌, List}
use Rattle.std.specs.List.{list_all}
use Rattle.anti_kind.specs.declared.entry.Entry.{Entry}
use Rattle.anti_kind.specs.Store.{Store, is_written}
use Rattle.anti_replicas.specs.Stores.{At}
use Rattle.anti_replicas.proofs.replicas.Replicas.are_written.Given as goal

abbrev pub invariant-loop-id : goal.invariant-loop-id
invariant-loop-id l = (s : Store) (h : List Entry) → At l.self s h → list_all (is_written h) l.id-iterator ≡ list_all (is_written h) l.ids
