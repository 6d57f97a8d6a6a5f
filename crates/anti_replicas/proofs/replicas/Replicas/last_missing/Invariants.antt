use Rattle.std.proofs.Common.{◌≡◌, ℕ, true, List}
use Rattle.std.specs.Prelude.{IfSome}
use Rattle.std.specs.List.{list_all, list_any}
use Rattle.anti_kind.specs.declared.entry.Entry.{Entry}
use Rattle.anti_kind.specs.Store.{Store, is_written}
use Rattle.anti_kind.specs.Waiting.{lacks}
use Rattle.anti_replicas.specs.Stores.{At, showing_whole}
use Rattle.anti_replicas.proofs.replicas.Replicas.last_missing.Given as goal

-- The ids so far were written; those to come are among all, as is one that the last version is lacking of.
abbrev pub invariant-loop-id : goal.invariant-loop-id
invariant-loop-id l = record {
  written : (s : Store) (h : List Entry) → At l.self s h → list_all (is_written h) l.id-iterator ≡ list_all (is_written h) l.ids;
  among : (s : Store) (h : List Entry) (v : ℕ) → At l.self s h
      → list_any (lacks (showing_whole s) h l.region v) l.id-iterator ≡ true → list_any (lacks (showing_whole s) h l.region v) l.ids ≡ true;
  last : (s : Store) (h : List Entry) → At l.self s h → IfSome l.last (λ v. list_any (lacks (showing_whole s) h l.region v) l.ids ≡ true);
}
