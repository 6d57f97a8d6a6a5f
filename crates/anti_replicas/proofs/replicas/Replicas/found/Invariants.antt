use Rattle.std.proofs.Common.{◌≡◌, ◌==◌, ◌&&◌, ◌||◌, List}
use Rattle.std.specs.List.{list_all, list_any}
use Rattle.anti_kind.specs.declared.entry.Entry.{Entry}
use Rattle.anti_kind.specs.Store.{Store, is_visible, is_written}
use Rattle.anti_replicas.specs.Stores.{At, showing_whole, number_of}
use Rattle.anti_replicas.proofs.replicas.Replicas.found.Given as goal

-- what is found of the ids so far, and what is to come, are what is found of all
abbrev pub invariant-loop-id : goal.invariant-loop-id
invariant-loop-id l = record {
  own : (l.found.own && list_all (λ id. id.store == number_of l.self) l.id-iterator) ≡ list_all (λ id. id.store == number_of l.self) l.ids;
  visible : (s : Store) (h : List Entry) → At l.self s h
      → (l.found.visible && list_all (is_visible (showing_whole s) h l.region) l.id-iterator) ≡ list_all (is_visible (showing_whole s) h l.region) l.ids;
  shown : (s : Store) (h : List Entry) → At l.self s h
      → (l.found.shown || list_any (is_visible (showing_whole s) h l.region) l.id-iterator) ≡ list_any (is_visible (showing_whole s) h l.region) l.ids;
  written : (s : Store) (h : List Entry) → At l.self s h → (l.found.written && list_all (is_written h) l.id-iterator) ≡ list_all (is_written h) l.ids;
}
