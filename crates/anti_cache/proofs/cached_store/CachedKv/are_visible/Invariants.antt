use Rattle.std.proofs.Common.{◌≡◌, List}
use Rattle.std.specs.List.{list_all}
use Rattle.anti_kind.specs.declared.entry.Entry.{Entry}
use Rattle.anti_kind.specs.Store.{is_visible}
use Rattle.anti_cache.specs.CachedStates.{At, its_store}
use Rattle.anti_cache.proofs.cached_store.CachedKv.are_visible.Given as goal

abbrev pub invariant-loop-id : goal.invariant-loop-id
invariant-loop-id l =
    (h : List Entry) → At l.self h → list_all (is_visible (its_store l.self) h l.region) l.id-iterator ≡ list_all (is_visible (its_store l.self) h l.region) l.ids
