use Rattle.std.proofs.Common.{◌≡◌, ◌+◌, ◌≤◌, not, List, ◌++◌, length, filter}
use Rattle.anti_ids.specs.Each.{Each}
use Rattle.anti_ids.specs.declared.limits.TheConstants.{MOST_IDS}
use Rattle.anti_kind.specs.declared.entry.Entry.{Entry}
use Rattle.anti_kind.specs.Store.{is_visible}
use Rattle.anti_cache.specs.CachedStates.{At, its_store}
use Rattle.anti_cache.proofs.cached_store.CachedKv.missing.Given as goal

abbrev pub invariant-loop-id : goal.invariant-loop-id
invariant-loop-id l = record {
  found : (h : List Entry) → At l.self h
      → l.found ++ filter (λ id. not (is_visible (its_store l.self) h l.region id)) l.id-iterator
      ≡ filter (λ id. not (is_visible (its_store l.self) h l.region id)) l.ids;
  few : length l.found + length l.id-iterator ≤ MOST_IDS;
  written : Each (λ id. 1 ≤ id.version) l.id-iterator;
}
