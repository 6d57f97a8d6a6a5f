-- Ids that are gone past, and where the ids of a store stand among ascending ids.
use Rattle.std.specs.Prelude.{◌≡◌, ℕ, List, ◌++◌, ◌==◌, true, false, length}
use Rattle.anti_ids.specs.Each.{Each}
use Rattle.anti_ids.specs.declared.id.WriteId.{WriteId}

-- so many ids of which something holds, and the rest behind them
pub record Passed (P : WriteId → Type 0) (ids rest : List WriteId) (count : ℕ) : Type 0 where
  pub front : List WriteId
  pub is : ids ≡ front ++ rest
  pub size : length front ≡ count
  pub low : Each P front

-- the same ids at the front of two lists, and the rest of each behind them
pub record PassedSame (ids rest others others_rest : List WriteId) : Type 0 where
  pub front : List WriteId
  pub is : ids ≡ front ++ rest
  pub others_are : others ≡ front ++ others_rest

-- from an index on so many ids of a store, and none of it before and behind them
pub record StandFrom (store : ℕ) (ids : List WriteId) (from len : ℕ) : Type 0 where
  pub front : List WriteId
  pub own : List WriteId
  pub back : List WriteId
  pub is : ids ≡ front ++ (own ++ back)
  pub at : length front ≡ from
  pub size : length own ≡ len
  pub before : Each (λ i. (i.store == store) ≡ false) front
  pub of_it : Each (λ i. (i.store == store) ≡ true) own
  pub behind : Each (λ i. (i.store == store) ≡ false) back
