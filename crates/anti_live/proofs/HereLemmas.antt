-- The stores that a region has.
use Rattle.std.proofs.Common.{◌≡◌, ℕ, suc, ◌+◌, ◌<◌, Bool, true, false, cond, List, [], ◌∷◌, Option, Some, refl, sym, ap, subst, arith}
use Rattle.std.specs.Prelude.{All, Contains, is_some, slice_get, ◌==◌}
use Rattle.std.specs.List.{list_any}
use Rattle.std.proofs.lemmas.Bool.{eqb-true}
use Rattle.std.proofs.lemmas.List.Elements.{All-nil, All-cons, All-contains}
use Rattle.std.proofs.lemmas.Map.Views.{Contains-from_any}
use Rattle.anti_kind.specs.Objects.{Start}
use Rattle.anti_kind.specs.Store.{Store, store_of}
use Rattle.anti_shim.specs.Sights.{HasReplica, IsHere}
use Rattle.anti_shim.proofs.Here.{here_more, here_none}
use Rattle.anti_live.specs.declared.stores.LiveStore.{LiveStore}
use Rattle.anti_live.specs.Stores.{here_from, is_among, kind_of, start_at}

-- whether a store has a replica in a region
abbrev has : ℕ → LiveStore → Bool
has region s = list_any (λ g. g == region) s.regions.items

module _ (starts : ℕ → Option Start) (region : ℕ) where
  -- the stores from a number on are those that start so
  abbrev StartFrom : ℕ → List LiveStore → Type 0
  StartFrom number stores = (n : ℕ) (s : LiveStore) → slice_get stores n ≡ Some s → starts (number + n) ≡ Some (start_at (number + n) s)

  above : (number low : ℕ) (stores : List LiveStore) → low < number → All (λ o. low < o) (here_from region number stores)
  above number low [] less = All-nil (λ (o : ℕ). low < o)
  above number low (s ∷ rest) less = by_has (has region s) (above (number + 1) low rest (omega (arith, less)))
    where
      further : List ℕ
      further = here_from region (number + 1) rest

      by_has : (b : Bool) → All (λ o. low < o) further → All (λ o. low < o) (cond b (number ∷ further) further)
      by_has true all = All-cons (λ (o : ℕ). low < o) number further less all
      by_has false all = all

  pub here_from_right : (number : ℕ) (stores : List LiveStore) → StartFrom number stores → IsHere starts region (here_from region number stores)
  here_from_right number [] start = here_none starts region
  here_from_right number (s ∷ rest) start =
      by_has (has region s) refl (here_from_right (number + 1) rest (λ n t at. subst (λ (k : ℕ). starts k ≡ Some (start_at k t)) (omega arith) (start (suc n) t at)))
    where
      further : List ℕ
      further = here_from region (number + 1) rest

      its : Store
      its = store_of (kind_of s.kind) number s.regions.items [] 0

      first : has region s ≡ true → HasReplica starts region number
      first is = (its, subst (λ (k : ℕ). starts k ≡ Some (start_at k s)) (omega arith) (start 0 s refl), refl, is)

      by_has : (b : Bool) → has region s ≡ b → IsHere starts region further → IsHere starts region (cond b (number ∷ further) further)
      by_has true is right = here_more starts region number further (first is) (above (number + 1) number rest (omega arith)) right
      by_has false is right = right

among : (o : ℕ) (here : List ℕ) → is_among o here ≡ true → Contains here o
among o here is = Contains-from_any {eq = λ q n. n == q} (λ x y same. sym (eqb-true y x same)) o here is

-- what a region has can be asked
pub here_started : (starts : ℕ → Option Start) (region : ℕ) (here : List ℕ) (o : ℕ) → IsHere starts region here → is_among o here ≡ true → is_some (starts o) ≡ true
here_started starts region here o right is =
    let its : HasReplica starts region o = All-contains (HasReplica starts region) here o right.replicas (among o here is) in
    ap (λ (s : Option Start). is_some s) its.1
