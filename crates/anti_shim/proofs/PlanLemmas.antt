-- The planned looks, one store after another.
use Rattle.std.specs.Prelude.{AllPairs, Option}
use Rattle.std.proofs.Common.{◌≡◌, ℕ, suc, ◌<◌, List, [], ◌∷◌, All, refl, ◌==◌, arith}
use Rattle.std.proofs.lemmas.List.Elements.{All-nil, All-cons, All-head, All-tail, All-weaker}
use Rattle.std.proofs.lemmas.List.Kept.{AllPairs-cons}
use Rattle.anti_ids.specs.declared.id.WriteId.{WriteId}
use Rattle.anti_ids.specs.Ids.{ids_of}
use Rattle.anti_shim.specs.declared.looks.PlannedLook.{PlannedLook}
use Rattle.anti_kind.specs.Objects.{Start}
use Rattle.anti_shim.specs.Plans.{with_look, plan}
use Rattle.anti_shim.specs.Sights.{HasReplica, IsHere}
use Rattle.anti_shim.proofs.LookLemmas.{IsRight, all_kept}

-- What holds of each planned look.

module _ (P : PlannedLook → Type 0) where
  all_with : (store : ℕ) (ids : List WriteId) (further : List PlannedLook) → P (record { store = store; ids = ids }) → All P further → All P (with_look store ids further)
  all_with store [] further p all = all
  all_with store (id ∷ ids) further p all = All-cons P (record { store = store; ids = id ∷ ids }) further p all

  pub all_planned : (here : List ℕ) (lineage : List WriteId) → All (λ store. P (record { store = store; ids = ids_of store lineage })) here → All P (plan here lineage)
  all_planned [] lineage each = All-nil P
  all_planned (store ∷ stores) lineage each =
      all_with store (ids_of store lineage) (plan stores lineage) (All-head (λ (s : ℕ). P (record { store = s; ids = ids_of s lineage })) store stores each)
      (all_planned stores lineage (All-tail (λ (s : ℕ). P (record { store = s; ids = ids_of s lineage })) store stores each))

-- the planned looks are right
pub plan_right : (starts : ℕ → Option Start) (region : ℕ) (here : List ℕ) (lineage : List WriteId) → IsHere starts region here → All (IsRight starts region) (plan here lineage)
plan_right starts region here lineage right =
    all_planned (IsRight starts region) here lineage (All-weaker (HasReplica starts region) (λ (o : ℕ). IsRight starts region (record { store = o; ids = ids_of o lineage })) (λ o r. record {
      start = r.0;
      is_start = r.1;
      number = r.2;
      replica = r.3;
      own = all_kept (λ (id : WriteId). id.store == o) lineage;
    }) here right.replicas)

-- the planned ids are those of the store
pub plan_ids : (here : List ℕ) (lineage : List WriteId) → All (λ look. look.ids ≡ ids_of look.store lineage) (plan here lineage)
plan_ids here lineage = all_planned (λ (look : PlannedLook). look.ids ≡ ids_of look.store lineage) here lineage (λ i d within. refl)

-- the planned stores ascend
ascends_with : (store : ℕ) (ids : List WriteId) (further : List PlannedLook) → All (λ look. store < look.store) further → AllPairs (λ a b. a.store < b.store) further
    → AllPairs (λ a b. a.store < b.store) (with_look store ids further)
ascends_with store [] further above ascends = ascends
ascends_with store (id ∷ ids) further above ascends = AllPairs-cons (λ (a b : PlannedLook). a.store < b.store) (record { store = store; ids = id ∷ ids }) further above ascends

pub plan_ascends : (here : List ℕ) (lineage : List WriteId) → AllPairs (λ a b. a < b) here → AllPairs (λ a b. a.store < b.store) (plan here lineage)
plan_ascends [] lineage ascends = λ i j d less within. absurd (omega arith)
plan_ascends (store ∷ stores) lineage ascends =
    ascends_with store (ids_of store lineage) (plan stores lineage)
    (all_planned (λ (look : PlannedLook). store < look.store) stores lineage (λ k d within. ascends 0 (suc k) d (omega arith) (omega arith)))
    (plan_ascends stores lineage (λ i j d less within. ascends (suc i) (suc j) d (omega arith) (omega arith)))
