-- What is read behind a barrier that looked at the store.
use Rattle.std.proofs.Common.{◌≡◌, ◌==◌, ◌&&◌, ℕ, zero, suc, ◌≤◌, true, List, [], ◌∷◌, ◌∙◌, Some, Result, Ok, Err, sym, ap, subst, refl, eq-eqb, arith}
use Rattle.std.specs.Prelude.{All, Contains, IfOk}
use Rattle.std.proofs.lemmas.Bool.{eqb-true}
use Rattle.std.proofs.lemmas.List.Elements.{All-contains}
use Rattle.std.proofs.lemmas.List.Folds.{Any-from_list_any}
use Rattle.anti_ids.specs.Ids.{has_id, ids_of}
use Rattle.anti_ids.specs.declared.id.WriteId.{WriteId}
use Rattle.anti_ids.proofs.IdLemmas.{Contains-from_has_id, has_id-ids_of}
use Rattle.anti_kind.specs.declared.row.Row.{Row}
use Rattle.anti_kind.specs.Laws.{KeepsLaws}
use Rattle.anti_kind.specs.Objects.{store}
use Rattle.anti_kind.specs.Store.{Store}
use Rattle.anti_shim.specs.declared.caller.Caller.{Caller}
use Rattle.anti_shim.specs.declared.fault.ShimFault.{ShimFault}
use Rattle.anti_shim.specs.declared.looks.PlannedLook.{PlannedLook}
use Rattle.anti_shim.specs.declared.sight.Sight.{Sight}
use Rattle.anti_shim.specs.Plans.{plan, with_look}
use Rattle.anti_shim.specs.Shims.{Reads}
use Rattle.anti_shim.specs.Sights.{IsSeen, has_sight}
use Rattle.anti_shim.specs.Steps.{Step}
use Rattle.anti_shim.proofs.PlanLemmas.{plan_ids}
use Rattle.sample_callers.specs.Turns.{AllSeen, ShowsCarried, Then}

-- ---- a store of `here` of which the lineage has an id is looked at

-- a look at the store is among these
abbrev LooksAt : ℕ → List PlannedLook → Type 0
LooksAt number looks = (look : PlannedLook) × Contains looks look × (look.store ≡ number)

looks_later : (number : ℕ) (first : ℕ) (ids : List WriteId) (further : List PlannedLook) → LooksAt number further → LooksAt number (with_look first ids further)
looks_later number first [] further at = at
looks_later number first (id ∷ ids) further (look, (i, within, is), here) = (look, (suc i, omega (arith, within), is), here)

looks_first : (number : ℕ) (ids : List WriteId) (further : List PlannedLook) (id : WriteId) → Contains ids id → LooksAt number (with_look number ids further)
looks_first number [] further id there = absurd (omega (arith, there.1))
looks_first number (i ∷ ids) further id there = (record { store = number; ids = i ∷ ids }, (0, omega arith, refl), refl)

looks_at : (here : List ℕ) (lineage : List WriteId) (number : ℕ) (id : WriteId) → Contains (ids_of number lineage) id → Contains here number → LooksAt number (plan here lineage)
looks_at [] lineage number id own listed = absurd (omega (arith, listed.1))
looks_at (first ∷ rest) lineage number id own (zero, within, is) =
    subst (λ (n : ℕ). LooksAt number (with_look n (ids_of n lineage) (plan rest lineage))) (sym is) (looks_first number (ids_of number lineage) (plan rest lineage) id own)
looks_at (first ∷ rest) lineage number id own (suc i, within, is) =
    looks_later number first (ids_of first lineage) (plan rest lineage) (looks_at rest lineage number id own (i, omega (arith, within), is))

-- ---- a row that is read behind its sight

module _ (reads_show : (step : Step) (who : Caller) (region : ℕ) (look : PlannedLook) (sight : Sight) (s : Store) (key : List ℕ) (row : Row)
    → step.starts look.store ≡ Some (store s) → KeepsLaws s → IsSeen step.old who region look sight → Reads step look.store region key (Ok row)
    → All (λ id. id.key ≡ key → id.version ≤ row.version) look.ids)
    (step : Step) (region : ℕ) (here : List ℕ) (lineage : List WriteId) (number : ℕ) (key : List ℕ) (listed : Contains here number) where
  abbrev planned : List PlannedLook
  planned = plan here lineage

  -- the lineage has this of the store
  abbrev Carries : ℕ → Type 0
  Carries version = has_id (record { store = number; key = key; version = version }) lineage ≡ true

  own : (version : ℕ) → Carries version → Contains (ids_of number lineage) (record { store = number; key = key; version = version })
  own version has =
      let id : WriteId = record { store = number; key = key; version = version } in
      Contains-from_has_id id (ids_of number lineage) (has_id-ids_of id number lineage ∙ ap (λ b. b && (number == number)) has ∙ eq-eqb number number refl)

  module _ (row : Row) (read : Then step (AllSeen region planned) (λ t. Reads t number region key (Ok row))) where
    abbrev then : Step
    then = record step { starts = read.starts; old = read.views; before = read.who }

    -- behind one of the sights
    shows_at : (look : PlannedLook) (sight : Sight) → Contains planned look → IsSeen read.views read.who region look sight → sight.store ≡ number
        → ShowsCarried (step.starts number) number key lineage row
    shows_at look sight is_planned seen there s start_is keeps version has =
        let at : look.store ≡ number = sym seen.store ∙ there in
        let ids_are : look.ids ≡ ids_of number lineage =
        All-contains (λ look. look.ids ≡ ids_of look.store lineage) planned look (plan_ids here lineage) is_planned ∙ ap (λ (n : ℕ). ids_of n lineage) at in
        let shown : All (λ i. i.key ≡ key → i.version ≤ row.version) look.ids =
        reads_show then read.who region look sight s key row (read.same look.store ∙ ap step.starts at ∙ start_is) keeps seen
        (subst (λ (n : ℕ). Reads then n region key (Ok row)) (sym at) read.second) in
        All-contains (λ i. i.key ≡ key → i.version ≤ row.version) (ids_of number lineage) (record { store = number; key = key; version = version })
        (subst (All (λ i. i.key ≡ key → i.version ≤ row.version)) ids_are shown) (own version has) refl

    abbrev sights : List Sight
    sights = read.first.sights

    seen_at : (version : ℕ) → Carries version → has_sight sights number ≡ true
    seen_at version has =
        let its : LooksAt number planned = looks_at here lineage number (record { store = number; key = key; version = version }) (own version has) listed in
        subst (λ (n : ℕ). has_sight sights n ≡ true) its.2 (All-contains (λ look. has_sight sights look.store ≡ true) planned its.0 read.first.each its.1)

    shows_row : ShowsCarried (step.starts number) number key lineage row
    shows_row s start_is keeps version has =
        let any = Any-from_list_any (λ (sight : Sight). sight.store == number) sights (seen_at version has) in
        let seen = All-contains (λ sight. (look : PlannedLook) × Contains planned look × IsSeen read.views read.who region look sight) sights any.1 read.first.seen.seen
        (any.0, any.2, any.3) in
        shows_at seen.0 any.1 seen.1 seen.2 (eqb-true _ _ any.4) s start_is keeps version has

  pub shows_read : (read : Result Row ShimFault) → Then step (AllSeen region planned) (λ t. Reads t number region key read)
      → IfOk read (ShowsCarried (step.starts number) number key lineage)
  shows_read (Ok row) behind = shows_row row behind
  shows_read (Err fault) behind = tt
