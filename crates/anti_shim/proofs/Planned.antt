-- The looks that are planned, one store after another.
use Rattle.std.proofs.Common.{◌≡◌, ℕ, ◌+◌, ◌-◌, ◌<◌, ◌++◌, ◌∷◌, List, [], length, drop, get_or, true, false, ◌==◌, refl, sym, ap, ◌∙◌, append_assoc, arith}
use Rattle.std.proofs.lemmas.Bool.Decides.{nat_tests}
use Rattle.std.proofs.lemmas.List.{drop_more}
use Rattle.anti_ids.specs.declared.id.WriteId.{WriteId}
use Rattle.anti_ids.specs.Ids.{ids_of}
use Rattle.anti_ids.specs.List.{Listed}
use Rattle.anti_ids.specs.ListCalls.{pushed}
use Rattle.anti_shim.specs.declared.looks.PlannedLook.{PlannedLook}
use Rattle.anti_shim.specs.Plans.{plan, with_look}

-- no look is planned for no ids
pub planned_none : (here : List ℕ) (lineage : List WriteId) → (length lineage == 0) ≡ true → plan here lineage ≡ []
planned_none [] lineage none = refl
planned_none (store ∷ stores) [] none = planned_none stores [] none
planned_none (store ∷ stores) (i ∷ is) none = absurd (grind (arith, nat_tests))

-- a store of which there are ids is looked at before the others
look_first : (store : ℕ) (ids : List WriteId) (further : List PlannedLook) → (length ids == 0) ≡ false → with_look store ids further ≡ record { store = store; ids = ids } ∷ further
look_first store [] further h = absurd (cc)
look_first store (i ∷ ids) further h = refl

pub planned_next : (here : List ℕ) (lineage : List WriteId) (n d : ℕ) → n < length here → (length (ids_of (get_or here n d) lineage) == 0) ≡ false
    → plan (drop n here) lineage ≡ record { store = get_or here n d; ids = ids_of (get_or here n d) lineage } ∷ plan (drop (n + 1) here) lineage
planned_next here lineage n d within some =
    ap (λ (stores : List ℕ). plan stores lineage) (drop_more here n d within)
    ∙ look_first (get_or here n d) (ids_of (get_or here n d) lineage) (plan (drop (n + 1) here) lineage) some

pub planned_more : (here : List ℕ) (lineage : List WriteId) (n d : ℕ) (ids : List WriteId) (before after : Listed PlannedLook) → n < length here
    → ids ≡ ids_of (get_or here n d) lineage → (length ids == 0) ≡ false
    → before.items ++ plan (drop n here) lineage ≡ plan here lineage → before.spare ≡ 0
    → after ≡ pushed before (record { store = get_or here n d; ids = ids })
    → (after.items ++ plan (drop (n + 1) here) lineage ≡ plan here lineage) × (after.spare ≡ 0)
planned_more here lineage n d ids before after within is some whole full added =
    let look : PlannedLook = record { store = get_or here n d; ids = ids } in
    let items : after.items ≡ before.items ++ look ∷ [] = ap (λ (l : Listed PlannedLook). l.items) added in
    let spare : after.spare ≡ before.spare - 1 = ap (λ (l : Listed PlannedLook). l.spare) added in
    let next : plan (drop n here) lineage ≡ look ∷ plan (drop (n + 1) here) lineage =
    planned_next here lineage n d within (ap (λ (l : List WriteId). length l == 0) (sym is) ∙ some)
    ∙ ap (λ (l : List WriteId). record { store = get_or here n d; ids = l } ∷ plan (drop (n + 1) here) lineage) (sym is) in (
      ap (λ (l : List PlannedLook). l ++ plan (drop (n + 1) here) lineage) items
          ∙ append_assoc before.items (look ∷ []) (plan (drop (n + 1) here) lineage)
          ∙ ap (λ (l : List PlannedLook). before.items ++ l) (sym next) ∙ whole,
      omega (arith, spare, full),
    )
