-- Where a handler carries no id of a store with a replica where it runs, from statement to statement.
use Rattle.std.proofs.Common.{◌≡◌, ℕ, ◌==◌, Bool, true, false, cond, List, [], ◌∷◌, refl, sym, ap, ◌∙◌}
use Rattle.std.specs.Prelude.{Option, None, Some, not}
use Rattle.anti_ids.specs.Ids.{ids_of, is_id, without_id}
use Rattle.anti_ids.specs.declared.id.WriteId.{WriteId}
use Rattle.anti_kind.specs.declared.call.Call.TheVariants as calls
use Rattle.anti_lang.specs.Program as program
use Rattle.anti_lang.specs.Program.{Step, Barrier, DryRun, Remove, Repeat, IfAbsent}
use Rattle.anti_app.specs.Objects.{stores_here}
use Rattle.anti_shim.specs.declared.looks.PlannedLook.{PlannedLook}
use Rattle.anti_shim.specs.Plans.{plan, with_look}
use Rattle.anti_proc.specs.declared.end.BodyEnd.TheVariants.{Fine}
use Rattle.anti_proc.specs.declared.variables.Binding.{Binding}
use Rattle.anti_proc.specs.declared.variables.Binding.TheVariants.{Wrote, Saw, Heard}
use Rattle.anti_proc.specs.declared.way.Way.{Way}
use Rattle.anti_proc.specs.Local.{Setting, Local, held_in, removed}
use Rattle.anti_proc.specs.Meaning.{Go, asks, looks, planned}
use Rattle.anti_proc.specs.Trees.{Asks, Ends, Tree}
use Rattle.anti_proc.specs.inner.Standing.{local_in, setting_in}
use Rattle.anti_proc.specs.inner.Statements.{ComesTo, NoneHere, finds_none, is_idle}

-- ---- one id less

kept_none : (of kept : Bool) (store : ℕ) (i j : WriteId) (js : List WriteId) → of ≡ (j.store == store) → cond of (j ∷ ids_of store js) (ids_of store js) ≡ []
    → (ids_of store js ≡ [] → ids_of store (without_id i js) ≡ []) → ids_of store (cond kept (j ∷ without_id i js) (without_id i js)) ≡ []
kept_none true kept store i j js of none rest = absurd (cc)
kept_none false true store i j js of none rest =
    ap (λ (its : Bool). cond its (j ∷ ids_of store (without_id i js)) (ids_of store (without_id i js))) (sym of) ∙ rest none
kept_none false false store i j js of none rest = rest none

none_without : (store : ℕ) (i : WriteId) (js : List WriteId) → ids_of store js ≡ [] → ids_of store (without_id i js) ≡ []
none_without store i [] none = refl
none_without store i (j ∷ js) none = kept_none (j.store == store) (not (is_id i j)) store i j js refl none (none_without store i js)

no_look : (store : ℕ) (ids : List WriteId) (further : List PlannedLook) → with_look store ids further ≡ [] → (ids ≡ []) × (further ≡ [])
no_look store [] further none = (refl, none)
no_look store (i ∷ is) further none = absurd (cc)

plan_without : (here : List ℕ) (i : WriteId) (lineage : List WriteId) → plan here lineage ≡ [] → plan here (without_id i lineage) ≡ []
plan_without [] i lineage none = refl
plan_without (store ∷ stores) i lineage none =
    let both = no_look store (ids_of store lineage) (plan stores lineage) none in
    ap (λ (ids : List WriteId). with_look store ids (plan stores (without_id i lineage))) (none_without store i lineage both.0)
    ∙ plan_without stores i lineage both.1

pub plan_removed : (here : List ℕ) (held : Option Binding) (lineage : List WriteId) → plan here lineage ≡ [] → plan here (removed held lineage) ≡ []
plan_removed here (Some (Wrote id kept)) lineage none = plan_without here id lineage none
plan_removed here (Some (Saw store rows)) lineage none = none
plan_removed here (Some (Heard value)) lineage none = none
plan_removed here None lineage none = none

-- ---- what a statement tells that came to no call

-- goes on with a call that tells what is carried
abbrev tells : Go
tells l = asks 0 (calls.Ack 0) None l (λ reply. Ends Fine)

abbrev carried_by : Tree → List WriteId
carried_by (Asks ask go) = ask.carried
carried_by (Ends end) = []

carries : (old new : Local) → tells new ≡ tells old → new.carried ≡ old.carried
carries old new same = ap carried_by same

-- a barrier that came to none had no look to make
looks_none : (region : ℕ) (dry : Bool) (further : List PlannedLook) (old new : Local) → ((go : Go) → go new ≡ looks region dry further old go)
    → (further ≡ []) × (new.carried ≡ old.carried)
looks_none region dry [] old new goes = (refl, carries old new (goes tells))
looks_none region dry (look ∷ later) old new goes = let ends = goes (λ l. Ends Fine) in absurd (cc)

module _ (old new : Way) (before : Bool) (same : setting_in new ≡ setting_in old) (known : before ≡ true → NoneHere old) where
  -- what is planned by what is carried now
  planned_now : (carried : List WriteId) → (local_in new).carried ≡ carried
      → planned (setting_in new) (local_in new) ≡ plan (stores_here (setting_in old).app (setting_in old).role.region) carried
  planned_now carried is =
      ap (λ (s : Setting). plan (stores_here s.app s.role.region) (local_in new).carried) same
      ∙ ap (λ (ids : List WriteId). plan (stores_here (setting_in old).app (setting_in old).role.region) ids) is

  none_behind_looks : (dry : Bool)
      → ((go : Go) → go (local_in new) ≡ looks (setting_in old).role.region dry (planned (setting_in old) (local_in old)) (local_in old) go) → NoneHere new
  none_behind_looks dry goes =
      let both = looks_none (setting_in old).role.region dry (planned (setting_in old) (local_in old)) (local_in old) (local_in new) goes in
      planned_now (local_in old).carried both.1 ∙ both.0

  pub none_still : (step : Step) → ComesTo step old new None → finds_none step before ≡ true → NoneHere new
  none_still Barrier comes still = none_behind_looks false comes
  none_still DryRun comes still = none_behind_looks true comes
  none_still (Remove variable) comes still =
      let held = held_in (local_in old).variables variable in
      let now = removed held (local_in old).carried in
      planned_now now (carries (record (local_in old) { carried = now }) (local_in new) (comes tells))
      ∙ plan_removed (stores_here (setting_in old).app (setting_in old).role.region) held (local_in old).carried (known still)
  none_still (program.Reply value) comes still = planned_now (local_in old).carried (ap carried_by (comes tells)) ∙ known still
  none_still _ comes still = absurd (cc)

-- ---- a statement that does nothing beside its block

pub comes_to_none : (step : Step) (way : Way) (none_here : Bool) → is_idle step none_here ≡ true → (none_here ≡ true → NoneHere way) → ComesTo step way way None
comes_to_none (Repeat count block) way none_here idle known = λ go. refl
comes_to_none (IfAbsent variable block) way none_here idle known = λ go. refl
comes_to_none Barrier way none_here idle known = λ go.
    ap (λ (further : List PlannedLook). looks (setting_in way).role.region false further (local_in way) go) (sym (known idle))
comes_to_none DryRun way none_here idle known = λ go.
    ap (λ (further : List PlannedLook). looks (setting_in way).role.region true further (local_in way) go) (sym (known idle))
comes_to_none _ way none_here idle known = absurd (cc)
