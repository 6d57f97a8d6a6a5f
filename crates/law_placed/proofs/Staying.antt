-- What stays as it is while a process goes on: what came to its span is carried, or stands in rows whose variable is doubted; and what is
-- carried was found, where it is not doubted.
use Rattle.std.proofs.Common.{◌≡◌, ℕ, ◌<◌, ◌⊎◌, Bool, true, false, List, inl, inr, refl, arith}
use Rattle.std.proofs.lemmas.Bool.{false_from_ne_true}
use Rattle.anti_ids.specs.Ids.{has_id}
use Rattle.anti_ids.specs.declared.id.WriteId.{WriteId}
use Rattle.anti_kind.specs.declared.call.Call.{Call}
use Rattle.anti_kind.specs.declared.call.Reply.{Reply}
use Rattle.anti_app.specs.declared.app.App.{App}
use Rattle.anti_app.specs.Objects.{is_store_here}
use Rattle.anti_place.specs.declared.doubt.Doubt.TheVariants as doubts
use Rattle.anti_proc.specs.declared.variables.Variable.{Variable}
use Rattle.anti_proc.specs.Local.{Local, held_ids, held_in}
use Rattle.law_causal.specs.Words.{comes_with}
use Rattle.law_placed.proofs.Clearing.{Doubts, Within}
use Rattle.law_placed.proofs.Histories.{History, came_before, found_on, more, waited_before}

-- some variable whose rows are not transferred holds the id
pub record Pending (a : Doubts) (variables : List Variable) (i : WriteId) : Type 0 where
  pub name : List ℕ
  pub held : a (doubts.Rows name) ≡ true
  pub has : has_id i (held_ids (held_in variables name)) ≡ true

abbrev pub Kept : Doubts → List WriteId → List Variable → WriteId → Type 0
Kept a carried variables i = (has_id i carried ≡ true) ⊎ Pending a variables i

-- no variable's rows are left
abbrev pub NoneLeft : Doubts → Type 0
NoneLeft a = (x : List ℕ) → a (doubts.Rows x) ≡ false

-- all that came to the span is carried
abbrev pub AllCarried : Local → History → Type 0
AllCarried l h = (i : WriteId) → h.came l.span i ≡ true → has_id i l.carried ≡ true

-- What is carried, of stores with a replica in the region, was found in the span, where looks waited.
abbrev pub AllFound : App → ℕ → ℕ → List WriteId → History → Type 0
AllFound app region span carried h =
    h.waited ≡ true → (i : WriteId) → has_id i carried ≡ true → is_store_here app region i.store ≡ true → h.found span i ≡ true

pub record Inv (app : App) (region : ℕ) (a : Doubts) (l : Local) (h : History) : Type 0 where
  pub here : a doubts.Always ≡ true
  -- no `stop` is without its `root`
  pub begun : l.stopped ≡ false
  pub kept : (i : WriteId) → h.came l.span i ≡ true → Kept a l.carried l.variables i
  pub settled : a doubts.Unsettled ≡ false → AllFound app region l.span l.carried h
  pub none_later : (n : ℕ) → l.span < n → (i : WriteId) → h.came n i ≡ false

module _ (a : Doubts) (none : NoneLeft a) where
  none_pending : (variables : List Variable) (i : WriteId) → Pending a variables i → ⊥
  none_pending variables i left =
      let one : a (doubts.Rows left.name) ≡ true = left.held in
      let other : a (doubts.Rows left.name) ≡ false = none left.name in
      cc

  -- then what was carried is kept where it is carried on
  pub carried_kept : (b : Doubts) (was : List WriteId) (held : List Variable) (carried : List WriteId) (variables : List Variable)
      → ((i : WriteId) → has_id i was ≡ true → has_id i carried ≡ true) → (i : WriteId) → Kept a was held i → Kept b carried variables i
  carried_kept b was held carried variables on i (inl has) = inl (on i has)
  carried_kept b was held carried variables on i (inr left) = absurd (none_pending held i left)

module _ (app : App) (region : ℕ) where
  -- where no rows are left, all that came is carried
  pub all_carried : (a : Doubts) (l : Local) (h : History) → Inv app region a l h → NoneLeft a → AllCarried l h
  all_carried a l h inv none i came =
      elim (inv.kept i came) [ inl has ↦ has | inr left ↦ absurd (none_pending a none l.variables i left) ]

  kept_within : (a b : Doubts) → Within a b → (carried : List WriteId) (variables : List Variable) (i : WriteId)
      → Kept a carried variables i → Kept b carried variables i
  kept_within a b within carried variables i (inl has) = inl has
  kept_within a b within carried variables i (inr left) =
      inr (record { name = left.name; held = within (doubts.Rows left.name) left.held; has = left.has })

  not_before : (was is : Bool) → (was ≡ true → is ≡ true) → is ≡ false → was ≡ false
  not_before true is more off = absurd (let on = more refl in cc)
  not_before false is more off = refl

  -- It is so with more doubts.
  pub weaker : (a b : Doubts) → Within a b → (l : Local) (h : History) → Inv app region a l h → Inv app region b l h
  weaker a b within l h inv = record {
    here = within doubts.Always inv.here;
    begun = inv.begun;
    kept = λ i came. kept_within a b within l.carried l.variables i (inv.kept i came);
    settled = λ off. inv.settled (not_before (a doubts.Unsettled) (b doubts.Unsettled) (within doubts.Unsettled) off);
    none_later = inv.none_later;
  }

  -- what was found stays found
  pub still_found : (span : ℕ) (carried : List WriteId) (h : History) (object : ℕ) (call : Call) (reply : Reply)
      → AllFound app region span carried h → AllFound app region span carried (more app h object span call reply)
  still_found span carried h object call reply all waited i has near =
      found_on app h object span call reply span i (all (waited_before app h object span call reply waited) i has near)

  module _ (a b : Doubts) (l : Local) (carried : List WriteId) (variables : List Variable) (h : History)
      (here : b doubts.Always ≡ true) (inv : Inv app region a l h)
      (stays : (i : WriteId) → Kept a l.carried l.variables i → Kept b carried variables i) where
    -- A statement without a call changes what is carried.
    pub changed : (b doubts.Unsettled ≡ false → AllFound app region l.span carried h)
        → Inv app region b (record l { carried = carried; variables = variables }) h
    changed settled = record {
      here = here;
      begun = inv.begun;
      kept = λ i came. stays i (inv.kept i came);
      settled = settled;
      none_later = inv.none_later;
    }

    -- A call is answered, and what comes with the reply is kept.
    module _ (object : ℕ) (call : Call) (reply : Reply)
        (keeps : (i : WriteId) → has_id i (comes_with app object call reply) ≡ true → Kept b carried variables i) where
      abbrev then_history : History
      then_history = more app h object l.span call reply

      kept_then : (i : WriteId) → then_history.came l.span i ≡ true → Kept b carried variables i
      kept_then i came =
          elim (came_before app h object l.span call reply l.span i came) [
            | inl before ↦ stays i (inv.kept i before)
            | inr now ↦ keeps i now.1
          ]

      none_then : (n : ℕ) → l.span < n → (i : WriteId) → then_history.came n i ≡ false
      none_then n past i =
          false_from_ne_true (then_history.came n i) (λ came.
          elim (came_before app h object l.span call reply n i came) [
            | inl before ↦ absurd (let none : h.came n i ≡ false = inv.none_later n past i in cc)
            | inr now ↦ absurd (let same : l.span ≡ n = now.0 in omega (arith, past))
          ])

      pub answered : (b doubts.Unsettled ≡ false → AllFound app region l.span carried then_history)
          → Inv app region b (record l { carried = carried; variables = variables }) then_history
      answered settled = record {
        here = here;
        begun = inv.begun;
        kept = kept_then;
        settled = settled;
        none_later = none_then;
      }
