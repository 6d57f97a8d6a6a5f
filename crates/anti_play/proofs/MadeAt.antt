-- The entry that is made of what is asked, and what is asked that makes none.
use Rattle.std.proofs.Common.{◌≡◌, ◌+◌, ◌≤◌, Bool, true, false, cond, ◌&&◌, List, refl, ap, ◌∙◌, arith}
use Rattle.std.specs.Prelude.{Option, None, Some, option_and_then}
use Rattle.std.proofs.lemmas.Bool.{le-leb}
use Rattle.anti_ids.specs.declared.limits.TheConstants.{MOST_UNITS}
use Rattle.anti_kind.specs.declared.asking.Asking.{Asking}
use Rattle.anti_kind.specs.declared.call.Call.{Call}
use Rattle.anti_kind.specs.declared.entry.Entry.{Entry}
use Rattle.anti_kind.specs.Objects.{Start, ready, fits, held, need, owed, IsLegal}
use Rattle.anti_kind.specs.Starts.{IsStart}
use Rattle.anti_kind.proofs.Bounds.{within_units}
use Rattle.anti_app.specs.declared.app.App.{App}
use Rattle.anti_object.specs.Starts.{start_of}
use Rattle.anti_trace.specs.Traces.{entries_on}
use Rattle.anti_play.specs.Schedule.{next_entry, made, made_at}

-- a call that needs no units fits
pub free_fits : (start : Start) (h : List Entry) (c : Call) → IsStart start → IsLegal start h → need start h c ≡ 0 → fits start h c ≡ true
free_fits start h c sane legal none =
    let units : held h + owed start h ≤ MOST_UNITS = within_units start h sane legal in
    le-leb (held h + owed start h + need start h c) MOST_UNITS (omega arith)

none_unfit : (is_ready : Bool) (e : Entry) → cond (is_ready && false) (Some e) None ≡ None
none_unfit true e = refl
none_unfit false e = refl

module _ (app : App) (trace : List Entry) (q : Asking) (start : Start) (there : start_of app q.object ≡ Some start) where
  abbrev h : List Entry
  h = entries_on q.object trace

  at_start : made_at app trace q ≡ made start h q
  at_start = ap (option_and_then (λ (x : Start). made x h q)) there

  -- a call that is not ready makes no entry
  pub unready : ready start h q.call ≡ false → made_at app trace q ≡ None
  unready off = at_start ∙ ap (λ (b : Bool). cond (b && fits start h q.call) (Some (next_entry start h q)) None) off

  -- nor does one that does not fit
  pub none_fits : fits start h q.call ≡ false → made_at app trace q ≡ None
  none_fits off =
      at_start ∙ ap (λ (b : Bool). cond (ready start h q.call && b) (Some (next_entry start h q)) None) off
      ∙ none_unfit (ready start h q.call) (next_entry start h q)

  -- each other one makes one
  pub ready_made : ready start h q.call ≡ true → fits start h q.call ≡ true → made_at app trace q ≡ Some (next_entry start h q)
  ready_made on fit =
      at_start ∙ ap (λ (b : Bool). cond (b && fits start h q.call) (Some (next_entry start h q)) None) on
      ∙ ap (λ (b : Bool). cond b (Some (next_entry start h q)) None) fit

-- what is known of one that is made
made_parts : (start : Start) (h : List Entry) (q : Asking) (e : Entry) → made start h q ≡ Some e
    → (ready start h q.call ≡ true) × (fits start h q.call ≡ true) × (e ≡ next_entry start h q)
made_parts start h q e m = parts (ready start h q.call) (fits start h q.call) (next_entry start h q) e m
  where
    parts : (r f : Bool) (x e : Entry) → cond (r && f) (Some x) None ≡ Some e → (r ≡ true) × (f ≡ true) × (e ≡ x)
    parts true true x e m = (refl, refl, cc)
    parts true false x e m = absurd (cc)
    parts false f x e m = absurd (cc)

pub record Made (app : App) (trace : List Entry) (q : Asking) (e : Entry) : Type 0 where
  pub start : Start
  pub there : start_of app q.object ≡ Some start
  pub is_ready : ready start (entries_on q.object trace) q.call ≡ true
  pub is_fit : fits start (entries_on q.object trace) q.call ≡ true
  pub is : e ≡ next_entry start (entries_on q.object trace) q

pub made_of : (app : App) (trace : List Entry) (q : Asking) (e : Entry) → made_at app trace q ≡ Some e → Made app trace q e
made_of app trace q e m = by_start (start_of app q.object) refl m
  where
    by_start : (o : Option Start) → start_of app q.object ≡ o → option_and_then (λ start. made start (entries_on q.object trace) q) o ≡ Some e → Made app trace q e
    by_start None at m = absurd (cc)
    by_start (Some start) at m =
        let parts : (ready start (entries_on q.object trace) q.call ≡ true) × (fits start (entries_on q.object trace) q.call ≡ true) × (e ≡ next_entry start (entries_on q.object trace) q)
        = made_parts start (entries_on q.object trace) q e m in
        record { start = start; there = at; is_ready = parts.0; is_fit = parts.1; is = parts.2 }
