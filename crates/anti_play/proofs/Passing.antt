-- A process that makes no further call is past.
use Rattle.std.proofs.Common.{◌≡◌, ℕ, ◌<◌, List, false, length, refl, sym, ap, ◌∙◌, subst, arith}
use Rattle.std.specs.Prelude.{IfNone, IfSome, IsTrue, is_some, Option, None, Some, option_and_then, position, slice_get}
use Rattle.std.proofs.lemmas.Option.{slice_get-get_or, slice_get_within}
use Rattle.anti_kind.specs.declared.actor.Actor.TheVariants.{Process as Acting}
use Rattle.anti_kind.specs.declared.actor.Birth.{Birth}
use Rattle.anti_kind.specs.declared.asking.Asking.{Asking}
use Rattle.anti_kind.specs.declared.entry.Entry.{Entry}
use Rattle.anti_app.specs.declared.app.App.{App}
use Rattle.anti_app.specs.Sound.{is_sound}
use Rattle.anti_trace.specs.Traces.{entries_by, entries_on}
use Rattle.anti_trace.specs.inner.Living.{HasEnded, IsEnded, WasFull, born_at, is_named, lists}
use Rattle.anti_proc.specs.declared.process.Process.{Process}
use Rattle.anti_proc.specs.Births.{birth_at, births}
use Rattle.anti_proc.specs.Meaning.{process_after}
use Rattle.anti_proc.specs.Trees.{Want, Make, Over, want_of}
use Rattle.anti_proc.specs.inner.Standing.{birth_of, full_of}
use Rattle.anti_agenda.specs.declared.offer.Offer.TheVariants.{Go}
use Rattle.anti_play.specs.declared.world.World.{World}
use Rattle.anti_play.specs.Schedule.{asked_by, asking_at, next_call}
use Rattle.anti_play.specs.inner.Attending.{IsPast, birth_in}
use Rattle.anti_play.specs.inner.Standing.{WorldStands}
use Rattle.anti_play.proofs.GoFirst.{birth_found, birth_here, birth_is, born_length, no_entry}
use Rattle.anti_play.proofs.GoOn.{IsFound, next_none, on_p}

-- what is true anyhow is so where there is none
pub on_none : {X P : Type 0} (o : Option X) → P → IfNone o P
on_none None p = p
on_none (Some x) p = tt

-- what is said of none, where there is none
pub if_none : {X : Type 0} (o : Option X) (P : Type 0) → is_some o ≡ false → IfNone o P → P
if_none None P off none = none
if_none (Some x) P off none = absurd (cc)

module _ (app : App) (w : World) (trace : List Entry) (s : WorldStands app w trace) where
  -- the process at a place among those that were born at an object
  module _ (object at : ℕ) (p : Process) (there : slice_get (born_at (lists w.processes) object) at ≡ Some p) where
    abbrev ps : List Process
    ps = born_at (lists w.processes) object

    abbrev bs : List Entry
    bs = births (entries_on object trace)

    -- it is found by its birth
    pub is_found : IsFound w (birth_of p) at p
    is_found =
        let here : (birth_of p).object ≡ object = birth_here app w trace object s at p there in
        record {
          found = subst (λ (o : ℕ). position (is_named (birth_of p)) (born_at (lists w.processes) o) ≡ Some at) (sym here) (birth_found app w trace object s at p there);
          is = subst (λ (o : ℕ). slice_get (born_at (lists w.processes) o) at ≡ Some p) (sym here) there;
        }

    -- what an offer asks for is its next call
    pub its_next : option_and_then (λ e. next_call app trace (birth_at e)) (birth_in trace object at) ≡ next_call app trace (birth_of p)
    its_next =
        let many : length ps ≡ length bs = born_length app w trace object s in
        let low : at < length ps = slice_get_within ps at p there in
        ap (option_and_then (λ e. next_call app trace (birth_at e))) (slice_get-get_or bs at no_entry (omega (arith, many, low)))
        ∙ ap (next_call app trace) (sym (birth_is app w trace object s at p no_entry there))

  module _ (sound : IsTrue (is_sound app)) where
    -- a process that was ended, since its call did not fit
    ended_unfit : (b : Birth) (want : Want) (at : ℕ) → IsEnded app trace want at → (q : Asking) → asked_by trace b want ≡ Some q → WasFull app trace q.object q.call
    ended_unfit b (Make object span call) at ended q asks =
        let is : asking_at trace object (Acting b) span call ≡ q = cc in
        subst (λ (q : Asking). WasFull app trace q.object q.call) is ended.1
    ended_unfit b (Over end) at ended q asks = elim ended [ ]

    over_unfit : (b : Birth) (i : ℕ) (p : Process) (g : IsFound w b i p) → HasEnded app p → (full : Option ℕ) → full_of p ≡ full
        → IfSome full (IsEnded app trace (want_of (process_after app (entries_by (Acting b) trace)))) → (q : Asking) → next_call app trace b ≡ Some q → WasFull app trace q.object q.call
    over_unfit b i p g over None is ended q asks =
        absurd (let both : None ≡ Some q = sym (next_none app w trace b i p s g over is) ∙ asks in cc)
    over_unfit b i p g over (Some at) is ended q asks = ended_unfit b (want_of (process_after app (entries_by (Acting b) trace))) at ended q asks

    -- It asks for no call, or for one that does not fit.
    pub over_past : (object at : ℕ) (p : Process) → slice_get (born_at (lists w.processes) object) at ≡ Some p → HasEnded app p → IsPast app trace (Go object at)
    over_past object at p there over q asks =
        let g : IsFound w (birth_of p) at p = is_found object at p there in
        over_unfit (birth_of p) at p g over (full_of p) refl (on_p app w trace (birth_of p) at p s g).full q (sym (its_next object at p there) ∙ asks)
