-- A call that was ready and did not fit does not fit any more.
use Rattle.std.proofs.Common.{◌≡◌, ◌+◌, ◌<◌, arith, false, List, ◌++◌, ℕ, sym, ap, ◌∙◌, subst, append_assoc}
use Rattle.std.specs.Prelude.{IsTrue}
use Rattle.std.proofs.lemmas.Bool.{lt-leb}
use Rattle.anti_kind.specs.declared.call.Call.{Call}
use Rattle.anti_kind.specs.declared.entry.Entry.{Entry}
use Rattle.anti_ids.specs.declared.limits.TheConstants.{MOST_UNITS}
use Rattle.anti_kind.specs.Objects.{Start, IsLegal, fits, held, owed, need}
use Rattle.anti_kind.specs.Ports.{IsFull}
use Rattle.anti_kind.proofs.Fullness.{full_stays}
use Rattle.anti_app.specs.declared.app.App.{App}
use Rattle.anti_app.specs.Sound.{is_sound}
use Rattle.anti_object.proofs.Starts.{start_sound, start_stays}
use Rattle.anti_trace.specs.Traces.{entries_on}
use Rattle.anti_trace.specs.Legal.{IsLegalTrace}
use Rattle.anti_trace.specs.inner.Living.{WasFull}

-- the three numbers of what is full do not fit
pub unfit : (start : Start) (h : List Entry) (c : Call) (a b n : ℕ) → IsFull start h c a b n → fits start h c ≡ false
unfit start h c a b n full =
    let one : a ≡ held h = full.held_is in
    let two : b ≡ owed start h = full.owed_is in
    let three : n ≡ need start h c = full.need_is in
    let past : MOST_UNITS < a + b + n = full.past in
    lt-leb (held h + owed start h + need start h c) MOST_UNITS (omega arith)

module _ (app : App) (trace : List Entry) (run : IsLegalTrace app trace) (sound : IsTrue (is_sound app)) where
  -- it does not fit after the whole history, nor after any that goes on from it
  pub never_fits : (object : ℕ) (call : Call) (was : WasFull app trace object call) (rest : List Entry) → IsLegal was.start (entries_on object trace ++ rest)
      → fits was.start (entries_on object trace ++ rest) call ≡ false
  never_fits object call was rest legal =
      let same : entries_on object trace ++ rest ≡ was.before ++ (was.later ++ rest) = ap (λ (h : List Entry). h ++ rest) was.history ∙ append_assoc was.before was.later rest in
      subst (λ (h : List Entry). fits was.start h call ≡ false) (sym same)
      (full_stays was.start was.before (was.later ++ rest) call (start_sound app object was.start sound was.there) (start_stays app object was.start was.there)
      (subst (IsLegal was.start) same legal) was.was_full.is_ready was.ascends (unfit was.start was.before call was.held_units was.owed_units was.need_units was.was_full))
