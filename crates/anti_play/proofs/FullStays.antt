-- A call that was ready and did not fit does not fit now, and makes no entry any more.
use Rattle.std.proofs.Common.{◌≡◌, false, List, [], ◌++◌, sym, subst, append-nil}
use Rattle.std.specs.Prelude.{IsTrue, None}
use Rattle.anti_kind.specs.declared.asking.Asking.{Asking}
use Rattle.anti_kind.specs.declared.entry.Entry.{Entry}
use Rattle.anti_kind.specs.Objects.{IsLegal, fits}
use Rattle.anti_app.specs.declared.app.App.{App}
use Rattle.anti_app.specs.Sound.{is_sound}
use Rattle.anti_trace.specs.Traces.{entries_on}
use Rattle.anti_trace.specs.Legal.{IsLegalTrace}
use Rattle.anti_trace.specs.inner.Living.{WasFull}
use Rattle.anti_trace.proofs.FullStays.{never_fits}
use Rattle.anti_play.specs.Schedule.{made_at}
use Rattle.anti_play.proofs.MadeAt.{none_fits}

module _ (app : App) (trace : List Entry) (run : IsLegalTrace app trace) (sound : IsTrue (is_sound app)) where
  pub never_fits_now : (q : Asking) (was : WasFull app trace q.object q.call) → fits was.start (entries_on q.object trace) q.call ≡ false
  never_fits_now q was =
      let whole : entries_on q.object trace ++ [] ≡ entries_on q.object trace = append-nil (entries_on q.object trace) in
      subst (λ (h : List Entry). fits was.start h q.call ≡ false) whole
      (never_fits app trace run sound q.object q.call was [] (subst (IsLegal was.start) (sym whole) (run.histories q.object was.start was.there)))

  pub full_makes_none : (q : Asking) → WasFull app trace q.object q.call → made_at app trace q ≡ None
  full_makes_none q was = none_fits app trace q was.start was.there (never_fits_now q was)
