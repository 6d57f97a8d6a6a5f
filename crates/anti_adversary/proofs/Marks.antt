-- The marks of choices that each make an entry, and the run of such choices.
use Rattle.std.proofs.Common.{◌≡◌, ℕ, suc, ◌++◌, ◌∷◌, List, [], refl, sym, ap, ◌∙◌, subst}
use Rattle.std.specs.Prelude.{IsTrue, Some}
use Rattle.anti_app.specs.declared.app.App.{App}
use Rattle.anti_app.specs.declared.app.Choice.{Choice}
use Rattle.anti_app.specs.declared.app.Choice.TheVariants.{Take, Repost, Pull, Repull, Ship, Again, Go, Finish}
use Rattle.anti_app.specs.Sound.{is_sound}
use Rattle.anti_app.proofs.SoundLemmas.{app_known}
use Rattle.anti_kind.specs.declared.entry.Entry.{Entry}
use Rattle.anti_past.specs.Losses.{mark_of}
use Rattle.anti_play.specs.Schedule.{Run, chosen, finished, played, run_from, stepped, turned}
use Rattle.anti_trace.specs.Legal.{IsLegalTrace}
use Rattle.anti_trace.specs.Traces.{put}
use Rattle.anti_trace.specs.declared.mark.Mark.{Mark}
use Rattle.anti_adversary.specs.Runs.{IsShown, MakesMarks}

-- one choice more that makes an entry
pub marks_more : (app : App) (trace : List Entry) (choices : List Choice) (choice : Choice) (marks : List Mark) (after : List Entry) (e : Entry)
    → MakesMarks app trace choices marks after → chosen app after choice ≡ Some e
    → MakesMarks app trace (choices ++ choice ∷ []) (marks ++ mark_of e ∷ []) (put e after)
marks_more app trace [] choice marks after e made is = (
  e,
  [],
  subst (λ (t : List Entry). chosen app t choice ≡ Some e) made.1 is,
  ap (λ (ms : List Mark). ms ++ mark_of e ∷ []) made.0,
  (refl, ap (put e) made.1),
)
marks_more app trace (first ∷ choices) choice marks after e (f, rest, is_first, are, made) is = (
  f,
  rest ++ mark_of e ∷ [],
  is_first,
  ap (λ (ms : List Mark). ms ++ mark_of e ∷ []) are,
  marks_more app (put f trace) choices choice rest after e made is,
)

-- ---- the run

-- a choice that makes an entry puts it into the trace
stepped_made : (app : App) (run : Run) (number : ℕ) (choice : Choice) (e : Entry) → chosen app run.trace choice ≡ Some e
    → stepped app run number choice ≡ record { trace = put e run.trace; waits = run.waits }
stepped_made app run number (Take service nth) e is = ap (turned run number) is
stepped_made app run number (Repost service n) e is = ap (turned run number) is
stepped_made app run number (Pull sub) e is = ap (turned run number) is
stepped_made app run number (Repull sub version) e is = ap (turned run number) is
stepped_made app run number (Ship store region version part) e is = ap (turned run number) is
stepped_made app run number (Again store region version part) e is = ap (turned run number) is
stepped_made app run number (Go object place) e is = ap (turned run number) is
stepped_made app run number Finish e is = absurd (cc)

-- none of such choices is a wait
pub marks_run : (app : App) (trace : List Entry) (waits : List ℕ) (number : ℕ) (choices : List Choice) (marks : List Mark) (after : List Entry)
    → MakesMarks app trace choices marks after
    → run_from app (record { trace = trace; waits = waits }) number choices ≡ record { trace = after; waits = waits }
marks_run app trace waits number [] marks after made = ap (λ (t : List Entry). record { trace = t; waits = waits }) (sym made.1)
marks_run app trace waits number (choice ∷ choices) marks after (e, rest, is, are, made) =
    ap (λ (r : Run). run_from app r (suc number) choices) (stepped_made app (record { trace = trace; waits = waits }) number choice e is)
    ∙ marks_run app (put e trace) waits (suc number) choices rest after made

-- nor is `finish` behind them, which makes all that is left
pub finish_run : (app : App) (trace : List Entry) (waits : List ℕ) (number : ℕ) (choices : List Choice) (marks : List Mark) (after : List Entry)
    → MakesMarks app trace choices marks after
    → run_from app (record { trace = trace; waits = waits }) number (choices ++ Finish ∷ []) ≡ record { trace = finished app after; waits = waits }
finish_run app trace waits number [] marks after made = ap (λ (t : List Entry). record { trace = finished app t; waits = waits }) (sym made.1)
finish_run app trace waits number (choice ∷ choices) marks after (e, rest, is, are, made) =
    ap (λ (r : Run). run_from app r (suc number) (choices ++ Finish ∷ [])) (stepped_made app (record { trace = trace; waits = waits }) number choice e is)
    ∙ finish_run app (put e trace) waits (suc number) choices rest after made

-- an application whose own choices are such
pub shown_of : (app : App) (marks : List Mark) (trace : List Entry) → IsTrue (is_sound app) → MakesMarks app [] app.choices.items marks trace
    → IsLegalTrace app trace → IsShown app marks trace
shown_of app marks trace sound made legal =
    let ran : played app ≡ record { trace = trace; waits = [] } = marks_run app [] [] 1 app.choices.items marks trace made in
    record {
      few = (app_known app sound).few_choices;
      made = made;
      trace_is = sym (ap (λ (r : Run). r.trace) ran);
      none_waits = ap (λ (r : Run). r.waits) ran;
      legal = legal;
    }
