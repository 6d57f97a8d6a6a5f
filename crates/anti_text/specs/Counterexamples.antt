-- What a search for a run in which reads miss writes says of an application, as text.
use Rattle.std.specs.Prelude.{ℕ, List, [], ◌∷◌, ◌++◌, length, codes, decimal, Bool, ◌&&◌, ◌==◌, Option, None, Some, find}
use Rattle.std.specs.Option.{option_map_or}
use Rattle.anti_kind.specs.declared.entry.Entry.{Entry}
use Rattle.anti_app.specs.declared.app.App.{App}
use Rattle.anti_app.specs.declared.app.Choice.{Choice}
use Rattle.anti_trace.specs.declared.mark.Mark.{Mark}
use Rattle.anti_doctor.specs.declared.diagnosis.SpanDiagnosis.{SpanDiagnosis}
use Rattle.anti_adversary.specs.declared.verdict.Hint.{Hint}
use Rattle.anti_adversary.specs.declared.verdict.Shown.{Shown}
use Rattle.anti_adversary.specs.declared.verdict.Verdict.{Verdict}
use Rattle.anti_adversary.specs.declared.verdict.Verdict.TheVariants.{Placed, Found, Long, Tried}
use Rattle.anti_text.specs.Calls.{call_text, reply_text}
use Rattle.anti_text.specs.Diagnoses.{diagnosis_line}
use Rattle.anti_text.specs.Entries.{choice_text}
use Rattle.anti_text.specs.Spans.{span_line}
use Rattle.anti_text.specs.Words.{mark_text}

-- what an entry is, without its stamp and who made it, as `s.1 write k "a" 1; = k@1`
abbrev pub deed_text : App → Entry → List ℕ
deed_text app e = mark_text app e.object e.place ++ codes " " ++ call_text app e.object e.call ++ codes " = " ++ reply_text app e.reply

abbrev pub has_mark : Mark → Entry → Bool
has_mark mark e = e.object == mark.object && e.place == mark.place

-- a choice as a document states it, and behind it the entry that it made, by its mark, as `    "go w.1", # s.1 write k "a" 1; = k@1`
abbrev pub made_line : App → List Entry → Choice → Mark → List ℕ
made_line app trace choice mark =
    codes "    \"" ++ choice_text app choice ++ codes "\", # " ++ option_map_or (deed_text app) (find (has_mark mark) trace) [] ++ codes "\n"

abbrev pub made_lines : App → List Entry → List Choice → List Mark → List ℕ
made_lines app trace (choice ∷ choices) (mark ∷ marks) = made_line app trace choice mark ++ made_lines app trace choices marks
made_lines app trace _ _ = []

-- the choices of the application, as a document states them
unfoldable pub shown_text : App → Shown → List ℕ
shown_text app shown = codes "choices = [\n" ++ made_lines app shown.trace app.choices.items shown.marks.items ++ codes "]\n"

abbrev pub end_text : ℕ → List ℕ
end_text entries = codes "end " ++ decimal entries ++ codes "\n"

-- a word and a number, as a line
unfoldable pub numbered_line : List ℕ → ℕ → List ℕ
numbered_line word number = word ++ decimal number ++ codes "\n"

-- the choices of a run, what a span of it missed, and how many entries the run has
unfoldable pub found_text : App → Shown → SpanDiagnosis → List ℕ
found_text app shown missed = shown_text app shown ++ diagnosis_line app missed ++ end_text (length shown.trace)

abbrev pub hint_text : App → Option Hint → List ℕ
hint_text app None = []
hint_text app (Some hint) = shown_text app hint.shown ++ span_line app hint.answer ++ end_text (length hint.shown.trace)

abbrev pub verdict_text : App → Verdict → List ℕ
verdict_text app Placed = numbered_line (codes "none ") 0
verdict_text app (Found number shown missed) = numbered_line (codes "counterexample ") number ++ found_text app shown missed
verdict_text app (Long number entries missed) = numbered_line (codes "long ") number ++ diagnosis_line app missed ++ end_text entries
verdict_text app (Tried runs hint) = numbered_line (codes "none ") runs ++ hint_text app hint
