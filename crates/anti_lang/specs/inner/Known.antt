-- What is known of variables below some lines.
use Rattle.std.specs.Prelude.{List, [], Bool, true, false}
use Rattle.std.specs.List.{cons_option, fold}
use Rattle.anti_lang.specs.Program.{Root, Stop}
use Rattle.anti_lang.specs.Lines.{Line, Does}
use Rattle.anti_lang.specs.Faults.{Known, set_by, reach_below}
use Rattle.anti_lang.specs.declared.variable.Variable.{Variable}

-- those that may be used there, and for each open block those that may be used behind it
abbrev pub reach_after : List Line → List (List Variable)
reach_after lines = fold reach_below [] lines

-- all that are set
abbrev pub all_after : List Line → List Variable
all_after lines = fold (λ all line. cons_option (set_by line) all) [] lines

abbrev pub known_after : List Line → Known
known_after lines = record { reach = reach_after lines; all = all_after lines }

-- whether a line begins a new span
abbrev pub begins_span : Line → Bool
begins_span (Does Root) = true
begins_span (Does Stop) = true
begins_span line = false
