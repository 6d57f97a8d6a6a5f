-- The lines of the code as plain data.
use Rattle.std.specs.Prelude.{◌≡◌, List, map}
use Rattle.anti_lang.specs.Bodies.{step_of}
use Rattle.anti_lang.specs.Lines.{Line, Does, OpenRepeat, OpenIf, Close}
use Rattle.anti_lang.specs.Parses.{line_of}
use Rattle.anti_lang.specs.declared.line.Line as code
use Rattle.anti_lang.specs.declared.line.Line.TheVariants as lines

abbrev pub StatedLine : Type 0
StatedLine = Line

-- A line of the code.
abbrev pub stated : code.Line → Line
stated (lines.Does statement) = Does (step_of statement)
stated (lines.Repeat count) = OpenRepeat count
stated (lines.IfAbsent variable) = OpenIf variable
stated lines.End = Close

abbrev pub StatedLines : Type 0
StatedLines = List Line

-- Lines of the code.
abbrev pub all_stated : List code.Line → StatedLines
all_stated = map stated

-- lines that are just what the code makes of plain data
abbrev pub ArePlain : List code.Line → Type 0
ArePlain found = found ≡ map line_of (all_stated found)
