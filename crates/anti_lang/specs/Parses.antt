-- Lines and bodies as the code has them.
use Rattle.std.specs.Prelude.{ℕ, List, map, Result, Ok, Err}
use Rattle.anti_ids.specs.List.{Listed}
use Rattle.anti_lang.specs.Bodies.{statement_of, body_of}
use Rattle.anti_lang.specs.Lines.{Line, Does, OpenRepeat, OpenIf, Close}
use Rattle.anti_lang.specs.Program.{Block}
use Rattle.anti_lang.specs.declared.statement.Statement.{Statement}
use Rattle.anti_lang.specs.declared.fault.LangFault.{LangFault}
use Rattle.anti_lang.specs.declared.line.Line as code
use Rattle.anti_lang.specs.declared.line.Line.TheVariants as lines

-- the line of the code for a line
abbrev pub line_of : Line → code.Line
line_of (Does statement) = lines.Does (statement_of statement)
line_of (OpenRepeat count) = lines.Repeat count
line_of (OpenIf variable) = lines.IfAbsent variable
line_of Close = lines.End

-- the texts of some lines of the code
abbrev pub texts_of : Listed (Listed ℕ) → List (List ℕ)
texts_of lines = map (λ line. line.items) lines.items

-- a body as the code has it, or why there is none
abbrev pub body_parsed : Result Block LangFault → Result (Listed Statement) LangFault
body_parsed (Ok block) = Ok (body_of block)
body_parsed (Err fault) = Err fault
