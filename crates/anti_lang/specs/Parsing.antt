-- The body that lines of bytes state.
use Rattle.std.specs.Prelude.{ℕ, List, [], ◌∷◌, Option, Some, None, Result, Ok, Err, ◌+◌, get_or}
use Rattle.std.specs.Result.{result_map_both}
use Rattle.anti_lang.specs.Words.{words}
use Rattle.anti_lang.specs.Program.{Block, End}
use Rattle.anti_lang.specs.Lines.{Line, read_line}
use Rattle.anti_lang.specs.Blocks.{up}
use Rattle.anti_lang.specs.Faults.{block_fault, variable_fault}
use Rattle.anti_lang.specs.declared.fault.LangCode.TheVariants as codes
use Rattle.anti_lang.specs.declared.fault.LangFault.{LangFault}
use Rattle.anti_lang.specs.declared.fault.LangFault.TheVariants as faults

-- What lines may be read as: all of them, or the first that states nothing, counted from the one behind so many.
abbrev pub read_or : ℕ → Option Line → Result (List Line) ℕ → Result (List Line) ℕ
read_or number (Some line) rest = result_map_both (λ lines. line ∷ lines) (λ later. later) rest
read_or number None rest = Err number

abbrev pub lines_from : ℕ → List (List ℕ) → Result (List Line) ℕ
lines_from before [] = Ok []
lines_from before (text ∷ texts) = read_or (before + 1) (read_line (words text)) (lines_from (before + 1) texts)

-- what lines state, by the first at which a block is wrong, and the first at which a variable is; lines of which none is wrong state one block
abbrev pub body_or : List Line → Option ℕ → Option ℕ → Result Block LangFault
body_or lines (Some number) variable = Err (faults.Line number codes.Block)
body_or lines None (Some number) = Err (faults.Line number codes.Variable)
body_or lines None None = Ok (get_or (up lines) 0 End)

abbrev pub parsed_or : Result (List Line) ℕ → Result Block LangFault
parsed_or (Err number) = Err (faults.Line number codes.Unknown)
parsed_or (Ok lines) = body_or lines (block_fault lines) (variable_fault lines)

-- The body that lines state, or their first fault: first of all lines the unknown ones, then the blocks, then the variables.
abbrev pub parsed : List (List ℕ) → Result Block LangFault
parsed texts = parsed_or (lines_from 0 texts)
