-- What the code makes of lines that were read.
use Rattle.std.specs.Prelude.{ℕ, List, Result, Ok, Err, map}
use Rattle.anti_ids.specs.List.{Listed, plain}
use Rattle.anti_lang.specs.Lines.{Line}
use Rattle.anti_lang.specs.Parses.{line_of}
use Rattle.anti_lang.specs.declared.fault.LangFault.{LangFault}
use Rattle.anti_lang.specs.declared.fault.LangFault.TheVariants as faults
use Rattle.anti_lang.specs.declared.line.Line as code
use Rattle.anti_lang.specs.declared.fault.LangCode.TheVariants as codes

-- lines as the code has them, or the fault of the first that states nothing
abbrev pub lines_read : Result (List Line) ℕ → Result (Listed code.Line) LangFault
lines_read (Ok lines) = Ok (plain (map line_of lines))
lines_read (Err number) = Err (faults.Line number codes.Unknown)
