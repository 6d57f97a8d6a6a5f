-- What is parsed of the lines that were read.
use Rattle.std.proofs.Common.{◌≡◌, ◌∙◌, sym, ap, ℕ, List, map}
use Rattle.std.specs.Prelude.{Result, Ok, Err}
use Rattle.anti_ids.specs.Answers.{AnswersBut}
use Rattle.anti_ids.specs.List.{Listed, plain}
use Rattle.anti_lang.specs.Program.{Block}
use Rattle.anti_lang.specs.Lines.{Line}
use Rattle.anti_lang.specs.Parses.{line_of, body_parsed}
use Rattle.anti_lang.specs.Stated.{all_stated, ArePlain}
use Rattle.anti_lang.specs.Faults.{block_fault, variable_fault}
use Rattle.anti_lang.specs.inner.Parses.{lines_read}
use Rattle.anti_lang.specs.Parsing.{body_or, parsed_or}
use Rattle.anti_lang.specs.declared.line.Line as code
use Rattle.anti_lang.specs.declared.statement.Statement.{Statement}
use Rattle.anti_lang.specs.declared.fault.LangFault.{LangFault}
use Rattle.anti_lang.specs.declared.fault.LangFault.TheVariants as faults
use Rattle.anti_lang.specs.declared.fault.LangFault.TheVariants.{NoMemory}
use Rattle.anti_lang.specs.declared.fault.LangCode.TheVariants as codes
use Rattle.anti_lang.proofs.PlainLemmas.{lines_again}

read_is : (found : Listed code.Line) (lines : List Line) → lines_read (Ok lines) ≡ Ok found → found ≡ plain (map line_of lines)
read_is found lines read = cc

said_again : (found : Listed code.Line) (lines : List Line) → lines_read (Ok lines) ≡ Ok found → all_stated found.items ≡ lines
said_again found lines read = ap (λ f. all_stated f.items) (read_is found lines read) ∙ lines_again lines

pub read_made : (found : Listed code.Line) (read : Result (List Line) ℕ) → lines_read read ≡ Ok found → ArePlain found.items
read_made found (Ok lines) read = ap (λ f. f.items) (read_is found lines read) ∙ ap (map line_of) (sym (said_again found lines read))
read_made found (Err number) read = absurd (cc)

-- the body of the lines that were read
abbrev pub body_said : List Line → Result Block LangFault
body_said lines = body_or lines (block_fault lines) (variable_fault lines)

pub parses_read : (result : Result (Listed Statement) LangFault) (found : Listed code.Line) (read : Result (List Line) ℕ) → lines_read read ≡ Ok found
    → AnswersBut NoMemory result (body_parsed (body_said (all_stated found.items))) → AnswersBut NoMemory result (body_parsed (parsed_or read))
parses_read result found (Ok lines) read parses = rw (said_again found lines read) at parses
parses_read result found (Err number) read parses = absurd (cc)

-- what is read of no lines is parsed as no body
pub unread : (fault : LangFault) (read : Result (List Line) ℕ) → AnswersBut NoMemory (Err fault) (lines_read read) → AnswersBut NoMemory (Err fault) (body_parsed (parsed_or read))
unread fault (Ok lines) refused = λ other. absurd (let e : lines_read (Ok lines) ≡ Err fault = refused other in cc)
unread fault (Err number) refused = λ other. let e : lines_read (Err number) ≡ Err fault = refused other in let f : faults.Line number codes.Unknown ≡ fault = cc in ap Err f
