-- The statements, bodies and lines of the code stand for just the plain data that they were made of.
use Rattle.std.proofs.Common.{◌≡◌, ℕ, ◌∙◌, sym, ap, refl, List, [], ◌∷◌, ◌++◌, map}
use Rattle.anti_ids.specs.List.{Listed}
use Rattle.anti_lang.specs.Program as program
use Rattle.anti_lang.specs.Program.{Step, Block, Then, End}
use Rattle.anti_lang.specs.declared.statement.Statement.{Statement}
use Rattle.anti_lang.specs.declared.statement.Statement.TheFolds.{fold-roll-Statement}
use Rattle.anti_lang.specs.declared.statement.Statement.TheOpen as open_statement
use Rattle.anti_lang.specs.declared.statement.Statement.TheVariants as statements
use Rattle.anti_lang.specs.Bodies.{step_in, step_of, block_of, statement_of, body_of}
use Rattle.anti_lang.specs.Lines.{Line, Does, OpenRepeat, OpenIf, Close}
use Rattle.anti_lang.specs.Parses.{line_of}
use Rattle.anti_lang.specs.Stated.{stated, all_stated, ArePlain}
use Rattle.anti_lang.specs.declared.line.Line as code

-- a statement that opens a block
pub step_repeat : (count : ℕ) (body : Listed Statement) → step_of (statements.Repeat count body) ≡ program.Repeat count (block_of body)
step_repeat count body = ap step_of (sym (statements.rolls-Repeat count body)) ∙ fold-roll-Statement Step step_in (open_statement.Repeat count body)

pub step_if : (variable : List ℕ) (body : Listed Statement) → step_of (statements.IfAbsent variable body) ≡ program.IfAbsent variable (block_of body)
step_if variable body = ap step_of (sym (statements.rolls-IfAbsent variable body)) ∙ fold-roll-Statement Step step_in (open_statement.IfAbsent variable body)

mutual
  -- A statement of the code stands for the statement that it is made of.
  pub step_again : (statement : Step) → step_of (statement_of statement) ≡ statement
  step_again (program.Write store key value variable untracked) = ap step_of (sym (statements.rolls-Write store key value variable untracked)) ∙ fold-roll-Statement Step step_in (open_statement.Write store key value variable untracked)
  step_again (program.Append variable) = ap step_of (sym (statements.rolls-Append variable)) ∙ fold-roll-Statement Step step_in (open_statement.Append variable)
  step_again (program.Remove variable) = ap step_of (sym (statements.rolls-Remove variable)) ∙ fold-roll-Statement Step step_in (open_statement.Remove variable)
  step_again (program.Transfer variable) = ap step_of (sym (statements.rolls-Transfer variable)) ∙ fold-roll-Statement Step step_in (open_statement.Transfer variable)
  step_again program.Barrier = ap step_of (sym statements.rolls-Barrier) ∙ fold-roll-Statement Step step_in open_statement.Barrier
  step_again program.DryRun = ap step_of (sym statements.rolls-DryRun) ∙ fold-roll-Statement Step step_in open_statement.DryRun
  step_again (program.Read store key variable) = ap step_of (sym (statements.rolls-Read store key variable)) ∙ fold-roll-Statement Step step_in (open_statement.Read store key variable)
  step_again (program.Scan store prefix variable) = ap step_of (sym (statements.rolls-Scan store prefix variable)) ∙ fold-roll-Statement Step step_in (open_statement.Scan store prefix variable)
  step_again (program.Poll store key variable) = ap step_of (sym (statements.rolls-Poll store key variable)) ∙ fold-roll-Statement Step step_in (open_statement.Poll store key variable)
  step_again (program.Call service handler value variable) = ap step_of (sym (statements.rolls-Call service handler value variable)) ∙ fold-roll-Statement Step step_in (open_statement.Call service handler value variable)
  step_again (program.Send service handler value) = ap step_of (sym (statements.rolls-Send service handler value)) ∙ fold-roll-Statement Step step_in (open_statement.Send service handler value)
  step_again (program.Reply value) = ap step_of (sym (statements.rolls-Reply value)) ∙ fold-roll-Statement Step step_in (open_statement.Reply value)
  step_again program.Nack = ap step_of (sym statements.rolls-Nack) ∙ fold-roll-Statement Step step_in open_statement.Nack
  step_again program.Root = ap step_of (sym statements.rolls-Root) ∙ fold-roll-Statement Step step_in open_statement.Root
  step_again program.Stop = ap step_of (sym statements.rolls-Stop) ∙ fold-roll-Statement Step step_in open_statement.Stop
  step_again (program.Repeat count block) = step_repeat count (body_of block) ∙ ap (program.Repeat count) (block_again block)
  step_again (program.IfAbsent variable block) = step_if variable (body_of block) ∙ ap (program.IfAbsent variable) (block_again block)

  -- A body of the code stands for the block that it is made of.
  pub block_again : (block : Block) → block_of (body_of block) ≡ block
  block_again End = refl
  block_again (Then first rest) =
      ap (λ statement. Then statement (block_of (body_of rest))) (step_again first) ∙ ap (Then first) (block_again rest)

-- a line of the code states the line that it is made of
pub line_again : (line : Line) → stated (line_of line) ≡ line
line_again (Does statement) = ap Does (step_again statement)
line_again (OpenRepeat count) = refl
line_again (OpenIf variable) = refl
line_again Close = refl

pub lines_again : (lines : List Line) → all_stated (map line_of lines) ≡ lines
lines_again [] = refl
lines_again (line ∷ lines) = ap (λ l. l ∷ all_stated (map line_of lines)) (line_again line) ∙ ap (λ ls. line ∷ ls) (lines_again lines)

-- each of some lines that are made of plain data is
pub plain_here : (front : List code.Line) (line : code.Line) (rest : List code.Line) → ArePlain (front ++ line ∷ rest) → line ≡ line_of (stated line)
plain_here [] line rest made = cc
plain_here (first ∷ front) line rest made = let tail : ArePlain (front ++ line ∷ rest) = cc in plain_here front line rest tail
