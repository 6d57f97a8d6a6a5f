-- The bodies of the code as plain data, and back.
use Rattle.std.specs.Prelude.{List, [], ◌∷◌, map}
use Rattle.anti_ids.specs.List.{Listed, plain}
use Rattle.anti_lang.specs.Program as program
use Rattle.anti_lang.specs.Program.{Step, Block, End, Then}
use Rattle.anti_lang.specs.declared.statement.Statement.{Statement, Statement-F, fold-Statement}
use Rattle.anti_lang.specs.declared.statement.Statement.TheOpen as open_statement
use Rattle.anti_lang.specs.declared.statement.Statement.TheVariants as statements

-- a list of statements as a block
abbrev pub block_from : List Step → Block
block_from [] = End
block_from (first ∷ rest) = Then first (block_from rest)

-- one statement, where the blocks in it are plain data already
abbrev pub step_in : Statement-F Step → Step
step_in (open_statement.Write store key value variable untracked) = program.Write store key value variable untracked
step_in (open_statement.Append variable) = program.Append variable
step_in (open_statement.Remove variable) = program.Remove variable
step_in (open_statement.Transfer variable) = program.Transfer variable
step_in open_statement.Barrier = program.Barrier
step_in open_statement.DryRun = program.DryRun
step_in (open_statement.Read store key variable) = program.Read store key variable
step_in (open_statement.Scan store prefix variable) = program.Scan store prefix variable
step_in (open_statement.Poll store key variable) = program.Poll store key variable
step_in (open_statement.Call service handler value variable) = program.Call service handler value variable
step_in (open_statement.Send service handler value) = program.Send service handler value
step_in (open_statement.Reply value) = program.Reply value
step_in open_statement.Nack = program.Nack
step_in open_statement.Root = program.Root
step_in open_statement.Stop = program.Stop
step_in (open_statement.Repeat count body) = program.Repeat count (block_from body.items)
step_in (open_statement.IfAbsent variable body) = program.IfAbsent variable (block_from body.items)

-- A statement of the code.
abbrev pub step_of : Statement → Step
step_of = fold-Statement Step step_in

-- A body of the code.
abbrev pub block_of : Listed Statement → Block
block_of body = block_from (map step_of body.items)

abbrev mutual
  -- The statement of the code for a statement.
  pub statement_of : Step → Statement
  statement_of (program.Write store key value variable untracked) = statements.Write store key value variable untracked
  statement_of (program.Append variable) = statements.Append variable
  statement_of (program.Remove variable) = statements.Remove variable
  statement_of (program.Transfer variable) = statements.Transfer variable
  statement_of program.Barrier = statements.Barrier
  statement_of program.DryRun = statements.DryRun
  statement_of (program.Read store key variable) = statements.Read store key variable
  statement_of (program.Scan store prefix variable) = statements.Scan store prefix variable
  statement_of (program.Poll store key variable) = statements.Poll store key variable
  statement_of (program.Call service handler value variable) = statements.Call service handler value variable
  statement_of (program.Send service handler value) = statements.Send service handler value
  statement_of (program.Reply value) = statements.Reply value
  statement_of program.Nack = statements.Nack
  statement_of program.Root = statements.Root
  statement_of program.Stop = statements.Stop
  statement_of (program.Repeat count block) = statements.Repeat count (plain (statements_of block))
  statement_of (program.IfAbsent variable block) = statements.IfAbsent variable (plain (statements_of block))

  pub statements_of : Block → List Statement
  statements_of End = []
  statements_of (Then first rest) = statement_of first ∷ statements_of rest

-- The body of the code for a block.
abbrev pub body_of : Block → Listed Statement
body_of block = plain (statements_of block)
