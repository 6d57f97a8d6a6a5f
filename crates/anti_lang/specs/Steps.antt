-- Blocks and the statements of the code as lists of statements.
use Rattle.std.specs.Prelude.{List, [], ◌∷◌, map}
use Rattle.anti_lang.specs.Program.{Step, Block, End, Then}
use Rattle.anti_lang.specs.Bodies.{step_of}
use Rattle.anti_lang.specs.declared.statement.Statement.{Statement}

-- a block as a list
abbrev pub list_of : Block → List Step
list_of End = []
list_of (Then first rest) = first ∷ list_of rest

-- the statements of the code
abbrev pub steps_of : List Statement → List Step
steps_of statements = map step_of statements
