-- The bodies of the code that are built from the last line up: their statements stand back to front.
use Rattle.std.specs.Prelude.{◌≡◌, List, [], ◌∷◌, ◌++◌, reverse, Option, Some, None}
use Rattle.anti_ids.specs.List.{Listed, plain}
use Rattle.anti_lang.specs.Program.{Block}
use Rattle.anti_lang.specs.Bodies.{statements_of}
use Rattle.anti_lang.specs.declared.statement.Statement.{Statement}

-- the body for a block, the last statement first
abbrev pub turned_of : Block → Listed Statement
turned_of block = plain (reverse (statements_of block))

abbrev pub OpenBlocks : Type 0
OpenBlocks = List Block

-- the bodies for open blocks, the innermost of which is the first block and the last body
abbrev pub bodies_of : OpenBlocks → List (Listed Statement)
bodies_of [] = []
bodies_of (block ∷ outer) = bodies_of outer ++ turned_of block ∷ []

-- some bodies are those for open blocks
abbrev pub Hold : Listed (Listed Statement) → OpenBlocks → Type 0
Hold bodies blocks = bodies ≡ plain (bodies_of blocks)

-- the innermost of open blocks, and those round it
abbrev pub innermost : OpenBlocks → Option Block
innermost [] = None
innermost (block ∷ outer) = Some block

abbrev pub others : OpenBlocks → OpenBlocks
others [] = []
others (block ∷ outer) = outer
