-- The body that lines state, and the lines of a body.
use Rattle.std.specs.Prelude.{List, [], ◌∷◌, ◌++◌}
use Rattle.anti_lang.specs.Program.{Step, Block, Then, Repeat, IfAbsent, End}
use Rattle.anti_lang.specs.Lines.{Line, Does, OpenRepeat, OpenIf, Close}

abbrev mutual
  -- the lines of a statement, with its block
  pub step_lines : Step → List Line
  step_lines (Repeat count block) = OpenRepeat count ∷ (lines_of block ++ Close ∷ [])
  step_lines (IfAbsent variable block) = OpenIf variable ∷ (lines_of block ++ Close ∷ [])
  step_lines statement = Does statement ∷ []

  -- The lines of a body.
  pub lines_of : Block → List Line
  lines_of End = []
  lines_of (Then first rest) = step_lines first ++ lines_of rest

-- a statement in front of the first of some blocks
abbrev pub behind : Step → List Block → List Block
behind statement [] = []
behind statement (block ∷ outer) = Then statement block ∷ outer

-- the first of some blocks becomes a statement in front of the second
abbrev pub wrap : (Block → Step) → List Block → List Block
wrap make [] = []
wrap make (block ∷ outer) = behind (make block) outer

-- a block ends in front of the first of some blocks
abbrev pub ended : List Block → List Block
ended [] = []
ended (block ∷ outer) = End ∷ block ∷ outer

-- some blocks with a line in front of their lines
abbrev pub with_line : Line → List Block → List Block
with_line (Does statement) blocks = behind statement blocks
with_line (OpenRepeat count) blocks = wrap (Repeat count) blocks
with_line (OpenIf variable) blocks = wrap (IfAbsent variable) blocks
with_line Close blocks = ended blocks

-- The blocks that lines state, the innermost first: read from the last line up, the lines of a body leave one, the body.
abbrev pub up : List Line → List Block
up [] = End ∷ []
up (line ∷ lines) = with_line line (up lines)
