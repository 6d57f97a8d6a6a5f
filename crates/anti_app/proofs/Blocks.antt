-- A block as a list of its statements.
use Rattle.std.proofs.Common.{◌≡◌, List, [], ◌∷◌, refl, ap}
use Rattle.anti_lang.specs.Bodies.{block_from}
use Rattle.anti_lang.specs.Steps.{list_of}
use Rattle.anti_lang.specs.Program.{Step, Block, End, Then}

pub list_again : (steps : List Step) → list_of (block_from steps) ≡ steps
list_again [] = refl
list_again (first ∷ rest) = ap (λ (further : List Step). first ∷ further) (list_again rest)

pub block_again : (block : Block) → block_from (list_of block) ≡ block
block_again End = refl
block_again (Then first rest) = ap (λ (further : Block). Then first further) (block_again rest)
