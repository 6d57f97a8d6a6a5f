-- How many spans a body begins at most, behind the one that it is born with.
use Rattle.std.specs.Prelude.{ℕ, ◌+◌, ◌*◌}
use Rattle.anti_lang.specs.Program.{Step, Block, End, Then, Root, Stop, Repeat, IfAbsent}

abbrev mutual
  pub spans_in : Step → ℕ
  spans_in Root = 1
  spans_in Stop = 1
  spans_in (Repeat count block) = count * spans_of block
  spans_in (IfAbsent variable block) = spans_of block
  spans_in statement = 0

  pub spans_of : Block → ℕ
  spans_of End = 0
  spans_of (Then first rest) = spans_in first + spans_of rest
