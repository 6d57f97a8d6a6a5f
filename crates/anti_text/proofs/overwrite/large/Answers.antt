use Rattle.std.proofs.Common.{◌/◌, arith}
use Rattle.std.proofs.lemmas.Fmt.{length-decimal-le}
use Rattle.itoa.proofs.Decimal.{decimal_pair}
use Rattle.anti_text.proofs.Overwriting.{behind}
use Rattle.anti_text.proofs.overwrite.large.Goals as goal

pub two_digits-requires-clause-room : goal.two_digits-requires-clause-room
two_digits-requires-clause-room c =
    omega (arith, c.below_ten_thousand-behind.ensures.moved, length-decimal-le 4 (c.args.number / 100) (omega arith) (omega arith) (omega arith))

pub returns : goal.returns
returns c =
    rw (decimal_pair c.args.number (omega arith) (omega arith)) (behind c.below_ten_thousand-behind.ensures c.two_digits.ensures)
