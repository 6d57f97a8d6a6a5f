use Rattle.std.proofs.Common.{◌-◌, cond, sym, ap, ◌∙◌, w64}
use Rattle.std.specs.Int.{bit_at}
use Rattle.std.proofs.lemmas.Nat.Bits.{bit_at_not}
use Rattle.anti_order.proofs.number_set.facing.Goals as goal

pub returns : goal.returns
returns c = λ i low.
    bit_at_not w64 c.args.word i c.ranges.word.fits low
    ∙ sym (ap (λ t. cond t (bit_at c.args.word i) (1 - bit_at c.args.word i)) c.if-inside.false)
