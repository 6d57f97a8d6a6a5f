use Rattle.std.proofs.Common.{◌<◌, ◌/◌, length, arith}
use Rattle.std.proofs.lemmas.List.{get_or_read}
use Rattle.anti_order.proofs.Bits.{inserted}
use Rattle.anti_order.proofs.number_set.NumberSet.insert.Goals as goal

pub returns-clause-added : goal.returns-clause-added
returns-clause-added c = λ n low.
    let words = c.self.inside.words.items in
    let within : c.args.number / 64 < length words = omega (arith, c.if-index-len.false, c.len.ensures, c.self.inside.words.ok.0) in
    rw (← c.self.view_is) (inserted words c.args.number c.index_mut.result.now n within
    (get_or_read words (c.args.number / 64) c.index_mut.result.now within c.index_mut.ensures.value 0))
