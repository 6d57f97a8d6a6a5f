use Rattle.std.proofs.Common.{ℕ, ◌-◌, ◌/◌, ◌%◌, set, ap, ◌∙◌, arith}
use Rattle.std.proofs.lemmas.Nat.{one_shl}
use Rattle.anti_order.specs.inner.NumberSets.{has}
use Rattle.anti_order.proofs.Bits.{all_in}
use Rattle.anti_order.proofs.number_set.NumberSet.all.Goals as goal

pub returns-clause-all : goal.returns-clause-all
returns-clause-all c = λ n.
    let words = c.in_ok-words.words.items in
    let count = c.args.count in
    ap (λ (one : ℕ). has (set words (count / 64) (one - 1)) n) (one_shl (count % 64) 64 (omega arith))
    ∙ all_in words count n (c.in_ok-words.ensures.items_if_clones_equal (λ y same. same))
