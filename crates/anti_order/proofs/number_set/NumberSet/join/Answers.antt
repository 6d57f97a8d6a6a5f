use Rattle.std.proofs.Common.{◌≡◌, ℕ, ◌||◌, ◌<◌, List, length, sym, ap, ◌∙◌, subst, arith}
use Rattle.std.proofs.lemmas.List.{get_or_read}
use Rattle.anti_order.proofs.Bits.{AreJoined, join_more, joined_bits}
use Rattle.anti_order.proofs.number_set.NumberSet.join.Goals as goal

pub loop-index-preserved : goal.loop-index-preserved
loop-index-preserved c =
    let words = c.self.inside.words.items in
    let others = c.others.inside.words.items in
    let new = c.loop-index.self-inside.words.items in
    let k = c.loop-index.index in
    let all : c.len-index-end.result ≡ length words = c.len-index-end.ensures ∙ c.self.inside.words.ok.0 in
    let count : length new ≡ length words = c.loop-index.invariant.count ∙ ap length (sym c.self.view_is) in
    let rooms = rw (← c.self.view_is, ← c.others.view_is) at c.requires in
    let end = c.loop-index.auto.index-end in
    let within : k < length new = omega (arith, c.loop-index-test.true, all, count, end) in
    let low : k < length others = omega (arith, within, count, rooms) in
    rw (← c.others.view_is)
    (join_more (λ a b. a || b) c.args.self.now others new k _
    (subst (λ (ws : List ℕ). AreJoined (λ a b. a || b) c.args.self.now ws new k) (sym c.others.view_is) c.loop-index.invariant) within
    (λ n here. joined_bits new others k c.index_mut.result.now c.index.result.now n
    (get_or_read new k c.index_mut.result.now within c.index_mut.ensures.value 0)
    (get_or_read others k c.index.result.now low c.index.ensures 0) here))
