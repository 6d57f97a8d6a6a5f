use Rattle.std.proofs.Common.{arith, map, ap, ◌∙◌}
use Rattle.std.proofs.lemmas.Grind.{common_steps}
use Rattle.std.proofs.lemmas.List.{with_items_is}
use Rattle.anti_queue.specs.declared.subscribers.Subscriber.{Subscriber}
use Rattle.anti_queue.proofs.Listed.{subs_kept}
use Rattle.anti_queue.proofs.subscribers.Subscribers.sort_in.Goals as goal

pub returns-clause-subs : goal.returns-clause-subs
returns-clause-subs c =
    let xs = c.deref_mut-subscriber-items.result.now in
    let ys = c.loop-subscriber.subscriber-items in
    let were = c.deref_mut-subscriber-items.ensures in
    ap (map (λ (x : Subscriber). x.sub)) (with_items_is c.args.self.now.list ys (c.loop-subscriber.invariant.many ∙ were.len))
    ∙ subs_kept xs ys c.loop-subscriber.invariant.many (λ i d short. c.loop-subscriber.invariant.subs i d)
    ∙ ap (map (λ (x : Subscriber). x.sub)) were.value

pub loop-subscriber-preserved : goal.loop-subscriber-preserved
loop-subscriber-preserved c = grind (arith, common_steps)

pub returns-clause-sorted : goal.returns-clause-sorted
returns-clause-sorted c = grind (arith, common_steps)
