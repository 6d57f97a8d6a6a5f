use Rattle.std.proofs.lemmas.Grind.{common_steps}
use Rattle.std.proofs.Common.{List, [], ◌∷◌, ◌++◌, map, take, sym, ap, subst, ◌∙◌, arith}
use Rattle.std.proofs.lemmas.List.{map_push, take_more}
use Rattle.anti_kind.specs.declared.store_kind.Sub.{Sub}
use Rattle.anti_queue.specs.declared.subscribers.Subscriber.{Subscriber}
use Rattle.anti_queue.specs.inner.Lists.{HaveFree}
use Rattle.anti_queue.proofs.Listed.{free_push}
use Rattle.anti_queue.proofs.subscribers.Subscribers.new.Goals as goal

pub loop-sub-preserved : goal.loop-sub-preserved
loop-sub-preserved c =
    let xs = c.loop-sub.subscribers.list.items in
    let x = c.in_ok-subscriber.subscriber in
    let subs = c.args.subs.now in
    let i = c.loop-sub.sub-index in
    record {
      subs =
          ap (map (λ (y : Subscriber). y.sub)) c.in_ok-add.ensures
          ∙ map_push (λ (y : Subscriber). y.sub) xs x
          ∙ ap (λ (ys : List Sub). ys ++ x.sub ∷ []) c.loop-sub.invariant.subs
          ∙ ap (λ (y : Sub). take i subs ++ y ∷ []) (c.in_ok-subscriber.ensures.sub ∙ c.sub-item.is)
          ∙ sym (take_more subs i c.sub-item.result c.loop-sub-test.true);
      free = λ s.
          subst (λ (ys : List Subscriber). HaveFree s [] ys) (sym c.in_ok-add.ensures)
          (free_push s [] xs x (c.loop-sub.invariant.free s) (record { items = c.in_ok-subscriber.ensures.items; room = omega (arith, c.in_ok-subscriber.ensures.room) }));
    }

pub returns-clause-subs : goal.returns-clause-subs
returns-clause-subs c = grind (arith, common_steps)
