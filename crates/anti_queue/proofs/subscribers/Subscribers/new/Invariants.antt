use Rattle.std.proofs.Common.{◌≡◌, [], take}
use Rattle.anti_kind.specs.Store.{Store}
use Rattle.anti_queue.specs.inner.Lists.{subs_of, HaveFree}
use Rattle.anti_queue.proofs.subscribers.Subscribers.new.Given as goal

abbrev pub invariant-loop-sub : goal.invariant-loop-sub
invariant-loop-sub l = record {
  subs : subs_of l.subscribers ≡ take l.sub-index l.subs;
  free : (s : Store) → HaveFree s [] l.subscribers.list.items;
}
