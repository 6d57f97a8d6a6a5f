use Rattle.std.proofs.Common.{refl}
use Rattle.anti_kind.specs.Starts.{queue_store}
use Rattle.anti_replicas.specs.Stores.{number_of, regions_of}
use Rattle.anti_queue.specs.inner.Lists.{subs_of}
use Rattle.anti_queue.proofs.queue_store.Queue.new.Goals as goal

pub returns-clause-stands : goal.returns-clause-stands
returns-clause-stands c =
    let base = c.in_ok-base.ensures in
    let s = queue_store (number_of c.in_ok-base.base) (regions_of c.in_ok-base.base) (subs_of c.in_ok-subscribers.subscribers) c.args.tries in
    record {
      base = base.stands s (record { kind_is = refl; number_is = base.number; regions_are = base.regions });
      channels = c.new-3.ensures;
      messages = c.new-4.ensures;
      free = c.in_ok-subscribers.ensures.free s;
    }
