use Rattle.std.proofs.Common.{◌∙◌}
use Rattle.anti_replicas.specs.Stores.{number_of, regions_of}
use Rattle.anti_cache.specs.CachedStates.{its_store}
use Rattle.anti_cache.proofs.Needs.{need_alike}
use Rattle.anti_cache.proofs.Standing.{base_at}
use Rattle.anti_cache.proofs.cached_store.CachedKvMachine.need.Goals as goal

pub returns : goal.returns
returns c = λ h at.
    let m = c.args.self.now in
    c.need.ensures (its_store m) h (base_at m h at) ∙ need_alike (number_of m.base) (regions_of m.base) m.room h at.legal c.args.c.now
