use Rattle.std.proofs.Common.{refl}
use Rattle.anti_kv.specs.KvStates.{its_store}
use Rattle.anti_kv.proofs.kv_store.Kv.new.Goals as goal

pub returns-clause-stands : goal.returns-clause-stands
returns-clause-stands c =
    let base = c.in_ok-base.ensures in
    base.stands (its_store (record { base = c.in_ok-base.base })) (record { kind_is = refl; number_is = base.number; regions_are = base.regions })
