use Rattle.std.proofs.Common.{refl}
use Rattle.anti_kind.specs.declared.store_kind.StoreKind.TheVariants.{Kv}
use Rattle.anti_replicas.specs.Stores.{number_of, regions_of}
use Rattle.anti_kv.proofs.kv_store.KvMachine.apply.Goals as goal

pub keyed_apply-requires : goal.keyed_apply-requires
keyed_apply-requires c = (Kv, number_of c.args.self.now.base, regions_of c.args.self.now.base, c.requires, refl)
