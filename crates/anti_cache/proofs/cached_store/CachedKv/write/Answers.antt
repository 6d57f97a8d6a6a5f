use Rattle.std.proofs.Common.{ap, refl}
use Rattle.std.proofs.lemmas.Result.{on_ok_weaker}
use Rattle.anti_kind.specs.declared.call.Call.{Call}
use Rattle.anti_kind.specs.declared.store_kind.StoreKind.TheVariants.{Cached}
use Rattle.anti_kind.specs.Caches.{cached_after}
use Rattle.anti_cache.specs.CachedStates.{its_store}
use Rattle.anti_cache.proofs.Standing.{base_at, caches_kept, stands_more}
use Rattle.anti_cache.proofs.cached_store.CachedKv.write.Goals as goal

pub write-requires : goal.write-requires
write-requires c =
    let m = c.args.self.now in
    let may = c.requires.1.may in (
      its_store m,
      c.requires.0,
      record {
        may = record { history = may.history; stands_for = base_at m may.history may.stands_for; is_ready = may.is_ready; fits = may.fits };
        is_due = c.requires.1.is_due;
      },
    )

pub returns-clause-stands : goal.returns-clause-stands
returns-clause-stands c = λ h e key at f is given.
    let m = c.args.self.now in
    let wrote = c.write.ensures in
    on_ok_weaker c.write.result
    (λ base. stands_more m h e at (record m { base = c.write.new.self }) wrote.number wrote.regions refl base
    (caches_kept m h e at (λ g pairs. ap (λ (call : Call). cached_after Cached m.room h g call pairs) is)))
    (wrote.stands (its_store m) h e key (base_at m h at) f is given)
