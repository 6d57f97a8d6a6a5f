use Rattle.std.proofs.Common.{sym, subst, refl}
use Rattle.anti_cache.specs.CachedStates.{its_store}
use Rattle.anti_cache.specs.inner.Changes.{IsQuiet}
use Rattle.anti_cache.proofs.Standing.{base_at, caches_kept, stands_more, quiet_keeps, weighs_one}
use Rattle.anti_cache.proofs.cached_store.CachedKv.pass.Goals as goal

pub returns-clause-stands : goal.returns-clause-stands
returns-clause-stands c = λ h e at f is.
    let m = c.args.self.now in
    let passed = c.pass.ensures in
    let quiet = subst IsQuiet (sym is) c.requires.quiet in
    stands_more m h e at (record m { base = c.pass.new.self }) passed.number passed.regions refl
    (passed.stands (its_store m) h e (base_at m h at) f is (weighs_one m h e f quiet))
    (caches_kept m h e at (quiet_keeps m.room h e.call quiet))
