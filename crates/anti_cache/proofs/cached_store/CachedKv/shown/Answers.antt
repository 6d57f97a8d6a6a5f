use Rattle.std.proofs.Common.{ℕ, Option, sym, ap, ◌∙◌, unwrap_or}
use Rattle.anti_kind.specs.Stored.{shows_of}
use Rattle.anti_kind.specs.declared.store_kind.StoreKind.TheVariants.{Cached}
use Rattle.anti_cache.specs.CachedStates.{its_store}
use Rattle.anti_cache.proofs.Standing.{base_at}
use Rattle.anti_cache.proofs.cached_store.CachedKv.shown.Goals as goal

pub returns-in-Some : goal.returns-in-Some
returns-in-Some c = λ h at.
    ap (λ (o : Option ℕ). unwrap_or o (shows_of Cached h c.args.region c.args.key.now)) (sym c.in-Some.is ∙ c.cached.ensures h at)

pub returns-in-None : goal.returns-in-None
returns-in-None c = λ h at.
    c.shown_version.ensures (its_store c.args.self.now) h (base_at c.args.self.now h at)
    ∙ ap (λ (o : Option ℕ). unwrap_or o (shows_of Cached h c.args.region c.args.key.now)) (sym c.in-None.is ∙ c.cached.ensures h at)
