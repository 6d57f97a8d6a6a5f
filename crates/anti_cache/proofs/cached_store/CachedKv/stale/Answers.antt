use Rattle.std.proofs.Common.{sym, ◌∙◌, arith}
use Rattle.anti_cache.proofs.Standing.{none_stale}
use Rattle.anti_cache.proofs.cached_store.CachedKv.stale.Goals as goal

pub returns-in_err-cache : goal.returns-in_err-cache
returns-in_err-cache c = λ h at.
    let above = c.in_err-cache.ensures.lookup.3 in
    c.from_residual.ensures ∙ sym (none_stale c.args.self.now h at c.args.region (omega (arith, c.as_slice.ensures.len)))
