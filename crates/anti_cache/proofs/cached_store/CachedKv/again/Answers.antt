use Rattle.std.proofs.Common.{sym, ap, subst, ◌∙◌}
use Rattle.anti_kind.specs.declared.call.Call.{Call}
use Rattle.anti_kind.specs.Objects.{weight}
use Rattle.anti_kind.specs.Store.{store_due}
use Rattle.anti_replicas.specs.Stores.{IsOther}
use Rattle.anti_cache.specs.CachedStates.{its_store}
use Rattle.anti_cache.proofs.Standing.{again_within, again_turned, stands_noted}
use Rattle.anti_cache.proofs.cached_store.CachedKv.again.Goals as goal

pub refresh-requires : goal.refresh-requires
refresh-requires c = again_within c.args.self.now c.args.region c.args.version c.requires

pub returns-clause-stands : goal.returns-clause-stands
returns-clause-stands c = λ h e part at f is.
    let m = c.args.self.now in
    let noted = c.note.ensures in
    let n = c.refresh.new.self in
    let weighs = ap weight f.reply ∙ ap (λ (call : Call). weight (store_due (its_store m) h call)) is in
    stands_noted m n h e at c.refresh.ensures.only c.note.new.self noted.number noted.regions
    (λ base. noted.stands (its_store m) h e base f (subst IsOther (sym is) tt) weighs)
    (again_turned m h e at n c.args.region c.args.version part is (again_within m c.args.region c.args.version c.requires) (c.refresh.ensures.turns h at))
