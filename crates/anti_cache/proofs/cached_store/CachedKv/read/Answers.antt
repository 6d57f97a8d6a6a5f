use Rattle.std.proofs.Common.{sym, ap, subst, ◌∙◌}
use Rattle.anti_kind.specs.declared.call.Call.{Call}
use Rattle.anti_kind.specs.Objects.{weight}
use Rattle.anti_kind.specs.Store.{store_due}
use Rattle.anti_replicas.specs.Stores.{IsOther}
use Rattle.anti_cache.specs.CachedStates.{its_store}
use Rattle.anti_cache.proofs.Standing.{read_within, read_turned, stands_noted}
use Rattle.anti_cache.proofs.cached_store.CachedKv.read.Goals as goal

pub read_through-requires : goal.read_through-requires
read_through-requires c = read_within c.args.self.now c.args.region c.args.key.now c.requires

pub returns-clause-stands : goal.returns-clause-stands
returns-clause-stands c = λ h e at f is.
    let m = c.args.self.now in
    let read = c.in_ok-read_through.ensures in
    let noted = c.note.ensures in
    let n = c.read_through.new.self in
    let weighs = ap weight f.reply ∙ ap (λ (call : Call). weight (store_due (its_store m) h call)) is in
    stands_noted m n h e at read.only c.note.new.self noted.number noted.regions
    (λ base. noted.stands (its_store m) h e base f (subst IsOther (sym is) tt) weighs)
    (read_turned m h e at n c.args.region c.args.key.now is (read_within m c.args.region c.args.key.now c.requires) (read.ok h at))
