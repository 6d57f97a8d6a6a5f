use Rattle.std.proofs.Common.{◌≡◌, List, [], refl, sym, subst, arith}
use Rattle.anti_kind.specs.Records.{Record}
use Rattle.anti_object.specs.declared.object.Object.{Object}
use Rattle.anti_app.specs.Objects.{object_count}
use Rattle.anti_play.specs.inner.Standing.{AllStand}
use Rattle.anti_play.proofs.NewWorld.{first_at, first_stand, world_new}
use Rattle.anti_play.proofs.world.World.new.Goals as goal

pub all_recorded-requires : goal.all_recorded-requires
all_recorded-requires c = first_at c.args.app.now _ c.in_ok-objects.ensures

pub returns : goal.returns
returns c =
    let app = c.args.app.now in
    let stand : AllStand app c.in_ok-objects-2.objects.items [] =
    subst (λ (rs : List (Record Object)). AllStand app rs []) (sym c.in_ok-objects-2.ensures) (first_stand app _ c.in_ok-objects.ensures) in
    let all : c.len-count.result ≡ object_count app = omega (arith, c.len-count.ensures, stand.count) in
    world_new app _ c.len-count.result stand c.in_ok-processes.ensures c.in_ok-trail.ensures.0 all refl
