use Rattle.std.proofs.Common.{◌≡◌, ℕ, length, arith, subst}
use Rattle.anti_app.proofs.Runnable.{can_run}
use Rattle.anti_app.specs.Objects.{object_count}
use Rattle.anti_trace.specs.inner.Living.{lists}
use Rattle.anti_play.specs.inner.Attending.{Below, IsGoAt, Wakes}
use Rattle.anti_play.proofs.Filling.{wakes_more, wakes_none}
use Rattle.anti_play.proofs.world.World.wake_objects.Goals as goal

pub object_count-object-end-requires : goal.object_count-object-end-requires
object_count-object-end-requires c = can_run c.args.app.now c.requires.sound

pub loop-object-init : goal.loop-object-init
loop-object-init c = λ trace s. wakes_none c.args.app.now trace (IsGoAt trace) c.args.agenda.now

pub wake_goes-requires : goal.wake_goes-requires
wake_goes-requires c =
    let many : length (lists c.args.self.now.processes) ≡ object_count c.args.app.now = c.requires.world.stands.processes.count in
    omega (arith, c.args.self.now.processes.at.ok.0)

pub loop-object-preserved : goal.loop-object-preserved
loop-object-preserved c = λ trace s.
    wakes_more c.args.app.now trace (IsGoAt trace) c.loop-object.object c.args.agenda.now c.loop-object.agenda c.wake_goes.new.agenda (c.loop-object.invariant trace s)
    (c.in_ok-wake_goes.ensures c.args.app.now trace c.requires.sound s)

pub returns : goal.returns
returns c = λ trace s.
    let all : c.loop-object.object ≡ object_count c.args.app.now = omega arith in
    subst (λ (n : ℕ). Wakes c.args.app.now trace (Below (IsGoAt trace) n) c.args.agenda.now c.loop-object.agenda) all (c.loop-object.invariant trace s)
