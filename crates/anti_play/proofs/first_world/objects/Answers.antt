use Rattle.std.proofs.lemmas.Grind.{common_steps}
use Rattle.std.proofs.Common.{ap, arith}
use Rattle.anti_ids.specs.List.{Listed}
use Rattle.anti_object.specs.declared.object.Object.{Object}
use Rattle.anti_play.proofs.NewWorld.{first_then, first_all}
use Rattle.anti_play.proofs.first_world.objects.Goals as goal

pub loop-objects-preserved : goal.loop-objects-preserved
loop-objects-preserved c =
    let more = first_then c.args.app.now c.loop-objects.objects.items c.loop-objects.invariant.first c.len.result c.len.ensures c.in_ok-object.field-0 c.in_ok-object.ensures
    c.in-Some.object c.add.new.self.items c.in-Some.is (ap (λ (l : Listed Object). l.items) c.in_ok-add.ensures.ok) in
    record { first = more.0; few = more.1 }

pub returns : goal.returns
returns c =
    first_all c.args.app.now c.loop-objects.objects.items c.loop-objects.invariant.first c.len.result c.len.ensures c.in_ok-object.field-0 c.in_ok-object.ensures
    c.in_default.is c.loop-objects.invariant.few

pub overflow_cast-len : goal.overflow_cast-len
overflow_cast-len c = grind (arith, common_steps)

pub loop-objects-smaller : goal.loop-objects-smaller
loop-objects-smaller c = grind (arith, common_steps)
