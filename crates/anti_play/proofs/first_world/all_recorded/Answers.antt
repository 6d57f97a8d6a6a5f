use Rattle.std.proofs.Common.{[], Some, ◌∙◌}
use Rattle.std.proofs.lemmas.List.Elements.{All-pop}
use Rattle.anti_object.specs.declared.object.Object.{Object}
use Rattle.anti_object.specs.Standing.{ObjectAt}
use Rattle.anti_play.specs.inner.Closing.{at_first}
use Rattle.anti_play.proofs.NewWorld.{taken_off}
use Rattle.anti_play.proofs.first_world.all_recorded.Goals as goal

pub loop-object-preserved : goal.loop-object-preserved
loop-object-preserved c =
    let left = c.loop-object.objects.items in
    let now = c.pop.new.self.items in
    let object = c.in-Some.object in
    record {
      left = (All-pop (λ (x : Object). ObjectAt x []) left now (Some object) c.in-Some.ensures.some c.loop-object.invariant.left).0;
      all = taken_off at_first left now object c.loop-object.recorded.items c.keep.new.objects.items c.in-Some.ensures.some c.in_ok-keep.ensures ∙ c.loop-object.invariant.all;
    }
