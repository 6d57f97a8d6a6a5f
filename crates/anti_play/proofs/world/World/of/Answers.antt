use Rattle.std.proofs.Common.{◌≡◌, ◌∙◌, ap, map}
use Rattle.anti_play.specs.inner.Kepts.{bare, taken}
use Rattle.anti_play.proofs.KeptWorld.{are_bare, can_merge_kept, few_kept, has_histories, stands_for_kept}
use Rattle.anti_play.proofs.world.World.of.Goals as goal

pub merge-requires-clause-own : goal.merge-requires-clause-own
merge-requires-clause-own c =
    let is : c.in_ok-objects.histories.items ≡ map taken c.args.kept.items = c.in_ok-objects.ensures.histories ∙ ap (map taken) c.in_ok-pairs.ensures in
    can_merge_kept c.args.app.now c.args.kept.items c.requires.objects c.in_ok-objects.histories.items is

pub merge-requires-clause-few : goal.merge-requires-clause-few
merge-requires-clause-few c =
    let is : c.in_ok-objects.histories.items ≡ map taken c.args.kept.items = c.in_ok-objects.ensures.histories ∙ ap (map taken) c.in_ok-pairs.ensures in
    few_kept c.args.app.now c.args.kept.items c.requires.objects c.in_ok-objects.histories.items is c.requires.sound

pub along-requires-clause-legal : goal.along-requires-clause-legal
along-requires-clause-legal c =
    let is : c.in_ok-objects.histories.items ≡ map taken c.args.kept.items = c.in_ok-objects.ensures.histories ∙ ap (map taken) c.in_ok-pairs.ensures in
    c.requires.legal c.in_ok-trace.trace c.in_ok-trace.ensures.order
    (has_histories c.args.app.now c.args.kept.items c.requires.objects c.in_ok-objects.histories.items is c.in_ok-trace.trace c.in_ok-trace.ensures.entries)

pub along-requires-clause-objects : goal.along-requires-clause-objects
along-requires-clause-objects c =
    let is : c.in_ok-objects.histories.items ≡ map taken c.args.kept.items = c.in_ok-objects.ensures.histories ∙ ap (map taken) c.in_ok-pairs.ensures in
    are_bare c.args.app.now c.args.kept.items c.requires.objects c.in_ok-trace.trace
    (has_histories c.args.app.now c.args.kept.items c.requires.objects c.in_ok-objects.histories.items is c.in_ok-trace.trace c.in_ok-trace.ensures.entries)
    c.in_ok-objects.objects.items (c.in_ok-objects.ensures.objects ∙ ap (map bare) c.in_ok-pairs.ensures)

pub returns : goal.returns
returns c =
    let is : c.in_ok-objects.histories.items ≡ map taken c.args.kept.items = c.in_ok-objects.ensures.histories ∙ ap (map taken) c.in_ok-pairs.ensures in
    stands_for_kept c.args.app.now c.in_ok-trace.trace c.args.kept.items
    (has_histories c.args.app.now c.args.kept.items c.requires.objects c.in_ok-objects.histories.items is c.in_ok-trace.trace c.in_ok-trace.ensures.entries)
    c.along.result c.along.ensures
