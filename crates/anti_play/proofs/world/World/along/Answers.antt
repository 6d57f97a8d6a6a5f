use Rattle.anti_play.proofs.KeptWorld.{all_within, stand_again, world_along}
use Rattle.anti_play.proofs.world.World.along.Goals as goal

pub given_back-requires : goal.given_back-requires
given_back-requires c = all_within c.args.app.now c.args.trace c.args.objects.items c.requires.legal c.requires.objects _ c.into_entries.ensures.entries

pub all_kept-requires : goal.all_kept-requires
all_kept-requires c = stand_again c.args.app.now c.args.trace c.args.objects.items c.requires.objects _ c.into_entries.ensures.entries _ c.in_ok-kept.ensures

pub returns : goal.returns
returns c =
    world_along c.args.app.now c.args.trace _ c.requires.legal c.args.objects.items c.requires.objects _ c.into_entries.ensures.entries _ c.in_ok-kept.ensures
    c.in_ok-objects.ensures _ c.as_slice-entries.ensures.entries c.in_ok-processes.ensures.processes c.in_ok-processes.ensures.trail c.last_carried-carrier.ensures
