use Rattle.std.specs.Prelude.{Ok}
use Rattle.anti_play.proofs.OneTrace.{are_histories, few_entries, closed}
use Rattle.anti_play.proofs.world.World.over.Goals as goal

pub merge-requires-clause-own : goal.merge-requires-clause-own
merge-requires-clause-own c = are_histories c.requires.app c.args.self c.requires.trace c.requires.stands _ c.in_ok-histories.ensures

pub merge-requires-clause-few : goal.merge-requires-clause-few
merge-requires-clause-few c = few_entries c.requires.app c.args.self c.requires.trace c.requires.stands _ c.in_ok-histories.ensures c.requires.sound

pub returns : goal.returns
returns c = λ app trace sound s. (
  closed app c.args.self trace s _ c.in_ok-histories.ensures (Ok c.in_ok-trace.trace) c.in_ok-trace.ensures.entries c.in_ok-trace.ensures.order,
  record { ends = c.in_ok-ends.ensures app trace sound s.run s.processes s.objects; trail = s.trail },
)
