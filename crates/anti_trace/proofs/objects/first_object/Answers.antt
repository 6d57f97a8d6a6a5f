use Rattle.anti_trace.proofs.GonePast.{no_object}
use Rattle.anti_trace.proofs.objects.first_object.Goals as goal

pub unreachable-requires : goal.unreachable-requires
unreachable-requires c = no_object c.args.app.now c.args.number c.in_ok-object.field-0 c.in-None.is c.in_ok-object.ensures c.requires.there
