use Rattle.std.proofs.Common.{arith}
use Rattle.anti_app.proofs.objects.object_at.Goals as goal

pub overflow_sub-service : goal.overflow_sub-service
overflow_sub-service c = grind arith

pub overflow_cast-result : goal.overflow_cast-result
overflow_cast-result c = grind arith

pub returns-then-service-len : goal.returns-then-service-len
returns-then-service-len c = grind arith
