use Rattle.std.proofs.Common.{arith}
use Rattle.std.proofs.lemmas.Grind.{common_steps}
use Rattle.anti_text.proofs.doctor_text.diagnosis_text.Goals as goal

pub returns-in_ok-put-in-Sound : goal.returns-in_ok-put-in-Sound
returns-in_ok-put-in-Sound c = grind (arith, common_steps)

pub returns-in_ok-put-in-Misses : goal.returns-in_ok-put-in-Misses
returns-in_ok-put-in-Misses c = grind (arith, common_steps)
