use Rattle.std.proofs.Common.{arith}
use Rattle.anti_lang.proofs.write.write_of.Goals as goal

pub returns-in_default-key_of : goal.returns-in_default-key_of
returns-in_default-key_of c = grind arith

pub returns-in-None : goal.returns-in-None
returns-in-None c = grind arith
