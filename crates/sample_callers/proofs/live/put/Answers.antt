use Rattle.sample_callers.proofs.Carrying.{carries}
use Rattle.sample_callers.proofs.live.put.Goals as goal

pub returns-in-Ok-clause-carried : goal.returns-in-Ok-clause-carried
returns-in-Ok-clause-carried g c = (carries _ _ _ _ _ _ _ c.in-Ok.ensures.answer).0
