use Rattle.anti_trace.proofs.Ended.{end_none}
use Rattle.anti_trace.proofs.ends.ended.Goals as goal

pub returns-in-None : goal.returns-in-None
returns-in-None g c = λ app trace sound legal on after.
    end_none app sound trace legal c.args.process.now on c.ended.result (c.in-None.ensures.none app) (c.ended.ensures.going app) c.ended.ensures.full
