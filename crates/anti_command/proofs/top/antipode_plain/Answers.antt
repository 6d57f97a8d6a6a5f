use Rattle.anti_command.proofs.Settled.{answers}
use Rattle.anti_command.proofs.top.antipode_plain.Goals as goal

pub returns : goal.returns
returns g c =
    answers _ _ _ _ _ c.prepare-prepared.result
    (record {
      done = c.prepare-prepared.ensures.done;
      plays = c.prepare-prepared.ensures.plays;
      cause = c.prepare-prepared.ensures.cause;
      unwritten = c.prepare-prepared.ensures.unwritten;
      usage = c.prepare-prepared.ensures.usage;
      src = c.prepare-prepared.ensures.src;
    })
    c.settle.ensures
