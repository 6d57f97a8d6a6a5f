use Rattle.anti_play.proofs.HasPlayed.{played_after, played_legal, played_trace, played_waits}
use Rattle.anti_play.proofs.player.play.Goals as goal

pub returns-clause-trace : goal.returns-clause-trace
returns-clause-trace c =
    played_trace c.args.app.now _ _ c.in_ok-waits.ensures c.in_ok-trace.trace c.in_ok-trace.after (λ t s. c.in_ok-trace.ensures c.args.app.now t c.requires s)

pub returns-clause-waits : goal.returns-clause-waits
returns-clause-waits c = played_waits c.args.app.now _ _ c.in_ok-waits.ensures

pub returns-clause-after : goal.returns-clause-after
returns-clause-after c =
    played_after c.args.app.now _ _ c.in_ok-waits.ensures c.in_ok-trace.trace c.in_ok-trace.after (λ t s. c.in_ok-trace.ensures c.args.app.now t c.requires s)

pub returns-clause-legal : goal.returns-clause-legal
returns-clause-legal c =
    played_legal c.args.app.now _ _ c.in_ok-waits.ensures c.in_ok-trace.trace c.in_ok-trace.after (λ t s. c.in_ok-trace.ensures c.args.app.now t c.requires s)
