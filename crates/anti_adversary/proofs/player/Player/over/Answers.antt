use Rattle.std.proofs.Common.{sym, subst}
use Rattle.anti_trace.specs.Legal.{IsLegalTrace}
use Rattle.anti_adversary.proofs.player.Player.over.Goals as goal

pub returns-clause-legal : goal.returns-clause-legal
returns-clause-legal c =
    let has = c.requires.player.made in
    subst (IsLegalTrace c.args.app.now) (sym (c.in_ok-trace.ensures c.args.app.now has.trace c.requires.sound has.stands).0) has.stands.run
