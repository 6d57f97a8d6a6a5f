use Rattle.std.proofs.Common.{sym, subst}
use Rattle.anti_adversary.specs.inner.Playing.{IsPlayer, with_made}
use Rattle.anti_adversary.specs.declared.player.Player.{Player}
use Rattle.anti_adversary.proofs.stage.Stage.play.Goals as goal

pub returns-in_default-2 : goal.returns-in_default-2
returns-in_default-2 c = record {
  choices = with_made c.in_ok-mark.field-0 c.in-Some.choice c.requires.player.choices;
  made = c.in_ok-mark.ensures c.requires.player.choices c.requires.player.made;
}

pub returns : goal.returns
returns c =
    let is : IsPlayer c.args.app.now c.make.new.self = record {
      choices = with_made c.in_ok-mark.field-0 c.in-Some.choice c.requires.player.choices;
      made = c.in_ok-mark.ensures c.requires.player.choices c.requires.player.made;
    } in
    subst (λ (player : Player). IsPlayer c.args.app.now player) (sym c.in_ok-version.ensures) is
