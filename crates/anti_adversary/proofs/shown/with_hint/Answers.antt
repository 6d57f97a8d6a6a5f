use Rattle.anti_adversary.proofs.Replaced.{sound_back, sound_put}
use Rattle.anti_adversary.proofs.shown.with_hint.Goals as goal

pub barred-requires : goal.barred-requires
barred-requires c = sound_put c.args.app c.args.choices c.replace-own.new.dest c.replace-own.ensures.after c.requires c.if-not-are_choices.ensures

pub returns-in-Some-clause-sound : goal.returns-in-Some-clause-sound
returns-in-Some-clause-sound c =
    sound_put c.args.app c.args.choices c.replace-own.new.dest c.replace-own.ensures.after c.requires c.if-not-are_choices.ensures

pub returns-in-None-clause-sound : goal.returns-in-None-clause-sound
returns-in-None-clause-sound c = sound_back c.args.app c.replace-own.result c.replace-own.ensures.value c.requires
