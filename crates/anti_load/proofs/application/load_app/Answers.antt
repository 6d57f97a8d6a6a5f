use Rattle.anti_load.proofs.Soundness.{made_sound}
use Rattle.anti_load.proofs.application.load_app.Goals as goal

pub returns-clause-sound : goal.returns-clause-sound
returns-clause-sound c = made_sound c.args.n c.requires.few c.load_application.result c.load_application.ensures
