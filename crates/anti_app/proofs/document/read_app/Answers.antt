use Rattle.toml.specs.View.{table_view}
use Rattle.anti_app.proofs.Soundness.{read_sound}
use Rattle.anti_app.proofs.document.read_app.Goals as goal

pub returns-in-Some-2-clause-sound : goal.returns-in-Some-2-clause-sound
returns-in-Some-2-clause-sound c = read_sound (table_view c.in-Some-2.table) c.app_in.result c.app_in.ensures
