use Rattle.anti_proc.proofs.Carrying.{body_at_home, process_at_home}
use Rattle.anti_proc.proofs.laws.calls_are_made_at_home.Goals as goal

pub returns : goal.returns
returns c = record { bodies = body_at_home; processes = process_at_home }
