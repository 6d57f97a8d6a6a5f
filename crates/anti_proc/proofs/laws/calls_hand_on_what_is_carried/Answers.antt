use Rattle.anti_proc.proofs.Carrying.{body_hands_on, process_hands_on}
use Rattle.anti_proc.proofs.laws.calls_hand_on_what_is_carried.Goals as goal

pub returns : goal.returns
returns c = record { bodies = body_hands_on; processes = process_hands_on }
