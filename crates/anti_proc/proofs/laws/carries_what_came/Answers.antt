use Rattle.anti_proc.proofs.Bringing.{body_carries, process_carries}
use Rattle.anti_proc.proofs.laws.carries_what_came.Goals as goal

pub returns : goal.returns
returns c = record { bodies = body_carries; processes = process_carries }
