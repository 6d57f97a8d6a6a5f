use Rattle.anti_proc.proofs.Lineages.{body_lineages, process_lineages}
use Rattle.anti_proc.proofs.laws.carries_lineages.Goals as goal

pub returns : goal.returns
returns c = record { bodies = body_lineages; processes = process_lineages }
