use Rattle.std.proofs.Common.{true, false}
use Rattle.anti_proc.proofs.Looking.{asks_for, goes_over, looks_once_at}
use Rattle.anti_proc.proofs.laws.laws_of_processes.Goals as goal

pub returns : goal.returns
returns c = record {
  barrier = λ s l. goes_over s l false;
  dry_run = λ s l. goes_over s l true;
  once = looks_once_at;
  covers = asks_for;
}
