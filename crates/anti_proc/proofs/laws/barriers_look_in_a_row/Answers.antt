use Rattle.std.proofs.Common.{true, false}
use Rattle.anti_proc.proofs.InARow.{begins, body_looks, process_looks}
use Rattle.anti_proc.proofs.laws.barriers_look_in_a_row.Goals as goal

pub returns : goal.returns
returns c = record {
  barrier = λ s l. begins s l false;
  dry_run = λ s l. begins s l true;
  bodies = body_looks;
  processes = process_looks;
}
