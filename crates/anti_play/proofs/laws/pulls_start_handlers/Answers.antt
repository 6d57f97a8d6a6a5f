use Rattle.anti_play.proofs.Pulling.{pull_starts, repull_starts}
use Rattle.anti_play.proofs.laws.pulls_start_handlers.Goals as goal

pub returns : goal.returns
returns c = record {
  pull = λ app trace number sub e there is. pull_starts app trace number sub there e is;
  repull = λ app trace number version sub e there is. repull_starts app trace number sub there version e is;
}
