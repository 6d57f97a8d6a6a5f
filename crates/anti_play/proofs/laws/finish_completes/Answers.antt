use Rattle.anti_play.proofs.Finished.{finished_run, finished_goes_on, finished_complete}
use Rattle.anti_play.proofs.Complete.{is_over}
use Rattle.anti_play.proofs.Seated.{finished_seated}
use Rattle.anti_play.proofs.laws.finish_completes.Goals as goal

pub returns : goal.returns
returns c = record {
  run = λ app trace sound run. finished_run app sound trace run;
  goes_on = λ app trace sound run. finished_goes_on app sound trace run;
  complete = λ app trace sound run. finished_complete app sound trace run;
  over = λ app trace sound run complete. is_over app trace sound run complete;
  seats = λ app trace all. finished_seated app trace all;
}
