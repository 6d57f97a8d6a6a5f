use Rattle.anti_lang.specs.Printing.{spelling}
use Rattle.anti_lang.proofs.LineLemmas.{read_stated}
use Rattle.anti_lang.proofs.SpacedLemmas.{cut_again}
use Rattle.anti_lang.proofs.laws.lines_are_spelled.Goals as goal

pub returns-clause-found : goal.returns-clause-found
returns-clause-found c = λ texts line h. (read_stated texts line h).spelled

pub returns-clause-spaced : goal.returns-clause-spaced
returns-clause-spaced c = λ line h. cut_again (spelling line) (read_stated (spelling line) line h).are_words
