use Rattle.std.proofs.Common.{sym}
use Rattle.anti_adversary.proofs.Tries.{searched_long}
use Rattle.anti_adversary.proofs.searching.show.Goals as goal

pub returns-clause-none : goal.returns-clause-none
returns-clause-none c = λ none. (
  c.in_ok-app.ensures.none c.in-None.is,
  searched_long c.args.app c.args.searched.now c.note_long-in-None.new.self
      (record { number = c.args.number; entries = c.len-in-None.result; span = c.args.missed }) c.args.run.trace c.requires.searched
      c.note_long-in-None.ensures.runs c.note_long-in-None.ensures.first c.note_long-in-None.ensures.later c.requires.whole
      (sym c.len-in-None.ensures.len) c.requires.missed,
)
