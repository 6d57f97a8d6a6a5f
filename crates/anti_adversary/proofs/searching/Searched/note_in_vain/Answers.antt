use Rattle.std.proofs.Common.{ℕ, ◌+◌, ap}
use Rattle.anti_adversary.proofs.Tries.{searched_more}
use Rattle.anti_adversary.proofs.searching.Searched.note_in_vain.Goals as goal

pub returns-clause-searched : goal.returns-clause-searched
returns-clause-searched c =
    searched_more c.args.app.now c.args.self.now _ c.args.run.now.trace c.requires.searched
    (ap (λ (n : ℕ). n + 1) c.note_hint.ensures.runs) c.note_hint.ensures.long c.requires.whole c.requires.nothing
