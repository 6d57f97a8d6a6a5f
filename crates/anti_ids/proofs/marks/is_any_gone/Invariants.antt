use Rattle.std.proofs.Common.{ℕ, ◌<◌, ◌≤◌, get_or}
use Rattle.anti_ids.proofs.marks.is_any_gone.Given as goal

-- the words so far have no bits but these
abbrev pub invariant-loop-word : goal.invariant-loop-word
invariant-loop-word l = (number : ℕ) → number < l.word-index → get_or l.words number 0 ≤ l.bits
