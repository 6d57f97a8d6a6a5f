use Rattle.std.proofs.Common.{◌≡◌, ◌++◌, map, length}
use Rattle.anti_lang.specs.Printing.{spaced}
use Rattle.anti_lang.proofs.split.spaced.Given as goal

abbrev pub invariant-loop-rest : goal.invariant-loop-rest
invariant-loop-rest l = l.text.items ++ spaced (map (λ word. word.now) l.rest) ≡ spaced (map (λ word. word.now) l.words)

abbrev pub decreases-loop-rest : goal.decreases-loop-rest
decreases-loop-rest l = length l.rest
