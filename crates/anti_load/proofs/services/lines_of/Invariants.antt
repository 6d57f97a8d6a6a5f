use Rattle.std.proofs.Common.{◌≡◌, ◌++◌, map, drop}
use Rattle.anti_lang.specs.Parses.{texts_of}
use Rattle.anti_load.proofs.services.lines_of.Given as goal

-- what is left goes behind what was made
abbrev pub invariant-loop-text : goal.invariant-loop-text
invariant-loop-text l = texts_of l.lines ++ map (λ text. text.now) (drop l.text-index l.texts) ≡ map (λ text. text.now) l.texts
