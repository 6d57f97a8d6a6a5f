use Rattle.std.proofs.Common.{take}
use Rattle.anti_adversary.specs.inner.Playing.{HasMade}
use Rattle.anti_adversary.proofs.shown.shown.Given as goal

-- the choices so far were made
abbrev pub invariant-loop-choice : goal.invariant-loop-choice
invariant-loop-choice l = HasMade l.app l.player (take l.choice-index l.app.choices.items)
