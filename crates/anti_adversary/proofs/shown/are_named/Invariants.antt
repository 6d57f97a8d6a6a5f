use Rattle.std.proofs.Common.{◌≡◌, drop}
use Rattle.std.specs.List.{list_all}
use Rattle.anti_app.specs.Sound.{is_sound_choice}
use Rattle.anti_adversary.proofs.shown.are_named.Given as goal

-- what is left decides
abbrev pub invariant-loop-choice : goal.invariant-loop-choice
invariant-loop-choice l = list_all (is_sound_choice l.app) (drop l.choice-index l.choices) ≡ list_all (is_sound_choice l.app) l.choices
