use Rattle.std.proofs.Common.{◌≡◌, ◌+◌, ◌++◌, map, drop}
use Rattle.std.specs.Prelude.{is_none}
use Rattle.std.specs.List.{position_or_len}
use Rattle.std.specs.Option.{some_prefix}
use Rattle.toml.specs.View.{view}
use Rattle.anti_app.specs.Chosen.{choice_of}
use Rattle.anti_app.proofs.choice.choices_of.Given as goal

-- what is left goes behind what was read, of which none is missing
abbrev pub invariant-loop-place : goal.invariant-loop-place
invariant-loop-place l = record {
  read : l.choices.items ++ some_prefix (map (choice_of l.app) (map view (drop l.place l.values))) ≡ some_prefix (map (choice_of l.app) (map view l.values));
  first : position_or_len is_none (map (choice_of l.app) (map view l.values)) ≡ l.place + position_or_len is_none (map (choice_of l.app) (map view (drop l.place l.values)));
  spare : l.choices.spare ≡ 0;
}
