use Rattle.std.proofs.Common.{◌≡◌, not, map, drop}
use Rattle.std.specs.List.{position_from}
use Rattle.toml.specs.View.{view}
use Rattle.anti_rules.specs.Keys.{is_text}
use Rattle.anti_rules.proofs.body.first_other.Given as goal

abbrev pub invariant-loop-index : goal.invariant-loop-index
invariant-loop-index l =
    position_from (λ line. not (is_text line)) l.index (map view (drop l.index l.values)) ≡ position_from (λ line. not (is_text line)) 0 (map view l.values)
