use Rattle.std.proofs.Common.{◌≡◌, not, map, drop}
use Rattle.std.specs.List.{position_from}
use Rattle.toml.specs.View.{view, table_view}
use Rattle.anti_rules.specs.Statements.{line_passes}
use Rattle.anti_rules.specs.inner.Parses.{line_fits}
use Rattle.anti_rules.proofs.body.first_line.Given as goal

abbrev pub invariant-loop-index : goal.invariant-loop-index
invariant-loop-index l =
    position_from (λ line. not (line_passes (line_fits l.rule (table_view l.doc) l.home) line)) l.index (map view (drop l.index l.values))
    ≡ position_from (λ line. not (line_passes (line_fits l.rule (table_view l.doc) l.home) line)) 0 (map view l.values)
