-- What a rule says of a thing as the code has it.
use Rattle.std.specs.Prelude.{ℕ, map, Option}
use Rattle.toml.specs.View.{view, table_view}
use Rattle.anti_rules.specs.Rules.{rule_line}
use Rattle.anti_rules.specs.declared.rule.Rule.{Rule}
use Rattle.anti_rules.specs.declared.place.Part.{Part}
use Rattle.anti_rules.specs.declared.rule_lines.Thing.{Thing}

-- The line at which a thing fails a rule, as one of a part.
abbrev pub line_of : Rule → Part → Thing → Option ℕ
line_of rule part thing = rule_line rule (table_view thing.doc.now) thing.home.now part (map view thing.earlier.now) (view thing.value.now)
