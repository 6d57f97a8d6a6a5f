use Rattle.std.proofs.Common.{sym, ◌∙◌}
use Rattle.toml.specs.View.{table_view}
use Rattle.anti_rules.proofs.ParsedBodies.{none_failing}
use Rattle.anti_rules.proofs.breach.first_failing.Goals as goal

pub returns-then-is_shown : goal.returns-then-is_shown
returns-then-is_shown c =
    none_failing c.args.rule (table_view c.args.doc.now) c.args.bodies.now c.in-Some.bodies c.requires c.in-Some.is (sym c.is_shown.ensures ∙ c.if-is_shown.true)
