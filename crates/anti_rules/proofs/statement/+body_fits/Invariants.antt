use Rattle.std.proofs.Common.{◌≡◌, drop}
use Rattle.toml.specs.View.{table_view}
use Rattle.anti_rules.specs.inner.Parses.{body_fits}
use Rattle.anti_rules.proofs.statement.+body_fits.Given as goal

abbrev pub invariant-loop-statement : goal.invariant-loop-statement
invariant-loop-statement l =
    body_fits l.rule (table_view l.doc) l.home (drop l.statement-index l.statements) ≡ body_fits l.rule (table_view l.doc) l.home l.statements
