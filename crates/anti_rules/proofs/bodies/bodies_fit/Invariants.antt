use Rattle.std.proofs.Common.{◌≡◌, drop}
use Rattle.toml.specs.View.{table_view}
use Rattle.anti_rules.specs.inner.Parses.{bodies_fit}
use Rattle.anti_rules.proofs.bodies.bodies_fit.Given as goal

abbrev pub invariant-loop-body : goal.invariant-loop-body
invariant-loop-body l = bodies_fit l.rule (table_view l.doc) l.home (drop l.body-index l.bodies) ≡ bodies_fit l.rule (table_view l.doc) l.home l.bodies
