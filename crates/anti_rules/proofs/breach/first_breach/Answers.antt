use Rattle.std.proofs.Common.{sym, ap, ◌∙◌}
use Rattle.toml.specs.View.{table_view}
use Rattle.anti_rules.specs.Order.{breach_from}
use Rattle.anti_rules.proofs.AllParse.{none_missing}
use Rattle.anti_rules.proofs.breach.first_breach.Goals as goal

pub unreachable-requires : goal.unreachable-requires
unreachable-requires c =
    none_missing (table_view c.args.doc.now) c.in_ok-bodies.bodies c.in-None.is c.in_ok-bodies.ensures
    (ap (breach_from (table_view c.args.doc.now) 0) (sym c.rules.ensures.all) ∙ sym c.in_ok-breach.ensures ∙ c.in_default.is)
