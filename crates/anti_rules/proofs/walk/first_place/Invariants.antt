use Rattle.std.proofs.Common.{◌≡◌, drop}
use Rattle.toml.specs.View.{table_view}
use Rattle.anti_rules.specs.Walk.{first_place}
use Rattle.anti_rules.specs.inner.Parts.{first_in}
use Rattle.anti_rules.proofs.walk.first_place.Given as goal

abbrev pub invariant-loop-part : goal.invariant-loop-part
invariant-loop-part l = first_in l.rule (table_view l.doc) (drop l.part-index l.part-items) ≡ first_place l.rule (table_view l.doc)
