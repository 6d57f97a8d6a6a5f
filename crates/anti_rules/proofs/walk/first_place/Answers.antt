use Rattle.std.proofs.Common.{ap, ◌∙◌}
use Rattle.toml.specs.View.{table_view}
use Rattle.anti_rules.specs.inner.Parts.{first_in}
use Rattle.anti_rules.proofs.PartOrder.{all_parts}
use Rattle.anti_rules.proofs.walk.first_place.Goals as goal

-- the walk begins with all parts
pub loop-part-init : goal.loop-part-init
loop-part-init c =
    let doc = table_view c.args.doc.now in
    ap (first_in c.args.rule doc) c.parts-part-items.ensures ∙ all_parts c.args.rule doc
