use Rattle.std.proofs.Common.{map, ap, sym, ◌∙◌}
use Rattle.toml.specs.View.{view}
use Rattle.anti_rules.proofs.TreeLemmas.{elements-items_of}
use Rattle.anti_rules.proofs.toml_tree.elements.Goals as goal

pub returns : goal.returns
returns c = ap (map view) c.as_slice.ensures.value ∙ sym (elements-items_of _)
