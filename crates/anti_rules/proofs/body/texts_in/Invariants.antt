use Rattle.std.proofs.Common.{◌≡◌, ◌++◌, map, drop}
use Rattle.toml.specs.View.{view}
use Rattle.anti_lang.specs.Parses.{texts_of}
use Rattle.anti_rules.specs.Trees.{text_of}
use Rattle.anti_rules.proofs.body.texts_in.Given as goal

abbrev pub invariant-loop-value : goal.invariant-loop-value
invariant-loop-value l = texts_of l.lines ++ map text_of (map view (drop l.value-index l.values)) ≡ map text_of (map view l.values)
