-- What the stores of a kind do that a document names.
use Rattle.std.specs.Prelude.{codes, Bool, false}
use Rattle.std.specs.Option.{option_map_or}
use Rattle.toml.specs.Data.{Data}
use Rattle.anti_kind.specs.declared.store_kind.Facts.{Facts}
use Rattle.anti_kind.specs.Kinds.{facts_of, kind_named}
use Rattle.anti_rules.specs.Trees.{text_at}

-- Whether a store has a kind that there is, and what stores of this kind do passes a test.
abbrev pub kind_is : (Facts → Bool) → Data → Bool
kind_is test store = option_map_or (λ kind. test (facts_of kind)) (kind_named (text_at (codes "kind") store)) false
