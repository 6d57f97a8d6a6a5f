-- The keys of the code, and the tests that rules make of them.
use Rattle.std.specs.Prelude.{List, Bool, true}
use Rattle.toml.specs.Data.{Data, Members}
use Rattle.anti_rules.specs.Keys.{TableKey, are_listed, are_there, all_fit, has_type, has_count, has_range}
use Rattle.anti_rules.specs.declared.table_keys.KeyKind.{KeyKind}
use Rattle.anti_rules.specs.declared.rule.Rule.{Rule}
use Rattle.anti_rules.specs.declared.rule.Rule.TheVariants.{Listed, There, Typed, Counted, Ranged}
use Rattle.anti_rules.specs.declared.table_keys.TableKey as code

-- The key that a key of the code is.
abbrev pub key_view : code.TableKey → TableKey
key_view key = record { name = key.name.now; kind = key.kind; is_needed = key.is_needed }

-- The test that a rule makes of what stands at a key.
abbrev pub fits : Rule → KeyKind → Data → Bool
fits Typed kind d = has_type kind d
fits Counted kind d = has_count kind d
fits Ranged kind d = has_range kind d
fits _ kind d = true

-- The test that a rule makes of a table by its keys.
abbrev pub keys_fit : Rule → List TableKey → Members → Bool
keys_fit Listed keys ms = are_listed keys ms
keys_fit There keys ms = are_there keys ms
keys_fit Typed keys ms = all_fit has_type keys ms
keys_fit Counted keys ms = all_fit has_count keys ms
keys_fit Ranged keys ms = all_fit has_range keys ms
keys_fit _ keys ms = true
