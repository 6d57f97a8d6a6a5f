use Rattle.std.proofs.Common.{◌≡◌, map, string_bytes}
use Rattle.std.specs.List.{list_all, list_any}
use Rattle.std.specs.Str.{bytes_eq}
use Rattle.toml.specs.View.{table_view}
use Rattle.anti_rules.specs.inner.Keys.{key_view}
use Rattle.anti_rules.specs.Keys.{are_listed}
use Rattle.anti_rules.proofs.table.are_listed.Given as goal

abbrev pub invariant-loop-name : goal.invariant-loop-name
invariant-loop-name l =
    list_all (λ name. list_any (λ key. bytes_eq name key.name) (map key_view l.keys)) (map string_bytes l.name-iterator)
    ≡ are_listed (map key_view l.keys) (table_view l.table)
