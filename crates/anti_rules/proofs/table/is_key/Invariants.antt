use Rattle.std.proofs.Common.{◌≡◌, map, drop}
use Rattle.std.specs.List.{list_any}
use Rattle.std.specs.Str.{bytes_eq}
use Rattle.anti_rules.specs.inner.Keys.{key_view}
use Rattle.anti_rules.proofs.table.is_key.Given as goal

abbrev pub invariant-loop-key : goal.invariant-loop-key
invariant-loop-key l =
    list_any (λ key. bytes_eq l.name key.name) (map key_view (drop l.key-index l.keys)) ≡ list_any (λ key. bytes_eq l.name key.name) (map key_view l.keys)
