use Rattle.std.proofs.Common.{ℕ, List, Bool, map, string_bytes, ap, sym, ◌∙◌}
use Rattle.std.specs.List.{list_all, list_any}
use Rattle.std.specs.Str.{bytes_eq}
use Rattle.anti_rules.specs.inner.Keys.{key_view}
use Rattle.anti_rules.proofs.TreeLemmas.{names-view}
use Rattle.anti_rules.proofs.table.are_listed.Goals as goal

pub loop-name-init : goal.loop-name-init
loop-name-init c =
    let is_key : List ℕ → Bool = λ name. list_any (λ key. bytes_eq name key.name) (map key_view c.args.keys.now) in
    ap (λ names. list_all is_key (map string_bytes names)) (c.into_iter-name-iterator.ensures.into_iter_gives ∙ c.keys-name-items.ensures.rest)
    ∙ ap (list_all is_key) (sym (names-view c.args.table.now.entries))
