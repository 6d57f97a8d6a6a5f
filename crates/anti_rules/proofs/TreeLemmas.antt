-- Elements and keys, seen as lists.
use Rattle.std.proofs.Common.{◌≡◌, List, [], ◌∷◌, map, String, Global, string_bytes, refl, ap}
use Rattle.std.specs.Map.{keys_of}
use Rattle.toml.specs.Data.{Data}
use Rattle.toml.specs.View.{items_of, members_view}
use Rattle.toml.specs.declared.value.Value.{Value}
use Rattle.anti_rules.specs.Trees.{elements, names}

pub elements-items_of : (ds : List Data) → elements (items_of ds) ≡ ds
elements-items_of [] = refl
elements-items_of (d ∷ ds) = ap (λ rest. d ∷ rest) (elements-items_of ds)

pub names-view : (entries : List (String Global × Value)) → names (members_view entries) ≡ map string_bytes (keys_of entries)
names-view [] = refl
names-view (entry ∷ entries) = ap (λ rest. string_bytes entry.0 ∷ rest) (names-view entries)
