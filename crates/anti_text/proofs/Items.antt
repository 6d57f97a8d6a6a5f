-- The items of a list of the record: the first, and each further one behind a comma.
use Rattle.std.proofs.Common.{◌≡◌, ℕ, List, [], ◌∷◌, ◌++◌, true, false, map, codes, refl, ap, sym, ◌∙◌}
use Rattle.std.proofs.lemmas.List.{append_assoc}
use Rattle.std.specs.List.{flat_map}
use Rattle.serde_json.specs.Data.{Data}
use Rattle.serde_json.specs.View.{items_of}
use Rattle.serde_json.specs.Written.{compact_text, items_text}
use Rattle.anti_text.proofs.Added.{added_is}

-- those behind the first
later_are : {T : Type 0} (says : T → Data) (items : List T)
    → items_text true (items_of (map says items)) ≡ flat_map (λ item. codes "," ++ compact_text (says item)) items ++ codes "]"
later_are says [] = refl
later_are says (item ∷ rest) =
    ap (λ text. codes "," ++ (compact_text (says item) ++ text)) (later_are says rest)
    ∙ sym (append_assoc (codes "," ++ compact_text (says item)) (flat_map (λ x. codes "," ++ compact_text (says x)) rest) (codes "]"))

-- the list behind its opening bracket
pub list_added : {T : Type 0} (says : T → Data) (out : List ℕ) (first : T) (rest : List T)
    → out ++ items_text false (items_of (map says (first ∷ rest)))
    ≡ out ++ compact_text (says first) ++ flat_map (λ item. codes "," ++ compact_text (says item)) rest ++ codes "]"
list_added says out first rest =
    ap (λ text. out ++ (compact_text (says first) ++ text)) (later_are says rest)
    ∙ sym (added_is out (compact_text (says first)) (flat_map (λ item. codes "," ++ compact_text (says item)) rest ∷ codes "]" ∷ []))
