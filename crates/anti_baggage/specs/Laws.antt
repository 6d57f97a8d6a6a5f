-- Texts and lineages belong together.
use Rattle.std.specs.Prelude.{◌≡◌, ◌⊎◌, ℕ, true, List, Ok}
use Rattle.anti_ids.specs.declared.id.WriteId.{WriteId}
use Rattle.anti_baggage.specs.Texts.{lineage_text, lineage_text_one}
use Rattle.anti_baggage.specs.Over.{IsOver, are_names}
use Rattle.anti_baggage.specs.Reading.{read_lineage}

-- Both texts of a lineage state that lineage. So no text is that of two lineages.
abbrev pub StatesItsLineage : (List (List ℕ) → List WriteId → List ℕ) → Type 0
StatesItsLineage text_of =
    (stores : List (List ℕ)) (ids : List WriteId) → are_names stores ≡ true → IsOver stores ids → read_lineage stores (text_of stores ids) ≡ Ok ids

-- What states a lineage is one of its two texts, and it is a lineage over the stores. So no lineage has a third text.
abbrev pub IsItsText : Type 0
IsItsText =
    (stores : List (List ℕ)) (text : List ℕ) (ids : List WriteId) → read_lineage stores text ≡ Ok ids
    → IsOver stores ids × ((text ≡ lineage_text stores ids) ⊎ (text ≡ lineage_text_one stores ids))
