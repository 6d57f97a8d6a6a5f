-- What a text is known to state, beside it.
use Rattle.std.specs.Prelude.{◌≡◌, ℕ, List, Option, IfSome, Ok}
use Rattle.std.specs.Arc.{arc_value}
use Rattle.std.specs.declared.alloc.Global.{Global}
use Rattle.std.specs.declared.sync.Arc.{Arc}
use Rattle.anti_ids.specs.List.{Listed}
use Rattle.anti_ids.specs.declared.id.WriteId.{WriteId}
use Rattle.anti_baggage.specs.Reading.{read_lineage}
use Rattle.anti_baggage.specs.Texts.{lineage_text, lineage_text_one}
use Rattle.anti_baggage.specs.declared.held.Held.{Held}
use Rattle.anti_baggage.specs.declared.held.Held.TheVariants.{Alone, Known}
use Rattle.anti_baggage.specs.declared.held.Stated.{Stated}

-- over names, what is kept is the text of version 2 of its lineage, and states it; beside it may be that of version 1
pub record StatesOver (stores : List (List ℕ)) (kept : Stated) : Type 0 where
  pub states : read_lineage stores kept.text.items ≡ Ok kept.lineage
  pub is : kept.text.items ≡ lineage_text stores kept.lineage
  pub one : IfSome kept.text_one (λ text. text.items ≡ lineage_text_one stores kept.lineage)

-- the text has no room, and is that of the lineage over the names
abbrev pub IsStated : Stated → Type 0
IsStated kept = (kept.text.spare ≡ 0) × StatesOver kept.stores.items kept

-- the text that is held
abbrev pub text_of : Held → Listed ℕ
text_of (Alone text) = text
text_of (Known kept) = (arc_value kept).text

abbrev pub IsHeld : Held → Type 0
IsHeld (Alone text) = Unit {0}
IsHeld (Known kept) = IsStated (arc_value kept)

-- what is kept is a text of this lineage
abbrev pub IsTextOf : List WriteId → Arc Stated Global → Type 0
IsTextOf ids kept = IsStated (arc_value kept) × ((arc_value kept).lineage ≡ ids)

abbrev pub IsHeldOf : List WriteId → Held → Type 0
IsHeldOf ids (Alone text) = Unit {0}
IsHeldOf ids (Known kept) = IsTextOf ids kept

abbrev pub IsTold : List WriteId → Option (Arc Stated Global) → Type 0
IsTold ids told = IfSome told (λ kept. IsTextOf ids kept)
