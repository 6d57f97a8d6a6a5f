-- Lineages as texts, over the names of the stores.
use Rattle.std.specs.Prelude.{ℕ, nat_le, cond, List, length, map, Option, None, Some, Result, Ok, Err}
use Rattle.std.specs.List.{find}
use Rattle.anti_ids.specs.Ids.{with_ids}
use Rattle.anti_ids.specs.List.{Listed, plain}
use Rattle.anti_ids.specs.declared.id.WriteId.{WriteId}
use Rattle.anti_ids.specs.declared.limits.TheConstants.{MOST_IDS}
use Rattle.anti_baggage.specs.Reading.{read_lineage}
use Rattle.anti_baggage.specs.Texts.{lineage_text}
use Rattle.anti_baggage.specs.declared.fault.BaggageFault.{BaggageFault}
use Rattle.anti_live.specs.declared.headers.CarryFault.{CarryFault}
use Rattle.anti_live.specs.declared.headers.CarryFault.TheVariants as faults
use Rattle.anti_live.specs.declared.headers.CarryOutFault.{CarryOutFault}
use Rattle.anti_live.specs.declared.headers.CarryOutFault.TheVariants.{NoStore}
use Rattle.anti_live.specs.declared.stores.LiveStore.{LiveStore}

abbrev pub names_of : List LiveStore → List (List ℕ)
names_of stores = map (λ s. s.name) stores

-- The text of a lineage, or the first of its ids whose store is not there.

abbrev pub text_unless : Option WriteId → List (List ℕ) → List WriteId → Result (Listed ℕ) CarryOutFault
text_unless (Some id) names lineage = Err (NoStore id)
text_unless None names lineage = Ok (plain (lineage_text names lineage))

abbrev pub carried_out : List LiveStore → List WriteId → Result (Listed ℕ) CarryOutFault
carried_out stores lineage = text_unless (find (λ id. nat_le (length stores) id.store) lineage) (names_of stores) lineage

-- What is carried with the lineage of a text, or the fault of the text, or that these are too many ids.

abbrev pub few_enough : List WriteId → Result (List WriteId) CarryFault
few_enough ids = cond (nat_le (length ids) MOST_IDS) (Ok ids) (Err faults.Full)

abbrev pub union_with : List WriteId → Result (List WriteId) BaggageFault → Result (List WriteId) CarryFault
union_with carried (Err fault) = Err (faults.Bad fault)
union_with carried (Ok ids) = few_enough (with_ids ids carried)

abbrev pub carried_in : List LiveStore → List ℕ → List WriteId → Result (List WriteId) CarryFault
carried_in stores bytes carried = union_with carried (read_lineage (names_of stores) bytes)
