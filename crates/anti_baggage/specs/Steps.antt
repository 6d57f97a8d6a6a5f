-- The steps of reading a text.
use Rattle.std.specs.Prelude.{◌≡◌, ℕ, ◌+◌, ◌-◌, List, [], ◌∷◌, ◌++◌, length, slice_get, Option, Result, Ok, Err}
use Rattle.anti_ids.specs.Answers.{AnswersBut}
use Rattle.anti_ids.specs.declared.id.WriteId.{WriteId}
use Rattle.anti_baggage.specs.declared.fault.BaggageFault.{BaggageFault}
use Rattle.anti_baggage.specs.declared.fault.BaggageFault.TheVariants.{NoMemory}
use Rattle.anti_baggage.specs.declared.named_id.Named.{Named as Found}
use Rattle.anti_baggage.specs.declared.place.Place.{Place}
use Rattle.anti_baggage.specs.Reading.{Named, id_in, ids_in}

-- what was found, as the definitions say it
abbrev pub as_named : Found → Named
as_named found = record { store = found.store; key = found.key; version = found.version }

-- the last of ids
abbrev pub last_of : List WriteId → Option WriteId
last_of ids = slice_get ids (length ids - 1)

-- Ids are followed by the id that a piece is, or it is none that may follow them; want of memory is free.
abbrev pub Adds : {X : Type 0} → List (List ℕ) → Place × List ℕ → List WriteId → List WriteId → Result X BaggageFault → Type 0
Adds stores piece old new (Ok _) = (id : WriteId) × (id_in stores (last_of old) (length old + 1) piece ≡ Ok id) × (new ≡ old ++ id ∷ [])
Adds stores piece old new (Err fault) = AnswersBut NoMemory (Err fault) (id_in stores (last_of old) (length old + 1) piece)

-- ids before those that were read
abbrev pub with_front : List WriteId → Result (List WriteId) BaggageFault → Result (List WriteId) BaggageFault
with_front front (Ok ids) = Ok (front ++ ids)
with_front front (Err fault) = Err fault

-- ids, and those behind them that pieces are
abbrev pub read_behind : List (List ℕ) → List WriteId → List (Place × List ℕ) → Result (List WriteId) BaggageFault
read_behind stores ids pieces = with_front ids (ids_in stores (last_of ids) (length ids + 1) pieces)

-- Ids are followed by those that pieces are, whatever pieces come behind, or one of them is none that may follow; want of memory is free.
abbrev pub AddsAll : {X : Type 0} → List (List ℕ) → List (Place × List ℕ) → List WriteId → List WriteId → Result X BaggageFault → Type 0
AddsAll stores pieces old new (Ok _) =
    (rest : List (Place × List ℕ)) → read_behind stores old (pieces ++ rest) ≡ read_behind stores new rest
AddsAll stores pieces old new (Err fault) =
    (rest : List (Place × List ℕ)) → AnswersBut NoMemory (Err fault) (read_behind stores old (pieces ++ rest))
