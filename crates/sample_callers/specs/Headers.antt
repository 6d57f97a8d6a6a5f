-- Headers: texts of lineages, as a program outside takes and gives them.
use Rattle.std.specs.Prelude.{◌≡◌, ℕ, ◌<◌, List, length, Ok, Err}
use Rattle.anti_ids.specs.Ids.{with_id, with_ids}
use Rattle.anti_ids.specs.List.{Listed, plain}
use Rattle.anti_ids.specs.declared.id.WriteId.{WriteId}
use Rattle.anti_ids.specs.declared.limits.TheConstants.{MOST_IDS}
use Rattle.anti_ids.specs.declared.lineage.LineageRefused.{LineageRefused}
use Rattle.anti_ids.specs.declared.lineage.LineageRefused.TheVariants as refusals
use Rattle.anti_baggage.specs.Reading.{read_lineage}
use Rattle.anti_baggage.specs.Texts.{lineage_text}
use Rattle.anti_baggage.specs.declared.fault.BaggageFault.{BaggageFault}
use Rattle.anti_baggage.specs.declared.fault.BaggageFault.TheVariants as faults
use Rattle.sample_callers.specs.declared.baggage.HeaderFault.{HeaderFault}
use Rattle.sample_callers.specs.declared.baggage.HeaderFault.TheVariants.{Unread, Full, NoMemory}

-- the fault of a text that was not read
abbrev pub of_reading : BaggageFault → HeaderFault
of_reading faults.NoMemory = NoMemory
of_reading fault = Unread fault

-- the fault of a lineage to which nothing was added
abbrev pub of_adding : LineageRefused → HeaderFault
of_adding refusals.Full = Full
of_adding refusals.NoMemory = NoMemory

-- The header states a lineage, and the text is that of the lineage with one more id.
pub record HasWrite (stores : List (List ℕ)) (header : List ℕ) (id : WriteId) (text : Listed ℕ) : Type 0 where
  pub ids : List WriteId
  pub stated : read_lineage stores header ≡ Ok ids
  pub text_is : text ≡ plain (lineage_text stores (with_id id ids))

-- The header states a lineage that has no room for the id.
pub record IsTooMany (stores : List (List ℕ)) (header : List ℕ) (id : WriteId) : Type 0 where
  pub ids : List WriteId
  pub stated : read_lineage stores header ≡ Ok ids
  pub many : MOST_IDS < length (with_id id ids)

-- Each fault has its cause in the header; want of memory is free.
abbrev pub IsCause : List (List ℕ) → List ℕ → WriteId → HeaderFault → Type 0
IsCause stores header id (Unread fault) = read_lineage stores header ≡ Err fault
IsCause stores header id Full = IsTooMany stores header id
IsCause stores header id NoMemory = Unit {0}

-- The text states a lineage, and its ids were added to those that were carried.
pub record Joins (stores : List (List ℕ)) (text : List ℕ) (old new : List WriteId) : Type 0 where
  pub ids : List WriteId
  pub stated : read_lineage stores text ≡ Ok ids
  pub joined : new ≡ with_ids ids old

-- The text states a lineage that is too much for those that were carried.
pub record IsTooMuch (stores : List (List ℕ)) (text : List ℕ) (carried : List WriteId) : Type 0 where
  pub ids : List WriteId
  pub stated : read_lineage stores text ≡ Ok ids
  pub many : MOST_IDS < length (with_ids ids carried)

-- Each fault has its cause in the text and in what was carried; want of memory is free.
abbrev pub IsJoinCause : List (List ℕ) → List ℕ → List WriteId → HeaderFault → Type 0
IsJoinCause stores text carried (Unread fault) = read_lineage stores text ≡ Err fault
IsJoinCause stores text carried Full = IsTooMuch stores text carried
IsJoinCause stores text carried NoMemory = Unit {0}
