-- The histories of objects, of which a trace is made and which go on as it does.
use Rattle.std.specs.Prelude.{◌<◌, ◌≡◌, List, All, ℕ, ◌++◌}
use Rattle.std.specs.List.{AllPairs, flat_map}
use Rattle.anti_ids.specs.List.{Listed}
use Rattle.anti_kind.specs.declared.entry.Entry.{Entry}
use Rattle.anti_trace.specs.Traces.{entries_on}

-- a trace or a history, by its entries
abbrev pub Entries : Type 0
Entries = List Entry

-- the history of each object goes on from what it was
abbrev pub GoesOn : List Entry → List Entry → Type 0
GoesOn before after = (o : ℕ) → (rest : List Entry) × (entries_on o after ≡ entries_on o before ++ rest)

-- a list of entries on one object, whose stamps ascend
abbrev pub IsHistory : List Entry → Type 0
IsHistory h = AllPairs (λ d e. (d.object ≡ e.object) × (d.stamp < e.stamp)) h

-- no entry of the one is on the object of the other
abbrev pub AreApart : List Entry → List Entry → Type 0
AreApart g h = All (λ d. All (λ e. d.object ≡ e.object → ⊥) h) g

-- each is the history of one object, and no two are of the same
pub record AreHistories (histories : List (Listed Entry)) : Type 0 where
  pub each : All (λ h. IsHistory h.items) histories
  pub apart : AllPairs (λ g h. AreApart g.items h.items) histories

-- their entries, one history behind the other
abbrev pub all_entries : List (Listed Entry) → List Entry
all_entries histories = flat_map (λ h. h.items) histories
