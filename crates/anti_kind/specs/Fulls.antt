-- The units of an object: what is full stays full.
use Rattle.std.specs.Prelude.{◌≡◌, ℕ, ◌+◌, ◌<◌, ◌≤◌, ◌⊎◌, Bool, true, false, ◌||◌, List, [], ◌∷◌, ◌++◌}
use Rattle.std.specs.List.{list_all}
use Rattle.anti_ids.specs.Invariants.{IsAscending}
use Rattle.anti_ids.specs.declared.id.WriteId.{WriteId}
use Rattle.anti_ids.specs.declared.limits.TheConstants.{MOST_UNITS}
use Rattle.anti_kind.specs.declared.call.Call.{Call}
use Rattle.anti_kind.specs.declared.call.Call.TheVariants.{Write, Read, Scan, Poll, Look, Post}
use Rattle.anti_kind.specs.declared.entry.Entry.{Entry}
use Rattle.anti_kind.specs.declared.message.MessageKind.{MessageKind}
use Rattle.anti_kind.specs.declared.message.MessageKind.TheVariants as kinds
use Rattle.anti_kind.specs.Store.{is_visible}
use Rattle.anti_kind.specs.Objects.{Start, store, inbox, ready, need, held, owed, fits, Follows, IsLegal}
use Rattle.anti_kind.specs.Starts.{IsStart}
use Rattle.anti_kind.specs.Laws.{NeverFalls, ShowsWritten}

-- Held and owed after an entry are what they were before and what its call needed.
abbrev pub UnitsAddUp : Type 0
UnitsAddUp =
    (start : Start) (h : List Entry) (e : Entry) → IsStart start → IsLegal start h → Follows start h e
    → held (h ++ e ∷ []) + owed start (h ++ e ∷ []) ≡ held h + owed start h + need start h e.call

-- They never pass the units of an object.
abbrev pub UnitsSuffice : Type 0
UnitsSuffice = (start : Start) (h : List Entry) → IsStart start → IsLegal start h → held h + owed start h ≤ MOST_UNITS

-- of a store: what its regions show is what was written, and never falls
abbrev pub ShowsStay : Start → Type 0
ShowsStay (store s) = NeverFalls s × ShowsWritten s
ShowsStay (inbox requests) = Unit {0}

-- the lineage that a write hands in is one
abbrev pub HasAscending : Call → Type 0
HasAscending (Write key value lineage) = IsAscending lineage
HasAscending _ = Unit {0}

-- No call that is ready needs less later than it needed before, but where it then needs more than an object has.
abbrev pub NeedNeverFalls : Type 0
NeedNeverFalls =
    (start : Start) (h rest : List Entry) (c : Call) → ShowsStay start → IsLegal start (h ++ rest) → ready start h c ≡ true → HasAscending c
    → (need start h c ≤ need start (h ++ rest) c) ⊎ (MOST_UNITS < need start (h ++ rest) c)

-- What is ready and does not fit never fits later.
abbrev pub FullStaysFull : Type 0
FullStaysFull =
    (start : Start) (h rest : List Entry) (c : Call) → IsStart start → ShowsStay start → IsLegal start (h ++ rest) → ready start h c ≡ true → HasAscending c
    → fits start h c ≡ false → fits start (h ++ rest) c ≡ false

-- whether a look of the ids at the region g would miss none
abbrev pub finds_all : Start → List Entry → ℕ → List WriteId → Bool
finds_all (store s) h g ids = list_all (is_visible s h g) ids
finds_all (inbox requests) h g ids = false

-- whether a post is one that needs units
abbrev pub asks : MessageKind → Bool
asks kinds.Call = true
asks kinds.Send = true
asks _ = false

-- The calls by which a process needs units. A look is one of them where it is dry or misses none.
abbrev pub is_asking : Start → List Entry → Call → Bool
is_asking start h (Write key value lineage) = true
is_asking start h (Read region key) = true
is_asking start h (Scan region prefix) = true
is_asking start h (Poll region key) = true
is_asking start h (Look region ids dry) = dry || finds_all start h region ids
is_asking start h (Post message) = asks message.kind
is_asking start h _ = false

-- Such a call that is ready stays one, and stays ready.
abbrev pub AskingStaysReady : Type 0
AskingStaysReady =
    (start : Start) (h rest : List Entry) (c : Call) → ShowsStay start → IsLegal start (h ++ rest)
    → is_asking start h c ≡ true → ready start h c ≡ true → (is_asking start (h ++ rest) c ≡ true) × (ready start (h ++ rest) c ≡ true)
