-- A port over one object, on one thread.
use Rattle.std.specs.Prelude.{◌≡◌, ℕ, cond, ◌==◌, List, [], All, Option, None, Some}
use Rattle.anti_kind.specs.declared.entry.Entry.{Entry}
use Rattle.anti_kind.specs.Objects.{Start, store, inbox}
use Rattle.anti_kind.specs.Ports.{View}

-- What is seen of such a port: the number of its object, the object's state, the calls that were made on it, and how many calls
-- came to it.
pub record Alone (M : Type 0) : Type 0 where
  pub object : ℕ
  pub machine : M
  pub history : List Entry
  pub visits : ℕ

-- the port has the one object, and what it has seen of it are its own calls
abbrev pub lone_start : {M : Type 0} → (M → Start) → Alone M → ℕ → Option Start
lone_start start alone o = cond (o == alone.object) (Some (start alone.machine)) None

abbrev pub lone_view : {M : Type 0} → Alone M → ℕ → View
lone_view alone o =
    cond (o == alone.object) (record { seen = alone.history; made = alone.history; visits = alone.visits }) (record { seen = []; made = []; visits = 0 })

-- the own number of a start that has one, which is a store, is that of the object
abbrev pub IsNumbered : Start → ℕ → Type 0
IsNumbered (store s) object = s.number ≡ object
IsNumbered (inbox requests) object = Unit {0}

-- the entries are those of the object, and no pass made them
abbrev pub AreOwn : ℕ → List Entry → Type 0
AreOwn object h = All (λ e. (e.object ≡ object) × (e.seat ≡ 0)) h

-- The object's number is that of its start, and its history is its own.
pub record IsLone (start : Start) (object : ℕ) (history : List Entry) : Type 0 where
  pub numbered : IsNumbered start object
  pub own : AreOwn object history
