-- What is kept under the turn.
use Rattle.std.specs.Prelude.{◌≡◌, ℕ, List, All}
use Rattle.anti_kind.specs.declared.entry.Entry.{Entry}
use Rattle.anti_kind.specs.Objects.{Start}
use Rattle.anti_kind.specs.Lones.{IsNumbered}

-- each entry is of the object
abbrev pub AreOf : ℕ → List Entry → Type 0
AreOf object h = All (λ e. e.object ≡ object) h

-- The object's number is that of its start, which is the start of its first state, and its history is its own.
pub record IsKept (start first : Start) (object : ℕ) (history : List Entry) : Type 0 where
  pub same : start ≡ first
  pub numbered : IsNumbered first object
  pub own : AreOf object history
