-- For what somebody may sleep at an object.
use Rattle.std.specs.Prelude.{◌≡◌, ℕ, ◌+◌, ◌*◌, Bool, true, Contains, slice_index_or}
use Rattle.std.specs.BTreeSet.{BTreeSet, keys}
use Rattle.anti_kind.specs.declared.awaited.Awaited.{Awaited}
use Rattle.anti_kind.specs.declared.awaited.Awaited.TheVariants.{Delivery, Handout, Reply, Version, Writing}
use Rattle.anti_agenda.specs.declared.marks.Marks.{Marks}
use Rattle.anti_agenda.specs.declared.marks.TheConstants.{MOST_OBJECTS}
use Rattle.anti_agenda.specs.declared.offer.Sleeper.{Sleeper}

abbrev pub kind : Awaited → ℕ
kind Delivery = 0
kind (Reply number) = 1
kind (Handout sub) = 2
kind (Version region version) = 3
kind Writing = 4

-- where the mark of a kind stands for an object
abbrev pub place : ℕ → Awaited → ℕ
place object awaited = kind awaited * MOST_OBJECTS + object

-- where there is room for no mark it counts as marked
abbrev pub is_marked : Marks → ℕ → Awaited → Bool
is_marked marks object awaited = slice_index_or marks.at (place object awaited) true

-- the mark is there, with those that were
pub record MarksOne (object : ℕ) (awaited : Awaited) (old new : Marks) : Type 0 where
  pub is : is_marked new object awaited ≡ true
  pub still : (at : ℕ) (what : Awaited) → is_marked old at what ≡ true → is_marked new at what ≡ true

-- a mark stands for each who sleeps
abbrev pub AreMarked : BTreeSet Sleeper → Marks → Type 0
AreMarked asleep marks = (one : Sleeper) → Contains (keys asleep) one → is_marked marks one.object one.awaited ≡ true
