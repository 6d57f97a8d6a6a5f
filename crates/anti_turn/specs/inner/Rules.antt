-- What is true of a turn between any two steps.
--
-- A turn has ten words and a slot. The first word is 0 where the turn is free. Where a seat has it, it is 2 if another may wait for it, and
-- else 1. The second is the number of seats that were ever made times 2 ^ 32, plus the number of those that are out.
-- Behind these come eight marks. The slot holds the value, unless a seat took it out with the turn.
use Rattle.std.specs.Prelude.{◌≡◌, ◌≢◌, ℕ, ◌+◌, ◌*◌, ◌<◌, ◌≤◌, true, false, List, [], ◌∷◌, length, get_or, Option, Some}
use mathlib.Core.Option as home
use lib.ListN.{get_elem?}
use Rattle.atomic_table.specs.Table.{State}
use Rattle.anti_turn.specs.declared.view.View.{View}
use Rattle.anti_turn.specs.Lists.{top, entries_of, GoesOn}
use Rattle.anti_turn.specs.inner.Views.{total, spent_view, view_numbers, times_claimed, times_owned, weight, room_of}

module _ {E F : Type 0} where
  -- no seat but this one is live
  abbrev pub IsAlone : ℕ → List (View E F) → Type 0
  IsAlone id views = (other : ℕ) (v : View E F) → get_elem? views other ≡ home.some v → other ≢ id → v.live ≡ false

  -- some live seat has seen all of the list
  abbrev pub IsComplete : List E → List (View E F) → Type 0
  IsComplete all views = (id : ℕ) × (v : View E F) × (get_elem? views id ≡ home.some v) × (v.live ≡ true) × (v.seen ≡ all)

  -- the holder has the turn
  abbrev pub HasHolder : ℕ → List (View E F) → Type 0
  HasHolder holder views = (v : View E F) × (get_elem? views holder ≡ home.some v) × (v.holds ≡ true)

-- What is true of the view of a seat, where `all` is the list, and `holder` the seat that has the turn, if one has it.
pub record Knows {E F : Type 0} (by : E → ℕ) (part : F) (turn holder : ℕ) (all : List E) (views : List (View E F)) (id : ℕ) (v : View E F) : Type 0 where
  pub spent_is : v.live ≡ false → v ≡ spent_view
  pub part_is : v.live ≡ true → v.fixed ≡ Some part
  -- it has seen a front of the list, in which all entries of its numbers stand
  pub seen : GoesOn by (view_numbers v) v.seen all
  pub holds : v.holds ≡ true → (id ≡ holder) × (turn ≢ 0) × (v.seen ≡ all)
  pub alone : v.alone ≡ true → IsAlone id views
  -- what a join put together, until the joined seat is counted out
  pub host : GoesOn by v.host.numbers v.host.seen v.seen
  pub guest : GoesOn by v.guest.numbers v.guest.seen v.seen

-- How seats are numbered and counted, where `made` were made and `out` of them are out.
pub record IsCounted {E F : Type 0} (by : E → ℕ) (made out : ℕ) (all : List E) (views : List (View E F)) : Type 0 where
  -- the numbers of seats and those that are drawn differ, and none is above the number of seats made
  pub once : (n : ℕ) → total (times_claimed n) views ≤ 1
  pub below : (n : ℕ) → made < n → total (times_claimed n) views ≡ 0
  -- each entry has the number of a seat
  pub entries : (n : ℕ) → total (times_owned n) views ≡ 0 → entries_of by n all ≡ []
  pub seats : total weight views ≡ out
  pub few : out ≤ made
  -- so many seats can still be made that neither half of the word overflows
  pub rooms : made + total room_of views < 4294967296

-- What is true of the notes of a seat, where the marks are these, and `all` is the list.
pub record IsNoted {E F : Type 0} (mark : F → ℕ → List E → ℕ) (part : F) (marks : List ℕ) (all : List E) (v : View E F) : Type 0 where
  -- no mark is below what the seat raised it to
  pub raised : (word : ℕ) → top word v.raised ≤ get_or marks word 0
  -- the list has reached what it loaded
  pub loaded : (word : ℕ) → top word v.loaded ≤ mark part word all

-- What is true of the marks.
pub record IsMarked {E F : Type 0} (mark : F → ℕ → List E → ℕ) (part : F) (marks : List ℕ) (all : List E) (views : List (View E F)) : Type 0 where
  pub eight : length marks ≡ 8
  -- the list has reached each
  pub under : (word : ℕ) → get_or marks word 0 ≤ mark part word all
  pub noted : (id : ℕ) (v : View E F) → get_elem? views id ≡ home.some v → IsNoted mark part marks all v

module _ {T E F : Type 0} (list : T → List E) (by : E → ℕ) (fixed : T → F) (part : F) where
  -- the slot has the value of the list, of which the fixed part is that of the first value
  abbrev pub IsHome : home.Option (Option T) → List E → Type 0
  IsHome slot all = (x : T) × (slot ≡ home.some (Some x)) × (list x ≡ all) × (fixed x ≡ part)

  pub record Fits (turn holder made out : ℕ) (slot : home.Option (Option T)) (all : List E) (views : List (View E F)) : Type 0 where
    pub complete : IsComplete all views
    pub free : turn ≡ 0 → IsHome slot all
    pub taken : turn ≢ 0 → HasHolder holder views
    pub knows : (id : ℕ) (v : View E F) → get_elem? views id ≡ home.some v → Knows by part turn holder all views id v
    pub counts : IsCounted by made out all views

module _ {T E F : Type 0} (list : T → List E) (by : E → ℕ) (fixed : T → F) (mark : F → ℕ → List E → ℕ) (part : F) where
  pub record IsKept (s : State (Option T) (View E F)) : Type 0 where
    pub turn : ℕ
    pub holder : ℕ
    pub made : ℕ
    pub out : ℕ
    pub slot : home.Option (Option T)
    pub all : List E
    pub marks : List ℕ
    pub words : s.words ≡ turn ∷ (made * 4294967296 + out) ∷ marks
    pub homes : s.homes ≡ slot ∷ []
    pub fits : Fits list by fixed part turn holder made out slot all s.views
    pub marked : IsMarked mark part marks all s.views
