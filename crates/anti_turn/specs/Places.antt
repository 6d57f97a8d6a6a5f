-- What contracts see of a turn and of a seat, and what the calls make of them.
use Rattle.std.specs.Prelude.{◌≡◌, ℕ, ◌+◌, ◌-◌, ◌/◌, ◌<◌, ◌≤◌, ◌==◌, Bool, true, false, List, [], ◌∷◌, ◌++◌, Option, Some, All}
pub use Rattle.atomic_table.specs.Seated.{TableId}
use Rattle.anti_turn.specs.Lists.{times, longer_of, entries_of, GoesOn}

-- A turn.
pub record Round (F : Type 0) : Type 0 where
  -- which one it is
  pub id : TableId
  -- what never changes of its value
  pub fixed : F

-- A seat.
pub record Place (E F : Type 0) : Type 0 where
  -- the turn that it is of
  pub id : TableId
  pub number : ℕ
  -- how many seats may still be made from it
  pub room : ℕ
  -- whether it has the turn
  pub holds : Bool
  -- the list, as far as it has seen it
  pub seen : List E
  -- the numbers of the seats that were joined into it, and of those that had been joined into these
  pub ended : List ℕ
  -- what never changes of the turn's value; there always is some
  pub fixed : Option F
  -- whether no other seat was out when it asked, and it was neither split nor joined with another since
  pub alone : Bool
  -- how often it gave the turn back
  pub visits : ℕ
  -- how often it asked how many seats are out, and the last answer
  pub asked : ℕ
  pub out : ℕ
  -- to what it raised marks, and what it loaded of them: each mark, and the number beside it
  pub raised : List (ℕ × ℕ)
  pub loaded : List (ℕ × ℕ)
  -- the marks that it loaded, each as often as it did
  pub loads : List ℕ

module _ {E F : Type 0} where
  -- its own number, and those of the seats that were joined into it
  abbrev pub numbers_of : Place E F → List ℕ
  numbers_of seat = seat.number ∷ seat.ended

  -- a seat that has done nothing
  abbrev pub fresh_seat : TableId → ℕ → ℕ → List E → Option F → Place E F
  fresh_seat id number room seen fixed = record {
    id = id;
    number = number;
    room = room;
    holds = false;
    seen = seen;
    ended = [];
    fixed = fixed;
    alone = false;
    visits = 0;
    asked = 0;
    out = 0;
    raised = [];
    loaded = [];
    loads = [];
  }

  -- a seat that is made from another, with what that one has seen, raised and loaded
  abbrev pub made_seat : Place E F → ℕ → ℕ → Place E F
  made_seat old number room = record (fresh_seat old.id number room old.seen old.fixed) { raised = old.raised; loaded = old.loaded }

  -- the first seat, of which all others are made
  abbrev pub first_seat : TableId → F → Place E F
  first_seat id fixed = fresh_seat id 1 4294967294 [] (Some fixed)

  -- the seat with the turn, and with the list that it found
  abbrev pub with_turn : Place E F → List E → Place E F
  with_turn seat found = record seat { holds = true; seen = found }

  -- the seat without the turn, and with the list that it gave back
  abbrev pub without_turn : Place E F → List E → Place E F
  without_turn seat given = record seat { holds = false; seen = given; visits = seat.visits + 1 }

  -- the seat with what it was answered
  abbrev pub with_count : Place E F → ℕ → Place E F
  with_count seat count = record seat { asked = seat.asked + 1; out = count; alone = count == 1 }

  -- the seat with what is left of its room
  abbrev pub with_room : Place E F → ℕ → Place E F
  with_room seat room = record seat { room = room; alone = false }

  -- the seat with what it raised a mark to
  abbrev pub with_raise : Place E F → ℕ → ℕ → Place E F
  with_raise seat word n = record seat { raised = (word, n) ∷ seat.raised }

  -- the seat with what it loaded of a mark
  abbrev pub with_load : Place E F → ℕ → ℕ → Place E F
  with_load seat word n = record seat { loaded = (word, n) ∷ seat.loaded; loads = word ∷ seat.loads }

-- One seat becomes two. One of its room is used up, and the new one gets half of what is left. The new number is none that it knew,
-- and no entry that it has seen has it.
pub record IsSplit {E F : Type 0} (by : E → ℕ) (old rest new : Place E F) : Type 0 where
  pub rest_is : rest ≡ with_room old ((old.room - 1) - (old.room - 1) / 2)
  pub new_is : new ≡ made_seat old new.number ((old.room - 1) / 2)
  pub positive : 0 < new.number
  pub apart : times new.number (numbers_of old) ≡ 0
  pub none : entries_of by new.number old.seen ≡ []

-- Two seats become one, which has seen all that one of the two had, and notes of marks what either did. No further entry of either has
-- come, and their numbers differ.
pub record IsJoined {E F : Type 0} (by : E → ℕ) (into from new : Place E F) : Type 0 where
  pub new_is : new ≡ record into {
    room = into.room + from.room;
    seen = longer_of into.seen from.seen;
    ended = into.ended ++ from.number ∷ from.ended;
    alone = false;
    raised = into.raised ++ from.raised;
    loaded = into.loaded ++ from.loaded;
  }
  pub into_seen : GoesOn by (numbers_of into) into.seen new.seen
  pub from_seen : GoesOn by (numbers_of from) from.seen new.seen
  pub distinct : (n : ℕ) → times n (numbers_of new) ≤ 1

-- The value, at the end: its list is what the seat had seen, and each entry is of the seat's numbers.
pub record IsClosed {T E F : Type 0} (list : T → List E) (by : E → ℕ) (fixed : T → F) (seat : Place E F) (value : T) : Type 0 where
  pub list_is : list value ≡ seat.seen
  pub fixed_is : seat.fixed ≡ Some (fixed value)
  pub own : All (λ e. 0 < times (by e) (numbers_of seat)) (list value)

-- A number that was loaded of a mark: some list that goes on from what the seat had seen has reached it.
pub record IsReached {E F : Type 0} (by : E → ℕ) (mark : F → ℕ → List E → ℕ) (seat : Place E F) (word n : ℕ) : Type 0 where
  pub part : F
  pub part_is : seat.fixed ≡ Some part
  pub whole : List E
  pub goes : GoesOn by (numbers_of seat) seat.seen whole
  pub most : n ≤ mark part word whole
