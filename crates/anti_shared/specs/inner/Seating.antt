-- How a pass stands for its seat in the turn.
use Rattle.std.specs.Prelude.{◌≡◌, ℕ, ◌<◌, ◌≤◌, false, List, map, Option, None, Some}
use Rattle.anti_kind.specs.declared.entry.Entry.{Entry}
use Rattle.anti_kind.specs.Objects.{Start, IsLegal}
use Rattle.anti_turn.specs.Lists.{times}
use Rattle.anti_turn.specs.Places as turn
use Rattle.anti_turn.specs.Places.{Place, Round, TableId}
use Rattle.anti_shared.specs.Passes.{Identity, SharedView, PassView, calls_of}
use Rattle.anti_shared.specs.inner.Marks.{AreNoted, AreTold}

-- an ended pass, with its entries in what is seen
abbrev pub ended_in : List Entry → ℕ → ℕ × List Entry
ended_in seen number = (number, calls_of number seen)

module _ {M : Type 0} where
  -- what never changes: the object and its first state
  abbrev pub identity : TableId → ℕ × M → Identity M
  identity id part = record { turn = id; object = part.0; first = Some part.1 }

  -- a seat always knows it
  abbrev pub known : TableId → Option (ℕ × M) → Identity M
  known id (Some part) = identity id part
  known id None = record { turn = id; object = 0; first = None }

  abbrev pub shared_of : Round (ℕ × M) → SharedView M
  shared_of round = record { id = identity round.id round.fixed }

  abbrev pub pass_of : Place Entry (ℕ × M) → PassView M
  pass_of seat = record {
    id = known seat.id seat.fixed;
    number = seat.number;
    room = seat.room;
    seen = seat.seen;
    mine = calls_of seat.number seat.seen;
    ended = map (ended_in seat.seen) seat.ended;
    alone = seat.alone;
    visits = seat.visits;
    asked = seat.asked;
    out = seat.out;
    raised = seat.raised;
    loaded = seat.loaded;
    loads = seat.loads;
  }

-- The seat knows the object, has not the turn, and has seen a legal history. Its numbers differ. It has raised the mark of each region as far
-- as the history has got, and that is kept beside it.
pub record IsSeated {M : Type 0} (start : M → Start) (seat : Place Entry (ℕ × M)) (kept : List ℕ) : Type 0 where
  pub part : ℕ × M
  pub part_is : seat.fixed ≡ Some part
  pub free : seat.holds ≡ false
  pub legal : IsLegal (start part.1) seat.seen
  pub positive : 0 < seat.number
  pub distinct : (n : ℕ) → times n (turn.numbers_of seat) ≤ 1
  pub told : AreTold (start part.1) seat.seen seat.raised
  pub noted : AreNoted kept seat.raised
