-- What contracts see of a shared object and of a pass, and what the calls make of them.
use Rattle.std.specs.Prelude.{◌≡◌, ℕ, ◌+◌, ◌-◌, ◌/◌, ◌<◌, ◌≤◌, ◌==◌, cond, Bool, false, List, [], ◌∷◌, ◌++◌, map, option_map, All, Option, None, Some}
use Rattle.anti_kind.specs.declared.entry.Entry.{Entry}
use Rattle.anti_kind.specs.Objects.{Start, IsLegal}
use Rattle.anti_kind.specs.Shipments.{upto}
use Rattle.anti_kind.specs.Ports.{View}
use Rattle.anti_turn.specs.Lists.{times, top, longer_of, entries_of, IsFront}
use Rattle.anti_turn.specs.Places.{TableId}

-- Which shared object it is: the turn round it, its number, and the state that it began with. There always is one.
pub record Identity (M : Type 0) : Type 0 where
  pub turn : TableId
  pub object : ℕ
  pub first : Option M

-- A shared object.
pub record SharedView (M : Type 0) : Type 0 where
  pub id : Identity M

-- A pass.
pub record PassView (M : Type 0) : Type 0 where
  -- the shared object that it is of
  pub id : Identity M
  pub number : ℕ
  -- how many passes may still be made from it
  pub room : ℕ
  -- the history, as far as it has seen it
  pub seen : List Entry
  -- the entries of its own calls
  pub mine : List Entry
  -- the passes that were joined into it, and those that had been joined into these: the number of each, and the entries of its calls
  pub ended : List (ℕ × List Entry)
  -- whether no other pass was out when it asked, and it was neither split nor joined with another since
  pub alone : Bool
  -- how often it gave the turn back
  pub visits : ℕ
  -- how often it asked how many passes are out, and the last answer
  pub asked : ℕ
  pub out : ℕ
  -- to what it raised the marks of regions, and what it loaded of them: each region, and the number beside it
  pub raised : List (ℕ × ℕ)
  pub loaded : List (ℕ × ℕ)
  -- the regions whose marks it loaded, each as often as it did
  pub loads : List ℕ

-- What is left of a shared object at its end: its number, the state that it began with, the state, and the calls that were made.
pub record KeptView (M : Type 0) : Type 0 where
  pub object : ℕ
  pub first : M
  pub state : M
  pub history : List Entry

-- the number of the pass that made an entry
abbrev pub seat_of : Entry → ℕ
seat_of e = e.seat

-- the entries of a number, in their order
abbrev pub calls_of : ℕ → List Entry → List Entry
calls_of = entries_of seat_of

abbrev pub ended_number : ℕ × List Entry → ℕ
ended_number pair = pair.0

-- the history is legal from the start that there is
abbrev pub LegalFrom : Option Start → List Entry → Type 0
LegalFrom None h = ⊥
LegalFrom (Some start) h = IsLegal start h

-- how many versions, from the first on, are whole at a region, from the start that there is
abbrev pub upto_from : Option Start → List Entry → ℕ → ℕ
upto_from None h region = 0
upto_from (Some start) h region = upto start h region

-- what the object started as
abbrev pub start_of : {M : Type 0} → (M → Start) → Identity M → Option Start
start_of start id = option_map start id.first

-- its own number, and those of the passes that were joined into it
abbrev pub numbers_of : {M : Type 0} → PassView M → List ℕ
numbers_of pass = pass.number ∷ map ended_number pass.ended

-- what a port over the pass has seen and made
abbrev pub view_of : {M : Type 0} → PassView M → View
view_of pass = record { seen = pass.seen; made = pass.mine; visits = pass.visits }

-- such a port has the one object
abbrev pub port_start : {M : Type 0} → (M → Start) → PassView M → ℕ → Option Start
port_start start pass o = cond (o == pass.id.object) (start_of start pass.id) None

abbrev pub port_view : {M : Type 0} → PassView M → ℕ → View
port_view pass o = cond (o == pass.id.object) (view_of pass) (record { seen = []; made = []; visits = 0 })

-- The history has got as far as each mark that the pass loaded: of the versions up to that number all are whole at the mark's region.
abbrev pub HasLoaded : {M : Type 0} → (M → Start) → PassView M → List Entry → Type 0
HasLoaded start pass h = (region : ℕ) → top region pass.loaded ≤ upto_from (start_of start pass.id) h region

-- What is true of every pass: it has seen a legal history of the object. Its own entries, and those of the passes that were joined into it,
-- are all that the history has of their numbers, which differ. It has raised each mark as far as what it has seen has got.
pub record IsPass {M : Type 0} (start : M → Start) (pass : PassView M) : Type 0 where
  pub legal : LegalFrom (start_of start pass.id) pass.seen
  pub positive : 0 < pass.number
  pub mine_is : pass.mine ≡ calls_of pass.number pass.seen
  pub ended_are : All (λ pair. pair.1 ≡ calls_of pair.0 pass.seen) pass.ended
  pub distinct : (n : ℕ) → times n (numbers_of pass) ≤ 1
  pub told : (region : ℕ) → region < 8 → upto_from (start_of start pass.id) pass.seen region ≤ top region pass.raised

-- a pass that has done nothing
abbrev pub fresh_pass : {M : Type 0} → Identity M → ℕ → ℕ → List Entry → PassView M
fresh_pass id number room seen = record {
  id = id;
  number = number;
  room = room;
  seen = seen;
  mine = [];
  ended = [];
  alone = false;
  visits = 0;
  asked = 0;
  out = 0;
  raised = [];
  loaded = [];
  loads = [];
}

-- a pass that is made from another, with what that one has seen, raised and loaded
abbrev pub made_pass : {M : Type 0} → PassView M → ℕ → ℕ → PassView M
made_pass old number room = record (fresh_pass old.id number room old.seen) { raised = old.raised; loaded = old.loaded }

-- the first pass, of which all others are made
abbrev pub first_pass : {M : Type 0} → Identity M → PassView M
first_pass id = fresh_pass id 1 4294967294 []

-- the pass with what it was answered
abbrev pub with_count : {M : Type 0} → PassView M → ℕ → PassView M
with_count pass count = record pass { asked = pass.asked + 1; out = count; alone = count == 1 }

-- the pass with what is left of its room
abbrev pub with_room : {M : Type 0} → PassView M → ℕ → PassView M
with_room pass room = record pass { room = room; alone = false }

-- the pass with what it loaded of the mark of a region
abbrev pub with_load : {M : Type 0} → PassView M → ℕ → ℕ → PassView M
with_load pass region n = record pass { loaded = (region, n) ∷ pass.loaded; loads = region ∷ pass.loads }

-- the pass after calls: all else stays
abbrev pub after_calls : {M : Type 0} → PassView M → List Entry → List Entry → List (ℕ × ℕ) → ℕ → PassView M
after_calls pass seen mine raised visits = record pass { seen = seen; mine = mine; raised = raised; visits = visits }

-- all of a pass but what calls change
abbrev pub rest_of : {M : Type 0} → PassView M → PassView M
rest_of pass = after_calls pass [] [] [] 0

-- the pass after one call: it has given the turn back once more
abbrev pub after_call : {M : Type 0} → PassView M → List Entry → List Entry → List (ℕ × ℕ) → PassView M
after_call pass seen mine raised = after_calls pass seen mine raised (pass.visits + 1)

-- One pass becomes two. One of its room is used up, and the new one gets half of what is left. The new one has seen, raised and loaded the
-- same, and has made no call. Its number is none that the other knew.
pub record IsSplit {M : Type 0} (old rest new : PassView M) : Type 0 where
  pub rest_is : rest ≡ with_room old ((old.room - 1) - (old.room - 1) / 2)
  pub new_is : new ≡ made_pass old new.number ((old.room - 1) / 2)
  pub positive : 0 < new.number
  pub apart : times new.number (numbers_of old) ≡ 0

-- Two passes become one, which has seen all that one of the two had, and notes of marks what either did. The calls of the one that is given
-- up stand behind those that had ended.
pub record IsJoined {M : Type 0} (into from new : PassView M) : Type 0 where
  pub new_is : new ≡ record into {
    room = into.room + from.room;
    seen = longer_of into.seen from.seen;
    ended = into.ended ++ (from.number, from.mine) ∷ from.ended;
    alone = false;
    raised = into.raised ++ from.raised;
    loaded = into.loaded ++ from.loaded;
  }
  pub into_seen : IsFront into.seen new.seen
  pub from_seen : IsFront from.seen new.seen
  pub distinct : (n : ℕ) → times n (numbers_of new) ≤ 1

-- What is left at the end: its history is what the pass had seen, each entry is of the pass's numbers, and it has got as far as each mark
-- that the pass loaded.
pub record IsClosed {M : Type 0} (start : M → Start) (pass : PassView M) (kept : KeptView M) : Type 0 where
  pub object_is : kept.object ≡ pass.id.object
  pub first_is : pass.id.first ≡ Some kept.first
  pub history_is : kept.history ≡ pass.seen
  pub own : All (λ e. 0 < times e.seat (numbers_of pass)) kept.history
  pub loaded : HasLoaded start pass kept.history
  pub knows : IsPass start pass
