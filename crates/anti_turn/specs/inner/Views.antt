-- What is kept of each seat, what contracts see of it, and how it is counted.
use Rattle.std.specs.Prelude.{◌≡◌, ℕ, ◌+◌, Bool, true, false, if◌then◌else◌, List, [], ◌∷◌, length, Option, None, Some, option_to_list}
use Rattle.atomic_table.specs.Seated.{TableId}
use Rattle.anti_turn.specs.declared.view.Recall.{Recall}
use Rattle.anti_turn.specs.declared.view.View.{View}
use Rattle.anti_turn.specs.Lists.{times}
use Rattle.anti_turn.specs.Places.{Place}

abbrev pub bit : Bool → ℕ
bit true = 1
bit false = 0

-- the sum of a number over all views
abbrev pub total : {V : Type 0} → (V → ℕ) → List V → ℕ
total f [] = 0
total f (v ∷ vs) = f v + total f vs

abbrev pub blank_recall : {E : Type 0} → Recall E
blank_recall = record { seen = []; numbers = [] }

module _ {E F : Type 0} where
  -- a seat of which nothing is under way
  abbrev pub new_view : ℕ → ℕ → List E → Option F → View E F
  new_view number room seen fixed = record {
    live = true;
    holds = false;
    alone = false;
    seen = seen;
    fixed = fixed;
    number = number;
    ended = [];
    drawn = None;
    owed = 0;
    room = room;
    visits = 0;
    asked = 0;
    out = 0;
    raised = [];
    loaded = [];
    loads = [];
    host = blank_recall;
    guest = blank_recall;
  }

  abbrev pub first_view : F → View E F
  first_view part = new_view 1 4294967294 [] (Some part)

  -- what a join leaves of the seat that it takes in
  abbrev pub spent_view : View E F
  spent_view = record {
    live = false;
    holds = false;
    alone = false;
    seen = [];
    fixed = None;
    number = 0;
    ended = [];
    drawn = None;
    owed = 0;
    room = 0;
    visits = 0;
    asked = 0;
    out = 0;
    raised = [];
    loaded = [];
    loads = [];
    host = blank_recall;
    guest = blank_recall;
  }

  -- the numbers under which its entries stand
  abbrev pub view_numbers : View E F → List ℕ
  view_numbers v = if v.live then (v.number ∷ v.ended) else []

  -- how often a number is one of these
  abbrev pub times_owned : ℕ → View E F → ℕ
  times_owned n v = times n (view_numbers v)

  abbrev pub drawn_of : View E F → List ℕ
  drawn_of v = option_to_list v.drawn

  -- how often a number is one of these, or drawn
  abbrev pub times_claimed : ℕ → View E F → ℕ
  times_claimed n v = times_owned n v + times n (drawn_of v)

  -- how many seats it stands for in the count of seats out
  abbrev pub weight : View E F → ℕ
  weight v = bit v.live + (length (drawn_of v) + v.owed)

  abbrev pub room_of : View E F → ℕ
  room_of v = v.room

  abbrev pub place_of : TableId → View E F → Place E F
  place_of id v = record {
    id = id;
    number = v.number;
    room = v.room;
    holds = v.holds;
    seen = v.seen;
    ended = v.ended;
    fixed = v.fixed;
    alone = v.alone;
    visits = v.visits;
    asked = v.asked;
    out = v.out;
    raised = v.raised;
    loaded = v.loaded;
    loads = v.loads;
  }

-- Nothing is under way: no number is drawn, and each seat that was joined is counted out.
pub record IsAtRest {E F : Type 0} (v : View E F) : Type 0 where
  pub live : v.live ≡ true
  pub drawn : v.drawn ≡ None
  pub owed : v.owed ≡ 0
  pub host : v.host ≡ blank_recall
  pub guest : v.guest ≡ blank_recall
