-- What each step makes of a seat's view, and what it tells.
use Rattle.std.specs.Prelude.{◌≡◌, ◌≢◌, ℕ, ◌+◌, ◌-◌, ◌/◌, ◌%◌, ◌<◌, ◌≤◌, ◌==◌, true, false, List, [], ◌∷◌, ◌++◌, Option, None, Some, unwrap_or}
use Rattle.atomic_table.specs.Table.{Me, Step}
use Rattle.anti_turn.specs.declared.view.Recall.{Recall}
use Rattle.anti_turn.specs.declared.view.View.{View}
use Rattle.anti_turn.specs.Lists.{times, top, longer_of, entries_of, GoesOn}
use Rattle.anti_turn.specs.inner.Views.{blank_recall, new_view, view_numbers, weight}

-- a seat's view, and the slot, where it has taken that out
abbrev pub Hand : Type 0 → Type 0 → Type 0 → Type 0
Hand T E F = Me (Option T) (View E F)

module _ {E F : Type 0} where
  -- the turn is taken
  abbrev pub taken_view : View E F → List E → View E F
  taken_view v found = record v { holds = true; seen = found }

  -- the turn is freed
  abbrev pub freed_view : View E F → List E → View E F
  freed_view v given = record v { holds = false; seen = given; visits = v.visits + 1 }

  -- the count is raised, and a number drawn
  abbrev pub raised_view : View E F → ℕ → View E F
  raised_view v number = record v { drawn = Some number; room = v.room - 1; alone = false }

  -- a seat is split: what stays of its view, and the view of the new one
  abbrev pub rest_view : View E F → View E F
  rest_view v = record v { drawn = None; room = v.room - v.room / 2; alone = false }

  abbrev pub split_view : View E F → View E F
  split_view v = record (new_view (unwrap_or v.drawn 0) (v.room / 2) v.seen v.fixed) { raised = v.raised; loaded = v.loaded }

  abbrev pub recall_of : View E F → Recall E
  recall_of v = record { seen = v.seen; numbers = v.number ∷ v.ended }

  -- a seat is joined into another
  abbrev pub joined_view : View E F → View E F → View E F
  joined_view v u = record v {
    seen = longer_of v.seen u.seen;
    ended = v.ended ++ u.number ∷ u.ended;
    room = v.room + u.room;
    owed = v.owed + 1;
    alone = false;
    raised = v.raised ++ u.raised;
    loaded = v.loaded ++ u.loaded;
    host = recall_of v;
    guest = recall_of u;
  }

  -- the count is lowered
  abbrev pub lowered_view : View E F → View E F
  lowered_view v = record v { owed = v.owed - 1; host = blank_recall; guest = blank_recall }

  -- the count is loaded
  abbrev pub asked_view : View E F → ℕ → View E F
  asked_view v count = record v { asked = v.asked + 1; out = count; alone = count == 1 }

  -- what is noted of marks
  abbrev pub noted_view : View E F → List (ℕ × ℕ) → List (ℕ × ℕ) → List ℕ → View E F
  noted_view v raised loaded loads = record v { raised = raised; loaded = loaded; loads = loads }

  -- a mark is raised
  abbrev pub marked_view : View E F → ℕ → ℕ → View E F
  marked_view v word n = noted_view v ((word, n) ∷ v.raised) v.loaded v.loads

  -- a mark is loaded
  abbrev pub looked_view : View E F → ℕ → ℕ → View E F
  looked_view v word n = noted_view v v.raised ((word, n) ∷ v.loaded) (word ∷ v.loads)

module _ {T E F : Type 0} where
  module _ (list : T → List E) (by : E → ℕ) (fixed : T → F) (mark : F → ℕ → List E → ℕ) where
    -- The turn was free: it is taken, and the value with it.
    abbrev pub Takes : Hand T E F → Hand T E F → Type 0
    Takes m m' = (x : T)
        × (m' ≡ (taken_view m.0 (list x), (0, Some x) ∷ m.1))
        × GoesOn by (view_numbers m.0) m.0.seen (list x)
        × (m.0.fixed ≡ Some (fixed x))
        × ((word : ℕ) → top word m.0.loaded ≤ mark (fixed x) word (list x))

    abbrev pub Tries : Step (Option T) → Hand T E F → ℕ → Hand T E F → Type 0
    Tries st m n m' = (n ≡ 0 → Takes m m') × (n ≢ 0 → m' ≡ m)

  -- The turn is free, and the slot has the value again that was put into it.
  abbrev pub Frees : (T → List E) → Step (Option T) → Hand T E F → ℕ → Hand T E F → Type 0
  Frees list st m n m' = (x : T) → m.1 ≡ (0, Some x) ∷ [] → m' ≡ (freed_view m.0 (list x), [])

  -- A seat more is out, and none had the number that was drawn, nor has an entry it.
  abbrev pub Raises : (E → ℕ) → Step (Option T) → Hand T E F → ℕ → Hand T E F → Type 0
  Raises by st m n m' =
      (m' ≡ (raised_view m.0 (n / 4294967296 + 1), m.1))
      × (n / 4294967296 + 1 < 4294967296)
      × (times (n / 4294967296 + 1) (view_numbers m.0) ≡ 0)
      × (entries_of by (n / 4294967296 + 1) m.0.seen ≡ [])

  -- A seat less is out. Now the seat knows what came of the join.
  abbrev pub Lowers : (E → ℕ) → Step (Option T) → Hand T E F → ℕ → Hand T E F → Type 0
  Lowers by st m n m' =
      (m' ≡ (lowered_view m.0, m.1))
      × (m.0.room ≤ 4294967294)
      × GoesOn by m.0.host.numbers m.0.host.seen m.0.seen
      × GoesOn by m.0.guest.numbers m.0.guest.seen m.0.seen
      × ((k : ℕ) → times k (view_numbers m.0) ≤ 1)

  -- The seat knows how many are out. It is one of them, and the only one where it was alone.
  abbrev pub Counts : Step (Option T) → Hand T E F → ℕ → Hand T E F → Type 0
  Counts st m n m' =
      (m' ≡ (asked_view m.0 (n % 4294967296), m.1))
      × (0 < n % 4294967296)
      × (m.0.alone ≡ true → weight m.0 ≡ 1 → n % 4294967296 ≡ 1)

  -- A mark is raised, and the seat notes it. Before the marks stand two words.
  abbrev pub MarksUp : Step (Option T) → Hand T E F → ℕ → Hand T E F → Type 0
  MarksUp st m n m' = m' ≡ (marked_view m.0 (st.word - 2) st.first, m.1)

  -- A mark is loaded, and the seat notes it. It is at least what the seat raised it to, and the list that stands has reached it.
  abbrev pub LooksUp : (E → ℕ) → (F → ℕ → List E → ℕ) → Step (Option T) → Hand T E F → ℕ → Hand T E F → Type 0
  LooksUp by mark st m n m' =
      (m' ≡ (looked_view m.0 (st.word - 2) n, m.1))
      × (top (st.word - 2) m.0.raised ≤ n)
      × ((part : F) × (all : List E) × (m.0.fixed ≡ Some part) × GoesOn by (view_numbers m.0) m.0.seen all × (n ≤ mark part (st.word - 2) all))
