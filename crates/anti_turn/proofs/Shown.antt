-- What contracts see, from what the steps tell.
use Rattle.std.proofs.Common.{◌≡◌, ℕ, ◌<◌, ◌≤◌, true, List, [], ◌∷◌, Option, Some, All, sym, refl, ap, ◌∙◌, subst}
use mathlib.Core.Option as home
use Rattle.anti_turn.specs.declared.view.View.{View}
use Rattle.anti_turn.specs.Lists.{times, top, longer_of, GoesOn}
use Rattle.anti_turn.specs.Places.{TableId, Place, numbers_of, with_count, IsJoined, IsClosed}
use Rattle.anti_turn.specs.inner.Views.{view_numbers, place_of}
use Rattle.atomic_table.specs.Table.{rest, step}
use Rattle.anti_turn.specs.inner.Seats.{held_slots, Sits}
use Rattle.anti_turn.specs.inner.Steps.{Hand, Takes, freed_view, joined_view, lowered_view, Lowers}
use Rattle.anti_turn.proofs.Counting.{live_numbers}

module _ {E F : Type 0} (by : E → ℕ) where
  joined_views : (id other : TableId) (v u : View E F) → v.live ≡ true
      → GoesOn by (v.number ∷ v.ended) v.seen (longer_of v.seen u.seen) → GoesOn by (u.number ∷ u.ended) u.seen (longer_of v.seen u.seen)
      → ((k : ℕ) → times k (view_numbers (joined_view v u)) ≤ 1)
      → IsJoined by (place_of id v) (place_of other u) (place_of id (lowered_view (joined_view v u)))
  joined_views id other v u live into_seen from_seen once = record {
    new_is = refl;
    into_seen = into_seen;
    from_seen = from_seen;
    distinct = λ k. subst (λ (ns : List ℕ). times k ns ≤ 1) (live_numbers (joined_view v u) live) (once k);
  }

module _ {T E F : Type 0} (by : E → ℕ) where
  -- what the step that counts the joined seat out tells of the join
  pub joined_place : (id other after : TableId) (v u : View E F) (into from : Place E F) (slots n : ℕ) (m m' : Hand T E F) (held : List (ℕ × Option T))
      → place_of id v ≡ into → from ≡ place_of other u → after ≡ id → v.live ≡ true → m ≡ (joined_view v u, held) → Lowers by (step slots 1 1 0 home.none) m n m'
      → IsJoined by into from (place_of after m'.0)
  joined_place id other after v u into from slots n m m' held shown also_shown here live same told =
      let t = subst (λ (z : Hand T E F). Lowers by (step slots 1 1 0 home.none) z n m') same told in
      subst (λ (z : Place E F × Place E F × Place E F). IsJoined by z.0 z.1 z.2) (λ i. (shown i, sym also_shown i, place_of (sym here i) (sym t.0 i).0))
      (joined_views by id other v u live t.2 t.3 t.4)

module _ {T E F : Type 0} (list : T → List E) (by : E → ℕ) (fixed : T → F) where
  pub closed_place : (id : TableId) (v : View E F) (seat : Place E F) (count : ℕ) (x value : T) → place_of id v ≡ with_count seat count → x ≡ value
      → list x ≡ v.seen → v.fixed ≡ Some (fixed x) → All (λ e. 0 < times (by e) (v.number ∷ v.ended)) (list x)
      → IsClosed list by fixed seat value
  closed_place id v seat count x value shown same seen part own = record {
    list_is = ap list (sym same) ∙ seen ∙ ap (λ (p : Place E F). p.seen) shown;
    fixed_is = sym (ap (λ (p : Place E F). p.fixed) shown) ∙ (part ∙ ap (λ (y : T). Some (fixed y)) same);
    own = subst (λ (z : Place E F × T). All (λ e. 0 < times (by e) (numbers_of z.0)) (list z.1)) (λ i. (shown i, same i)) own;
  }

  -- the list at the end has reached what the seat had loaded
  pub closed_marks : (mark : F → ℕ → List E → ℕ) (id : TableId) (v : View E F) (seat : Place E F) (count : ℕ) (x value : T) → place_of id v ≡ with_count seat count → x ≡ value
      → ((word : ℕ) → top word v.loaded ≤ mark (fixed x) word (list x)) → (word : ℕ) → top word seat.loaded ≤ mark (fixed value) word (list value)
  closed_marks mark id v seat count x value shown same reached word =
      let loaded = ap (λ (p : Place E F). p.loaded) shown in
      subst (λ (z : List (ℕ × ℕ) × T). top word z.0 ≤ mark (fixed z.1) word (list z.1)) (λ i. (loaded i, same i)) (reached word)

  -- a seat that has taken the turn has the slot
  pub taken_slot : (mark : F → ℕ → List E → ℕ) (m m' : Hand T E F) → Takes list by fixed mark m m' → (y : Option T) × (m'.1 ≡ (0, y) ∷ rest m'.1)
  taken_slot mark m m' (x, same, goes, part, reached) =
      let slot : m'.1 ≡ (0, Some x) ∷ m.1 = ap (λ (z : Hand T E F). z.1) same in
      (Some x, slot ∙ ap (λ (ys : List (ℕ × Option T)). (0, Some x) ∷ ys) (sym (ap rest slot)))

module _ {T E F : Type 0} where
  -- the slot of a seat that has the turn, with the value put back into it
  pub filled_slot : (m m' : Hand T E F) (x : T) → m.1 ≡ held_slots m.0.holds → m.0.holds ≡ true → m' ≡ (m.0, (0, Some x) ∷ rest m.1) → m' ≡ (m.0, (0, Some x) ∷ [])
  filled_slot m m' x slots holds same =
      let one : rest m.1 ≡ [] = ap rest (slots ∙ ap held_slots holds) in
      same ∙ ap (λ (ys : List (ℕ × Option T)). let z : Hand T E F = (m.0, (0, Some x) ∷ ys) in z) one

  -- a seat that gave the value and the turn back is at rest
  pub freed_sits : (list : T → List E) (m m' m'' : Hand T E F) (x : T) (room number : ℕ) → Sits m room number → m' ≡ (m.0, (0, Some x) ∷ [])
      → ((y : T) → m'.1 ≡ (0, Some y) ∷ [] → m'' ≡ (freed_view m'.0 (list y), [])) → Sits m'' room number
  freed_sits list m m' m'' x room number sits filled frees =
      let freed = frees x (ap (λ (z : Hand T E F). z.1) filled) in
      let same : m'' ≡ (freed_view m.0 (list x), []) = freed ∙ ap (λ (z : Hand T E F). let w : Hand T E F = (freed_view z.0 (list x), []) in w) filled in
      subst (λ (z : Hand T E F). Sits z room number) (sym same) record {
        rest = record {
          live = sits.rest.live;
          drawn = sits.rest.drawn;
          owed = sits.rest.owed;
          host = sits.rest.host;
          guest = sits.rest.guest;
        };
        room_is = sits.room_is;
        few = sits.few;
        number_is = sits.number_is;
        positive = sits.positive;
        slots = refl;
      }
