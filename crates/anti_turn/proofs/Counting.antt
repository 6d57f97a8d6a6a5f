-- What a change of one view leaves of the others, and how each step numbers and counts the seats.
use Rattle.std.proofs.Common.{◌≡◌, ◌≢◌, ℕ, suc, ◌+◌, ◌-◌, ◌/◌, ◌<◌, ◌≤◌, Bool, true, false, cond, List, [], ◌∷◌, ◌++◌, length, set, Option, None, Some, option_to_list, unwrap_or, sym, refl, ap, ◌∙◌, subst, ⊎_elim, arith}
use mathlib.Core.Option as home
use lib.ListN.{get_elem?}
use Rattle.std.proofs.lemmas.Bool.{cases_eq}
use Rattle.atomic_table.proofs.Lists.{at_set, set_else}
use Rattle.anti_turn.specs.declared.view.Recall.{Recall}
use Rattle.anti_turn.specs.declared.view.View.{View}
use Rattle.anti_turn.specs.Lists.{times, entries_of, GoesOn, Adds}
use Rattle.anti_turn.specs.inner.Views.{bit, total, blank_recall, spent_view, view_numbers, times_owned, drawn_of, times_claimed, weight, room_of, IsAtRest}
use Rattle.anti_turn.specs.inner.Rules.{IsAlone, IsComplete, HasHolder, Knows, IsCounted}
use Rattle.anti_turn.specs.inner.Steps.{raised_view, rest_view, split_view, joined_view, lowered_view}
use Rattle.anti_turn.proofs.Totals.{total_set, total_same, total_snoc, total_plus, term_le, two_le, at_here}
use Rattle.anti_turn.proofs.Times.{times-append, times_itself, times_other}
use Rattle.anti_turn.proofs.Fronts.{entries_of_others, goes_nothing}

-- ---- what a change of one view leaves

bit_none : (b : Bool) → bit b ≡ 0 → b ≡ false
bit_none true none = absurd (omega arith)
bit_none false none = refl

module _ {E F : Type 0} where
  pub same_view : (views : List (View E F)) (id : ℕ) (v w : View E F) → get_elem? views id ≡ home.some v → get_elem? views id ≡ home.some w → v ≡ w
  same_view views id v w at also = home.some-injective v w (sym at ∙ also)

  -- a live view's own numbers
  pub live_numbers : (v : View E F) → v.live ≡ true → view_numbers v ≡ v.number ∷ v.ended
  live_numbers v live = ap (λ (b : Bool). cond b (v.number ∷ v.ended) []) live

  pub live_weight : (v : View E F) → v.live ≡ true → weight v ≡ suc (length (drawn_of v) + v.owed)
  live_weight v live = let one : bit v.live ≡ bit true = ap bit live in omega arith

  pub alone_set : (views : List (View E F)) (id : ℕ) (w : View E F) → IsAlone id views → IsAlone id (set views id w)
  alone_set views id w alone other u at apart =
      ⊎_elim (λ (t : (other ≡ id) × (w ≡ u)). absurd (apart t.0)) (λ (t : (other ≢ id) × (get_elem? views other ≡ home.some u)). alone other u t.1 apart) (at_set views id other w u at)

  pub complete_set : (all : List E) (views : List (View E F)) (id : ℕ) (v w : View E F) → get_elem? views id ≡ home.some v → w.live ≡ true → (v.seen ≡ all → w.seen ≡ all)
      → IsComplete all views → IsComplete all (set views id w)
  complete_set all views id v w at live seen (k, u, there, u_live, u_seen) =
      ⊎_elim (λ (same : k ≡ id).
      let is : v ≡ u = same_view views id v u at (subst (λ (j : ℕ). get_elem? views j ≡ home.some u) same there) in
      (id, w, at_here views id v w at, live, seen (ap (λ (z : View E F). z.seen) is ∙ u_seen)))
      (λ (apart : k ≢ id). (k, u, set_else views id k w apart ∙ there, u_live, u_seen))
      (cases_eq k id)

  pub holder_set : (holder : ℕ) (views : List (View E F)) (id : ℕ) (v w : View E F) → get_elem? views id ≡ home.some v → (v.holds ≡ true → w.holds ≡ true)
      → HasHolder holder views → HasHolder holder (set views id w)
  holder_set holder views id v w at holds (u, there, u_holds) =
      ⊎_elim (λ (same : holder ≡ id).
      let is : v ≡ u = same_view views id v u at (subst (λ (j : ℕ). get_elem? views j ≡ home.some u) same there) in
      let now : get_elem? (set views id w) holder ≡ home.some w = subst (λ (j : ℕ). get_elem? (set views id w) j ≡ home.some w) (sym same) (at_here views id v w at) in
      (w, now, holds (ap (λ (z : View E F). z.holds) is ∙ u_holds)))
      (λ (apart : holder ≢ id). (u, set_else views id holder w apart ∙ there, u_holds))
      (cases_eq holder id)

  module _ (by : E → ℕ) (part : F) where
    -- The view of another seat, while the list stays. That seat is not alone.
    pub others_stay : (turn holder : ℕ) (all : List E) (views after : List (View E F)) (id : ℕ) (v : View E F) (k : ℕ) (u : View E F)
        → get_elem? views id ≡ home.some v → v.live ≡ true → k ≢ id → Knows by part turn holder all views k u → Knows by part turn holder all after k u
    others_stay turn holder all views after id v k u at live apart known = record {
      spent_is = known.spent_is;
      part_is = known.part_is;
      seen = known.seen;
      holds = known.holds;
      alone = λ a. let dead : v.live ≡ false = known.alone a id v at (λ e. apart (sym e)) in absurd (cc);
      host = known.host;
      guest = known.guest;
    }

    pub spent_knows : (turn holder : ℕ) (all : List E) (views : List (View E F)) (id : ℕ) → Knows by part turn holder all views id spent_view
    spent_knows turn holder all views id = record {
      spent_is = λ dead. refl;
      part_is = λ live. absurd (cc);
      seen = goes_nothing by all;
      holds = λ h. absurd (cc);
      alone = λ a. absurd (cc);
      host = goes_nothing by [];
      guest = goes_nothing by [];
    }

    -- what goes on from nothing
    pub blank_goes : (r : Recall E) (ys : List E) → r ≡ blank_recall → GoesOn by r.numbers r.seen ys
    blank_goes r ys is = subst (λ (z : Recall E). GoesOn by z.numbers z.seen ys) (sym is) (goes_nothing by ys)

  -- ---- numbers and counts

  module _ (by : E → ℕ) where
    pub counts_stay : (made out : ℕ) (all : List E) (views : List (View E F)) (id : ℕ) (v w : View E F) → get_elem? views id ≡ home.some v
        → ((n : ℕ) → times_owned n w ≡ times_owned n v) → ((n : ℕ) → times_claimed n w ≡ times_claimed n v) → weight w ≡ weight v → room_of w ≡ room_of v
        → IsCounted by made out all views → IsCounted by made out all (set views id w)
    counts_stay made out all views id v w at same_owns same_claims same_weight same_room c = record {
      once = λ n. let same = total_same (times_claimed n) views id v w at (same_claims n) in let old = c.once n in omega arith;
      below = λ n above. total_same (times_claimed n) views id v w at (same_claims n) ∙ c.below n above;
      entries = λ n none. c.entries n (sym (total_same (times_owned n) views id v w at (same_owns n)) ∙ none);
      seats = total_same weight views id v w at same_weight ∙ c.seats;
      few = c.few;
      rooms = let same = total_same room_of views id v w at same_room in let old = c.rooms in omega arith;
    }

    -- entries are added under the number of a live seat
    pub counts_more : (made out : ℕ) (all more : List E) (views : List (View E F)) (id : ℕ) (v : View E F) → get_elem? views id ≡ home.some v → v.live ≡ true
        → Adds by v.number all more → IsCounted by made out all views → IsCounted by made out more views
    counts_more made out all more views id v at live added c = record {
      once = c.once;
      below = c.below;
      entries = λ n none.
          let own : times_owned v.number v ≡ times v.number (v.number ∷ v.ended) = ap (times v.number) (live_numbers v live) in
          let one = times_itself v.number in
          let apart : v.number ≢ n = λ same. let le : times_owned n v ≤ total (times_owned n) views = term_le (times_owned n) views id v at in
          let mine : times_owned v.number v ≡ times_owned n v = ap (λ (k : ℕ). times_owned k v) same in absurd (omega arith) in
          entries_of_others by v.number n apart all more added ∙ c.entries n none;
      seats = c.seats;
      few = c.few;
      rooms = c.rooms;
    }

    -- a number is drawn, and one of the room is used up
    pub counts_raised : (made out : ℕ) (all : List E) (views : List (View E F)) (id : ℕ) (v : View E F) → get_elem? views id ≡ home.some v → v.drawn ≡ None → 0 < v.room
        → IsCounted by made out all views → IsCounted by (made + 1) (out + 1) all (set views id (raised_view v (made + 1)))
    counts_raised made out all views id v at none room c =
        let w = raised_view v (made + 1) in
        let not_drawn : (n : ℕ) → times_claimed n v ≡ times_owned n v = λ n. let nothing : times n (drawn_of v) ≡ times n [] = ap (λ (o : Option ℕ). times n (option_to_list o)) none in omega arith in
        let now : (n : ℕ) → times_claimed n w ≡ times_owned n v + times n ((made + 1) ∷ []) = λ n. refl in
        record {
          once = λ n. let sums = total_set (times_claimed n) views id v w at in let before = not_drawn n in let after = now n in
              ⊎_elim (λ (same : made + 1 ≡ n). let fresh = c.below n (omega arith) in
              let one : times n ((made + 1) ∷ []) ≡ 1 = subst (λ (k : ℕ). times k ((made + 1) ∷ []) ≡ 1) same (times_itself (made + 1)) in omega arith)
              (λ (apart : made + 1 ≢ n). let old = c.once n in let nothing = times_other (made + 1) n apart in omega arith)
              (cases_eq (made + 1) n);
          below = λ n above. let sums = total_set (times_claimed n) views id v w at in let before = not_drawn n in let after = now n in
              let old = c.below n (omega arith) in let nothing = times_other (made + 1) n (λ same. omega arith) in omega arith;
          entries = λ n nobody. c.entries n (sym (total_same (times_owned n) views id v w at refl) ∙ nobody);
          seats = let sums = total_set weight views id v w at in let old = c.seats in
              let before : length (drawn_of v) ≡ 0 = ap (λ (o : Option ℕ). length (option_to_list o)) none in
              let heavier : weight w ≡ bit v.live + (1 + v.owed) = refl in
              let light : weight v ≡ bit v.live + (length (drawn_of v) + v.owed) = refl in omega arith;
          few = let old = c.few in omega arith;
          rooms = let sums = total_set room_of views id v w at in let old = c.rooms in
              let less : room_of w ≡ v.room - 1 = refl in let had : room_of v ≡ v.room = refl in omega arith;
        }

    -- no entry has a number that is drawn
    pub drawn_is_new : (made out : ℕ) (all : List E) (views : List (View E F)) (id : ℕ) (v : View E F) (n : ℕ) → get_elem? views id ≡ home.some v → 0 < times n (drawn_of v)
        → IsCounted by made out all views → entries_of by n all ≡ []
    drawn_is_new made out all views id v n at drawn c =
        let parts : total (times_claimed n) views ≡ total (times_owned n) views + total (λ (u : View E F). times n (drawn_of u)) views = total_plus (times_owned n) (λ (u : View E F). times n (drawn_of u)) views in
        let some_drawn = term_le (λ (u : View E F). times n (drawn_of u)) views id v at in
        let old = c.once n in
        c.entries n (omega arith)

    -- no entry has a number that no seat claims
    pub never_claimed : (made out : ℕ) (all : List E) (views : List (View E F)) (n : ℕ) → total (times_claimed n) views ≡ 0
        → IsCounted by made out all views → entries_of by n all ≡ []
    never_claimed made out all views n none c =
        let parts : total (times_claimed n) views ≡ total (times_owned n) views + total (λ (u : View E F). times n (drawn_of u)) views = total_plus (times_owned n) (λ (u : View E F). times n (drawn_of u)) views in
        c.entries n (omega arith)

    pub counts_split : (made out : ℕ) (all : List E) (views : List (View E F)) (id : ℕ) (v : View E F) (n : ℕ) → get_elem? views id ≡ home.some v → v.drawn ≡ Some n
        → IsCounted by made out all views → IsCounted by made out all (set views id (rest_view v) ++ split_view v ∷ [])
    counts_split made out all views id v n at drawn c =
        let rest = rest_view v in
        let new = split_view v in
        let number : view_numbers new ≡ n ∷ [] = ap (λ (o : Option ℕ). unwrap_or o 0 ∷ []) drawn in
        let sums : (f : View E F → ℕ) → total f (set views id rest ++ new ∷ []) + f v ≡ total f views + (f rest + f new) =
        λ f. let a = total_set f views id v rest at in let b = total_snoc f (set views id rest) new in omega arith in
        let new_owns : (k : ℕ) → times_owned k new ≡ times k (n ∷ []) = λ k. ap (times k) number in
        let same : (k : ℕ) → total (times_claimed k) (set views id rest ++ new ∷ []) ≡ total (times_claimed k) views = λ k.
        let s = sums (times_claimed k) in let o = new_owns k in
        let a : times_claimed k rest ≡ times_owned k v + 0 = refl in
        let b : times_claimed k new ≡ times_owned k new + 0 = refl in
        let d : times_claimed k v ≡ times_owned k v + times k (drawn_of v) = refl in
        let e : times k (drawn_of v) ≡ times k (n ∷ []) = ap (λ (o : Option ℕ). times k (option_to_list o)) drawn in omega arith in
        record {
          once = λ k. let s = same k in let old = c.once k in omega arith;
          below = λ k above. same k ∙ c.below k above;
          entries = λ k nobody. c.entries k (let s = sums (times_owned k) in let a : times_owned k rest ≡ times_owned k v = refl in omega arith);
          seats = let s = sums weight in let old = c.seats in
              let a : weight rest ≡ bit v.live + (0 + v.owed) = refl in
              let b : weight new ≡ 1 + (0 + 0) = refl in
              let d : weight v ≡ bit v.live + (length (drawn_of v) + v.owed) = refl in
              let e : length (drawn_of v) ≡ 1 = ap (λ (o : Option ℕ). length (option_to_list o)) drawn in omega arith;
          few = c.few;
          rooms = let s = sums room_of in let old = c.rooms in
              let a : room_of rest ≡ v.room - v.room / 2 = refl in
              let b : room_of new ≡ v.room / 2 = refl in
              let d : room_of v ≡ v.room = refl in omega arith;
        }

    pub joined_owns : (v u : View E F) (n : ℕ) → v.live ≡ true → u.live ≡ true → times_owned n (joined_view v u) ≡ times_owned n v + times_owned n u
    joined_owns v u n v_live u_live =
        let b : times_owned n (joined_view v u) ≡ times n (v.number ∷ (v.ended ++ u.number ∷ u.ended)) = ap (times n) (live_numbers (joined_view v u) v_live) in
        let p : times_owned n v ≡ times n (v.number ∷ v.ended) = ap (times n) (live_numbers v v_live) in
        let q : times_owned n u ≡ times n (u.number ∷ u.ended) = ap (times n) (live_numbers u u_live) in
        let both = times-append n (v.number ∷ v.ended) (u.number ∷ u.ended) in omega arith

    pub counts_joined : (made out : ℕ) (all : List E) (views : List (View E F)) (id : ℕ) (v : View E F) (other : ℕ) (u : View E F)
        → get_elem? views id ≡ home.some v → v.live ≡ true → get_elem? (set views id (joined_view v u)) other ≡ home.some u → IsAtRest u
        → IsCounted by made out all views → IsCounted by made out all (set (set views id (joined_view v u)) other spent_view)
    counts_joined made out all views id v other u at live there rest c =
        let both = joined_view v u in
        let after = set (set views id both) other spent_view in
        let sums : (f : View E F → ℕ) → total f after + (f v + f u) ≡ total f views + (f both + f spent_view) =
        λ f. let a = total_set f views id v both at in let b = total_set f (set views id both) other u spent_view there in omega arith in
        let no_owns : (k : ℕ) → times_owned k (spent_view {E = E} {F = F}) ≡ 0 = λ k. refl in
        let same_owns : (k : ℕ) → total (times_owned k) after ≡ total (times_owned k) views = λ k.
        let s = sums (times_owned k) in let j = joined_owns v u k live rest.live in let z = no_owns k in omega arith in
        let same : (k : ℕ) → total (times_claimed k) after ≡ total (times_claimed k) views = λ k.
        let s = sums (times_claimed k) in let j = joined_owns v u k live rest.live in
        let a : times_claimed k both ≡ times_owned k both + times k (drawn_of v) = refl in
        let b : times_claimed k (spent_view {E = E} {F = F}) ≡ 0 + 0 = refl in
        let d : times_claimed k v ≡ times_owned k v + times k (drawn_of v) = refl in
        let e : times_claimed k u ≡ times_owned k u + times k (drawn_of u) = refl in
        let g : times k (drawn_of u) ≡ times k [] = ap (λ (o : Option ℕ). times k (option_to_list o)) rest.drawn in omega arith in
        record {
          once = λ k. let s = same k in let old = c.once k in omega arith;
          below = λ k above. same k ∙ c.below k above;
          entries = λ k nobody. c.entries k (sym (same_owns k) ∙ nobody);
          seats = let s = sums weight in let old = c.seats in
              let a : weight both ≡ bit v.live + (length (drawn_of v) + (v.owed + 1)) = refl in
              let b : weight (spent_view {E = E} {F = F}) ≡ 0 + (0 + 0) = refl in
              let d : weight v ≡ bit v.live + (length (drawn_of v) + v.owed) = refl in
              let e = live_weight u rest.live in
              let g : length (drawn_of u) ≡ 0 = ap (λ (o : Option ℕ). length (option_to_list o)) rest.drawn in
              let h = rest.owed in omega arith;
          few = c.few;
          rooms = let s = sums room_of in let old = c.rooms in
              let a : room_of both ≡ v.room + u.room = refl in
              let b : room_of (spent_view {E = E} {F = F}) ≡ 0 = refl in
              let d : room_of v ≡ v.room = refl in
              let e : room_of u ≡ u.room = refl in omega arith;
        }

    pub counts_lowered : (made out : ℕ) (all : List E) (views : List (View E F)) (id : ℕ) (v : View E F) → get_elem? views id ≡ home.some v → 0 < v.owed
        → IsCounted by made out all views → IsCounted by made (out - 1) all (set views id (lowered_view v))
    counts_lowered made out all views id v at some c =
        let w = lowered_view v in record {
          once = λ n. let same = total_same (times_claimed n) views id v w at refl in let old = c.once n in omega arith;
          below = λ n above. total_same (times_claimed n) views id v w at refl ∙ c.below n above;
          entries = λ n nobody. c.entries n (sym (total_same (times_owned n) views id v w at refl) ∙ nobody);
          seats = let sums = total_set weight views id v w at in let old = c.seats in
              let a : weight w ≡ bit v.live + (length (drawn_of v) + (v.owed - 1)) = refl in
              let d : weight v ≡ bit v.live + (length (drawn_of v) + v.owed) = refl in omega arith;
          few = let old = c.few in omega arith;
          rooms = let same = total_same room_of views id v w at refl in let old = c.rooms in omega arith;
        }

    -- where one seat is out, it is the only one
    pub lone : (made : ℕ) (all : List E) (views : List (View E F)) (id : ℕ) (v : View E F) → get_elem? views id ≡ home.some v → v.live ≡ true
        → IsCounted by made 1 all views → IsAlone id views
    lone made all views id v at live c other u there apart =
        let two = two_le weight views id other v u (λ e. apart (sym e)) at there in
        let sum = c.seats in
        let mine = live_weight v live in
        let d : weight u ≡ bit u.live + (length (drawn_of u) + u.owed) = refl in
        bit_none u.live (omega arith)
