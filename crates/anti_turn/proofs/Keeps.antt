-- Each step of a turn keeps its rule, and tells what it is to tell.
use Rattle.std.proofs.Common.{◌≡◌, ◌≢◌, ◌==◌, ℕ, zero, suc, max, ◌+◌, ◌-◌, ◌*◌, ◌/◌, ◌%◌, ◌^◌, ◌<◌, ◌≤◌, true, false, List, [], ◌∷◌, ◌++◌, set, get_or, Option, Some, All, ◌⊎◌, inl, inr, sym, refl, ap, ◌∙◌, subst, arith}
use mathlib.Core.Option as home
use lib.ListN.{get_elem?}
use prog.Atomic.{either}
use Rattle.std.proofs.lemmas.Bool.{cases_eq}
use Rattle.atomic_table.specs.Table.{State, Step, Act, keeps, takes, gives, Valid, step, stepped, carried_after, Allows, Splits, Joins, opening, Final, Seen}
use Rattle.atomic_table.proofs.Lists.{exchanged, set_again, set_else}
use Rattle.anti_turn.specs.declared.view.View.{View}
use Rattle.anti_turn.specs.Lists.{times, top, IsFront, entries_of, GoesOn, Adds}
use Rattle.anti_turn.specs.inner.Views.{first_view, spent_view, view_numbers, drawn_of, times_claimed, weight, room_of, IsAtRest}
use Rattle.anti_turn.specs.inner.Rules.{Fits, IsMarked, IsKept}
use Rattle.anti_turn.specs.inner.Steps.{Hand, taken_view, freed_view, raised_view, rest_view, split_view, joined_view, lowered_view, asked_view, marked_view, looked_view, Tries, Frees, Raises, Lowers, Counts, MarksUp, LooksUp}
use Rattle.anti_turn.proofs.Totals.{term_le}
use Rattle.anti_turn.proofs.Counting.{live_weight, never_claimed}
use Rattle.anti_turn.proofs.Fronts.{all_claimed, none_in_front}
use Rattle.anti_turn.proofs.Fitting.{begin, stay_taken, take, free_turn, raise, split, join, lower, ask, note, alone_count, lone_has_seen_all, ends}
use Rattle.anti_turn.proofs.Marks.{marks_begin, marks_stay, mark_of_front, marks_grow, marks_split, marks_join, marks_up, marks_down}

-- ---- the word of the seats, and its halves

quotient : (made out : ℕ) → out < 4294967296 → (made * 4294967296 + out) / 4294967296 ≡ made
quotient made out small = omega arith

remainder : (made out : ℕ) → out < 4294967296 → (made * 4294967296 + out) % 4294967296 ≡ out
remainder made out small = omega arith

one_more : (made out : ℕ) → made + 1 < 4294967296 → out ≤ made → (made * 4294967296 + out + 4294967297) % 2 ^ 64 ≡ (made + 1) * 4294967296 + (out + 1)
one_more made out fits few = omega arith

one_less : (made out : ℕ) → made < 4294967296 → out ≤ made → 0 < out → (made * 4294967296 + out + (2 ^ 64 - 1)) % 2 ^ 64 ≡ made * 4294967296 + (out - 1)
one_less made out fits few some = omega arith

-- what stood at a place is put there again
set_same : (ws : List ℕ) (i : ℕ) → set ws i (get_or ws i 0) ≡ ws
set_same [] i = refl
set_same (w ∷ ws) zero = refl
set_same (w ∷ ws) (suc i) = ap (λ (rest : List ℕ). w ∷ rest) (set_same ws i)

module _ {T E F : Type 0} (list : T → List E) (by : E → ℕ) (fixed : T → F) (mark : F → ℕ → List E → ℕ) (part : F) where
  pub opens : (x : T) → list x ≡ [] → fixed x ≡ part → IsKept list by fixed mark part (opening (0 ∷ 4294967297 ∷ 0 ∷ 0 ∷ 0 ∷ 0 ∷ 0 ∷ 0 ∷ 0 ∷ 0 ∷ []) (Some x ∷ []) (first_view part))
  opens x empty same = record {
    turn = 0;
    holder = 0;
    made = 1;
    out = 1;
    slot = home.some (Some x);
    all = [];
    marks = 0 ∷ 0 ∷ 0 ∷ 0 ∷ 0 ∷ 0 ∷ 0 ∷ 0 ∷ [];
    words = refl;
    homes = refl;
    fits = begin list by fixed part x empty same;
    marked = marks_begin mark part part;
  }

  module _ (s : State (Option T) (View E F)) (r : IsKept list by fixed mark part s) where
    turn_found : get_or s.words 0 0 ≡ r.turn
    turn_found = ap (λ (ws : List ℕ). get_or ws 0 0) r.words

    seats_found : get_or s.words 1 0 ≡ r.made * 4294967296 + r.out
    seats_found = ap (λ (ws : List ℕ). get_or ws 1 0) r.words

    -- neither half of the word overflows
    few_made : r.made < 4294967296
    few_made = let c = r.fits.counts.rooms in omega arith

    few_out : r.out < 4294967296
    few_out = let c = r.fits.counts.few in let m = few_made in omega arith

    -- The word of the turn becomes another than 0. The turn is taken if it was free, and else it stays with the seat that has it.
    tries : (now : ℕ) → now ≢ 0 → (st : Step (Option T)) (id : ℕ) (m : Hand T E F) → get_elem? s.views id ≡ home.some m.0 → IsAtRest m.0
        → (get_or s.words 0 0 ≡ 0) ⊎ (get_or s.words 0 0 ≢ 0)
        → (w : View E F) × (a : Act (Option T)) × Valid s.homes m.1 a × IsKept list by fixed mark part (stepped s 0 now id m.1 w a)
        × Tries list by fixed mark st m (get_or s.words 0 0) (w, carried_after m.1 a)
    tries now busy st id m at rest (inl hit) =
        let free : r.turn ≡ 0 = sym turn_found ∙ hit in
        let value = r.fits.free free in
        let x = value.0 in
        let known = r.fits.knows id m.0 at in
        let w = taken_view m.0 (list x) in
        let theirs : m.0.fixed ≡ Some part = known.part_is rest.live in (
          w,
          takes 0 (Some x),
          ap (λ (hs : List (home.Option (Option T))). get_elem? hs 0) r.homes ∙ ap (λ (h : home.Option (Option T)). home.some h) value.1,
          record {
            turn = now;
            holder = id;
            made = r.made;
            out = r.out;
            slot = home.none;
            all = r.all;
            marks = r.marks;
            words = ap (λ (ws : List ℕ). set ws 0 now) r.words;
            homes = ap (λ (hs : List (home.Option (Option T))). set hs 0 home.none) r.homes;
            fits = take list by fixed part r.turn r.holder r.made r.out r.slot r.all s.views r.fits id m.0 at rest.live x free value.2 rest.host rest.guest now busy;
            marked = marks_stay mark part r.marks r.all s.views id m.0 w at refl refl r.marked;
          },
          (
            (λ none. (
              x,
              refl,
              subst (λ (xs : List E). GoesOn by (view_numbers m.0) m.0.seen xs) (sym value.2) known.seen,
              theirs ∙ ap Some (sym value.3),
              (λ word. subst (λ (z : F × List E). top word m.0.loaded ≤ mark z.0 word z.1) (λ i. (sym value.3 i, sym value.2 i)) ((r.marked.noted id m.0 at).loaded word)),
            )),
            (λ taken. absurd (taken hit)),
          ),
        )
    tries now busy st id m at rest (inr miss) = (
      m.0,
      keeps,
      tt,
      record {
        turn = now;
        holder = r.holder;
        made = r.made;
        out = r.out;
        slot = r.slot;
        all = r.all;
        marks = r.marks;
        words = ap (λ (ws : List ℕ). set ws 0 now) r.words;
        homes = r.homes;
        fits = subst (λ (vs : List (View E F)). Fits list by fixed part now r.holder r.made r.out r.slot r.all vs) (sym (set_again s.views id m.0 at))
            (stay_taken list by fixed part r.turn r.holder r.made r.out r.slot r.all s.views r.fits (λ free. miss (turn_found ∙ free)) now busy);
        marked = subst (IsMarked mark part r.marks r.all) (sym (set_again s.views id m.0 at)) r.marked;
      },
      ((λ none. absurd (miss none)), (λ taken. refl)),
    )

  -- who comes takes the turn if it is free
  pub takes_turn : (slots id : ℕ) (m : Hand T E F) → IsAtRest m.0
      → Allows (IsKept list by fixed mark part) slots id m 0 (λ n. either (n == 0) 1 n) (Tries list by fixed mark (step slots 0 0 1 home.none) m)
  takes_turn slots id m rest s r _ at _ =
      let n : ℕ = get_or s.words 0 0 in
      let st : Step (Option T) = step slots 0 0 1 home.none in
      let Goal : ℕ → Type 0 = λ k. (w : View E F) × (a : Act (Option T)) × Valid s.homes m.1 a × IsKept list by fixed mark part (stepped s 0 k id m.1 w a)
      × Tries list by fixed mark st m n (w, carried_after m.1 a) in
      exchanged n 0 1 Goal (λ hit. tries s r 1 (λ none. omega arith) st id m at rest (inl hit)) (λ miss. tries s r n miss st id m at rest (inr miss))

  -- who waits does so too, and the word says that somebody waits
  pub awaits_turn : (slots id : ℕ) (m : Hand T E F) → IsAtRest m.0
      → Allows (IsKept list by fixed mark part) slots id m 0 (λ _. 2) (Tries list by fixed mark (step slots 0 2 0 home.none) m)
  awaits_turn slots id m rest s r _ at _ =
      tries s r 2 (λ none. omega arith) (step slots 0 2 0 home.none) id m at rest (cases_eq (get_or s.words 0 0) 0)

  same_value : (x y : T) → (let one : List (ℕ × Option T) = (0, Some x) ∷ [] in let two : List (ℕ × Option T) = (0, Some y) ∷ [] in one ≡ two) → x ≡ y
  same_value x y p =
      let one : ℕ × Option T = (0, Some x) in
      let two : ℕ × Option T = (0, Some y) in
      let q : one ≡ two = cc in
      let values : Some x ≡ Some y = ap (λ (z : ℕ × Option T). z.1) q in cc

  module _ (slots id : ℕ) (v : View E F) (x : T) (rest : IsAtRest v) (holds : v.holds ≡ true) (adds : Adds by v.number v.seen (list x)) (same : v.fixed ≡ Some (fixed x))
      (rises : (y : F) (word : ℕ) (xs ys : List E) → mark y word xs ≤ mark y word (xs ++ ys)) where
    -- the list goes on from the one that stood
    grows : (s : State (Option T) (View E F)) (r : IsKept list by fixed mark part s) → get_elem? s.views id ≡ home.some v → IsFront r.all (list x)
    grows s r at = subst (λ (xs : List E). IsFront xs (list x)) ((r.fits.knows id v at).holds holds).2 (adds.more, adds.whole)

    frees : Allows (IsKept list by fixed mark part) slots id (v, (0, Some x) ∷ []) 0 (λ _. 0) (Frees list (step slots 0 0 0 home.none) (v, (0, Some x) ∷ []))
    frees s r _ at _ = (
      freed_view v (list x),
      gives,
      tt,
      record {
        turn = 0;
        holder = r.holder;
        made = r.made;
        out = r.out;
        slot = home.some (Some x);
        all = list x;
        marks = r.marks;
        words = ap (λ (ws : List ℕ). set ws 0 0) r.words;
        homes = ap (λ (hs : List (home.Option (Option T))). set hs 0 (home.some (Some x))) r.homes;
        fits = free_turn list by fixed part r.turn r.holder r.made r.out r.slot r.all s.views r.fits id v at rest.live x rest holds adds same;
        marked = marks_stay mark part r.marks (list x) s.views id v (freed_view v (list x)) at refl refl (marks_grow mark part rises r.marks r.all (list x) s.views (grows s r at) r.marked);
      },
      (λ y p. ap (λ (z : T). let z' : Hand T E F = (freed_view v (list z), []) in z') (same_value x y p)),
    )

    pub frees_turn : (m : Hand T E F) → m ≡ (v, (0, Some x) ∷ []) → Allows (IsKept list by fixed mark part) slots id m 0 (λ _. 0) (Frees list (step slots 0 0 0 home.none) m)
    frees_turn m is = subst (λ (z : Hand T E F). Allows (IsKept list by fixed mark part) slots id z 0 (λ _. 0) (Frees list (step slots 0 0 0 home.none) z)) (sym is) frees

  pub raises : (slots id : ℕ) (m : Hand T E F) → IsAtRest m.0 → 0 < m.0.room
      → Allows (IsKept list by fixed mark part) slots id m 1 (λ n. (n + 4294967297) % 2 ^ 64) (Raises by (step slots 1 4294967297 0 home.none) m)
  raises slots id m rest room s r _ at _ =
      let n : ℕ = get_or s.words 1 0 in
      let found : n ≡ r.made * 4294967296 + r.out = seats_found s r in
      let mine = term_le room_of s.views id m.0 at in
      let had : room_of m.0 ≡ m.0.room = refl in
      let rooms = r.fits.counts.rooms in
      let few = r.fits.counts.few in
      let fits_made : r.made + 1 < 4294967296 = omega arith in
      let number : n / 4294967296 ≡ r.made = ap (λ (k : ℕ). k / 4294967296) found ∙ quotient r.made r.out (few_out s r) in
      let next : (n + 4294967297) % 2 ^ 64 ≡ (r.made + 1) * 4294967296 + (r.out + 1) = ap (λ (k : ℕ). (k + 4294967297) % 2 ^ 64) found ∙ one_more r.made r.out fits_made few in
      let w = raised_view m.0 (r.made + 1) in
      let same : r.made + 1 ≡ n / 4294967296 + 1 = ap (λ (k : ℕ). k + 1) (sym number) in
      let new = r.fits.counts.below (r.made + 1) (omega arith) in
      let claimed = term_le (times_claimed (r.made + 1)) s.views id m.0 at in
      let owned : times_claimed (r.made + 1) m.0 ≡ times (r.made + 1) (view_numbers m.0) + times (r.made + 1) (drawn_of m.0) = refl in
      let apart : times (r.made + 1) (view_numbers m.0) ≡ 0 = omega arith in
      let none = never_claimed by r.made r.out r.all s.views (r.made + 1) new r.fits.counts in (
        w,
        keeps,
        tt,
        record {
          turn = r.turn;
          holder = r.holder;
          made = r.made + 1;
          out = r.out + 1;
          slot = r.slot;
          all = r.all;
          marks = r.marks;
          words = ap (λ (ws : List ℕ). set ws 1 ((n + 4294967297) % 2 ^ 64)) r.words ∙ ap (λ (k : ℕ). r.turn ∷ k ∷ r.marks) next;
          homes = r.homes;
          fits = raise list by fixed part r.turn r.holder r.made r.out r.slot r.all s.views r.fits id m.0 at rest.live rest.drawn room;
          marked = marks_stay mark part r.marks r.all s.views id m.0 w at refl refl r.marked;
        },
        (
          ap (λ (k : ℕ). let z : Hand T E F = (raised_view m.0 k, m.1) in z) same,
          (omega arith),
          subst (λ (k : ℕ). times k (view_numbers m.0) ≡ 0) same apart,
          subst (λ (k : ℕ). entries_of by k m.0.seen ≡ []) same (none_in_front by (r.made + 1) m.0.seen r.all (r.fits.knows id m.0 at).seen.front none),
        ),
      )

  split_keeps : (id : ℕ) (v : View E F) (n : ℕ) → v.live ≡ true → v.drawn ≡ Some n → Splits (IsKept list by fixed mark part) id v (rest_view v) (split_view v)
  split_keeps id v n live drawn s r at = record {
    turn = r.turn;
    holder = r.holder;
    made = r.made;
    out = r.out;
    slot = r.slot;
    all = r.all;
    marks = r.marks;
    words = r.words;
    homes = r.homes;
    fits = split list by fixed part r.turn r.holder r.made r.out r.slot r.all s.views r.fits id v at live n drawn;
    marked = marks_split mark part r.marks r.all s.views r.marked id v at;
  }

  -- a seat is split that has drawn a number just now
  pub splits : (id : ℕ) (m : Hand T E F) (v : View E F) (n : ℕ) (slots : List (ℕ × Option T)) → m ≡ (raised_view v n, slots) → v.live ≡ true
      → Splits (IsKept list by fixed mark part) id m.0 (rest_view m.0) (split_view m.0)
  splits id m v n slots is live =
      subst (λ (z : Hand T E F). Splits (IsKept list by fixed mark part) id z.0 (rest_view z.0) (split_view z.0)) (sym is) (split_keeps id (raised_view v n) n live refl)

  pub joins : (id : ℕ) (v : View E F) (other : ℕ) (u : View E F) → v.live ≡ true → v.holds ≡ false → IsAtRest u → u.holds ≡ false
      → Joins (IsKept list by fixed mark part) id v other u (joined_view v u) spent_view
  joins id v other u live free rest also_free s r at apart there = record {
    turn = r.turn;
    holder = r.holder;
    made = r.made;
    out = r.out;
    slot = r.slot;
    all = r.all;
    marks = r.marks;
    words = r.words;
    homes = r.homes;
    fits = join list by fixed part r.turn r.holder r.made r.out r.slot r.all s.views r.fits id v at live free other u apart there rest also_free;
    marked = marks_join mark part r.marks r.all s.views r.marked id v at other u (sym (set_else s.views id other (joined_view v u) apart) ∙ there);
  }

  lower_allows : (slots id : ℕ) (m : Hand T E F) → m.0.live ≡ true → 0 < m.0.owed
      → Allows (IsKept list by fixed mark part) slots id m 1 (λ n. (n + (2 ^ 64 - 1)) % 2 ^ 64) (Lowers by (step slots 1 1 0 home.none) m)
  lower_allows slots id m live some s r _ at _ =
      let n : ℕ = get_or s.words 1 0 in
      let found : n ≡ r.made * 4294967296 + r.out = seats_found s r in
      let counts = r.fits.counts in
      let known = r.fits.knows id m.0 at in
      let few = counts.few in
      let heavy = live_weight m.0 live in
      let mine = term_le weight s.views id m.0 at in
      let sum = counts.seats in
      let out_some : 0 < r.out = omega arith in
      let next : (n + (2 ^ 64 - 1)) % 2 ^ 64 ≡ r.made * 4294967296 + (r.out - 1) =
      ap (λ (k : ℕ). (k + (2 ^ 64 - 1)) % 2 ^ 64) found ∙ one_less r.made r.out (few_made s r) few out_some in
      let room = term_le room_of s.views id m.0 at in
      let had : room_of m.0 ≡ m.0.room = refl in
      let rooms = counts.rooms in (
        lowered_view m.0,
        keeps,
        tt,
        record {
          turn = r.turn;
          holder = r.holder;
          made = r.made;
          out = r.out - 1;
          slot = r.slot;
          all = r.all;
          marks = r.marks;
          words = ap (λ (ws : List ℕ). set ws 1 ((n + (2 ^ 64 - 1)) % 2 ^ 64)) r.words ∙ ap (λ (k : ℕ). r.turn ∷ k ∷ r.marks) next;
          homes = r.homes;
          fits = lower list by fixed part r.turn r.holder r.made r.out r.slot r.all s.views r.fits id m.0 at live some;
          marked = marks_stay mark part r.marks r.all s.views id m.0 (lowered_view m.0) at refl refl r.marked;
        },
        (
          refl,
          (omega arith),
          known.host,
          known.guest,
          (λ k. let once = counts.once k in let claimed = term_le (times_claimed k) s.views id m.0 at in
              let owned : times_claimed k m.0 ≡ times k (view_numbers m.0) + times k (drawn_of m.0) = refl in omega arith),
        ),
      )

  -- the count is lowered for a seat that was joined just now
  pub lowers : (slots id : ℕ) (m : Hand T E F) (v u : View E F) (held : List (ℕ × Option T)) → m ≡ (joined_view v u, held) → v.live ≡ true
      → Allows (IsKept list by fixed mark part) slots id m 1 (λ n. (n + (2 ^ 64 - 1)) % 2 ^ 64) (Lowers by (step slots 1 1 0 home.none) m)
  lowers slots id m v u held is live =
      subst (λ (z : Hand T E F). Allows (IsKept list by fixed mark part) slots id z 1 (λ n. (n + (2 ^ 64 - 1)) % 2 ^ 64) (Lowers by (step slots 1 1 0 home.none) z)) (sym is)
      (lower_allows slots id (joined_view v u, held) live (omega arith))

  pub counts : (slots id : ℕ) (m : Hand T E F) → m.0.live ≡ true
      → Allows (IsKept list by fixed mark part) slots id m 1 (λ n. n) (Counts (step slots 1 0 0 home.none) m)
  counts slots id m live s r _ at _ =
      let n : ℕ = get_or s.words 1 0 in
      let found : n ≡ r.made * 4294967296 + r.out = seats_found s r in
      let out_is : r.out ≡ n % 4294967296 = sym (ap (λ (k : ℕ). k % 4294967296) found ∙ remainder r.made r.out (few_out s r)) in
      let heavy = live_weight m.0 live in
      let mine = term_le weight s.views id m.0 at in
      let sum = r.fits.counts.seats in (
        asked_view m.0 (n % 4294967296),
        keeps,
        tt,
        record {
          turn = r.turn;
          holder = r.holder;
          made = r.made;
          out = r.out;
          slot = r.slot;
          all = r.all;
          marks = r.marks;
          words = ap (λ (ws : List ℕ). set ws 1 (get_or ws 1 0)) r.words;
          homes = r.homes;
          fits = subst (λ (k : ℕ). Fits list by fixed part r.turn r.holder r.made r.out r.slot r.all (set s.views id (asked_view m.0 k))) out_is
              (ask list by fixed part r.turn r.holder r.made r.out r.slot r.all s.views r.fits id m.0 at live);
          marked = marks_stay mark part r.marks r.all s.views id m.0 (asked_view m.0 (n % 4294967296)) at refl refl r.marked;
        },
        (
          refl,
          (omega arith),
          (λ a light. sym out_is ∙ (alone_count list by fixed part r.turn r.holder r.made r.out r.slot r.all s.views r.fits id m.0 at live a ∙ light)),
        ),
      )

  -- what comes out of a turn that a lone seat closes
  pub closes : (id : ℕ) (v : View E F) (ws : List ℕ) (xs : List (Option T)) → Final (Seen (IsKept list by fixed mark part) id v) ws xs → v.live ≡ true → v.holds ≡ false → v.alone ≡ true
      → (x : T) × (get_elem? xs 0 ≡ home.some (Some x)) × (list x ≡ v.seen) × (v.fixed ≡ Some (fixed x)) × All (λ e. 0 < times (by e) (v.number ∷ v.ended)) (list x)
      × ((word : ℕ) → top word v.loaded ≤ mark (fixed x) word (list x))
  closes id v ws xs (s, (r, at), words, long, values) live free alone =
      let e = ends list by fixed part r.turn r.holder r.made r.out r.slot r.all s.views r.fits id v at live free alone in
      let there : get_elem? s.homes 0 ≡ home.some (home.some (Some e.0)) =
      ap (λ (hs : List (home.Option (Option T))). get_elem? hs 0) r.homes ∙ ap (λ (h : home.Option (Option T)). home.some h) e.1 in
      let theirs : Some part ≡ Some (fixed e.0) = sym ((r.fits.knows id v at).part_is live) ∙ e.3 in
      let first_part : part ≡ fixed e.0 = cc in
      let whole : r.all ≡ list e.0 = sym (lone_has_seen_all list by fixed part r.turn r.holder r.made r.out r.slot r.all s.views r.fits id v at live alone) ∙ sym e.2 in
      let reached : (word : ℕ) → top word v.loaded ≤ mark (fixed e.0) word (list e.0) =
      λ word. subst (λ (z : F × List E). top word v.loaded ≤ mark z.0 word z.1) (λ i. (first_part i, whole i)) ((r.marked.noted id v at).loaded word) in
      (e.0, values 0 (Some e.0) there, e.2, e.3, all_claimed by (v.number ∷ v.ended) (list e.0) e.4, reached)

  -- ---- the marks, which lie behind two words

  module _ (slots id : ℕ) (m : Hand T E F) (index word : ℕ) (behind : index ≡ suc (suc word)) (live : m.0.live ≡ true) where
    mark_found : (s : State (Option T) (View E F)) (r : IsKept list by fixed mark part s) → get_or s.words index 0 ≡ get_or r.marks word 0
    mark_found s r = ap (λ (ws : List ℕ). get_or ws index 0) r.words ∙ ap (λ (i : ℕ). get_or (r.turn ∷ (r.made * 4294967296 + r.out) ∷ r.marks) i 0) behind

    mark_put : (s : State (Option T) (View E F)) (r : IsKept list by fixed mark part s) (k : ℕ) → set s.words index k ≡ r.turn ∷ (r.made * 4294967296 + r.out) ∷ set r.marks word k
    mark_put s r k = ap (λ (ws : List ℕ). set ws index k) r.words ∙ ap (λ (i : ℕ). set (r.turn ∷ (r.made * 4294967296 + r.out) ∷ r.marks) i k) behind

    its_word : index - 2 ≡ word
    its_word = omega arith

    pub marks_rise : (n : ℕ) → word < 8 → ((x : F) → m.0.fixed ≡ Some x → n ≤ mark x word m.0.seen)
        → ((x : F) (j : ℕ) (xs ys : List E) → mark x j xs ≤ mark x j (xs ++ ys))
        → Allows (IsKept list by fixed mark part) slots id m index (λ k. max k n) (MarksUp (step slots index n 0 home.none) m)
    marks_rise n small most rises s r _ at _ =
        let found = mark_found s r in
        let known = r.fits.knows id m.0 at in
        let seen : n ≤ mark part word m.0.seen = most part (known.part_is live) in
        let further = mark_of_front mark part rises word m.0.seen r.all known.seen.front in
        let next : max (get_or s.words index 0) n ≡ max (get_or r.marks word 0) n = ap (λ (k : ℕ). max k n) found in (
          marked_view m.0 word n,
          keeps,
          tt,
          record {
            turn = r.turn;
            holder = r.holder;
            made = r.made;
            out = r.out;
            slot = r.slot;
            all = r.all;
            marks = set r.marks word (max (get_or r.marks word 0) n);
            words = mark_put s r (max (get_or s.words index 0) n) ∙ ap (λ (k : ℕ). r.turn ∷ (r.made * 4294967296 + r.out) ∷ set r.marks word k) next;
            homes = r.homes;
            fits = note list by fixed part r.turn r.holder r.made r.out r.slot r.all s.views r.fits id m.0 at live ((word, n) ∷ m.0.raised) m.0.loaded m.0.loads;
            marked = marks_up mark part r.marks r.all s.views r.marked id m.0 at word n small (omega arith);
          },
          (ap (λ (k : ℕ). let z : Hand T E F = (marked_view m.0 k n, m.1) in z) (sym its_word)),
        )

    pub marks_show : Allows (IsKept list by fixed mark part) slots id m index (λ k. k) (LooksUp by mark (step slots index 0 0 home.none) m)
    marks_show s r _ at _ =
        let n : ℕ = get_or s.words index 0 in
        let found : n ≡ get_or r.marks word 0 = mark_found s r in
        let known = r.fits.knows id m.0 at in
        let raised = (r.marked.noted id m.0 at).raised word in
        let under = r.marked.under word in
        let under_it : n ≤ mark part word r.all = omega arith in (
          looked_view m.0 word n,
          keeps,
          tt,
          record {
            turn = r.turn;
            holder = r.holder;
            made = r.made;
            out = r.out;
            slot = r.slot;
            all = r.all;
            marks = r.marks;
            words = mark_put s r n ∙ ap (λ (ms : List ℕ). r.turn ∷ (r.made * 4294967296 + r.out) ∷ ms) (ap (set r.marks word) found ∙ set_same r.marks word);
            homes = r.homes;
            fits = note list by fixed part r.turn r.holder r.made r.out r.slot r.all s.views r.fits id m.0 at live m.0.raised ((word, n) ∷ m.0.loaded) (word ∷ m.0.loads);
            marked = marks_down mark part r.marks r.all s.views r.marked id m.0 at word n found;
          },
          (
            ap (λ (k : ℕ). let z : Hand T E F = (looked_view m.0 k n, m.1) in z) (sym its_word),
            subst (λ (k : ℕ). top k m.0.raised ≤ n) (sym its_word) (omega arith),
            (part, r.all, known.part_is live, known.seen, subst (λ (k : ℕ). n ≤ mark part k r.all) (sym its_word) under_it),
          ),
        )
