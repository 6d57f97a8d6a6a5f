-- Each step keeps what is true of a turn, said of its words as numbers, its list and all views.
use Rattle.std.proofs.Common.{◌≡◌, ◌≢◌, ℕ, zero, suc, ◌+◌, ◌-◌, ◌<◌, true, false, List, [], ◌∷◌, ◌++◌, set, Option, None, Some, option_to_list, unwrap_or, sym, refl, ap, ◌∙◌, subst, ⊎_elim, eqb-true, arith}
use mathlib.Core.Option as home
use lib.ListN.{get_elem?}
use Rattle.std.proofs.lemmas.Bool.{cases_eq}
use Rattle.atomic_table.proofs.Lists.{at_snoc, at_longer, set_else}
use Rattle.anti_turn.specs.declared.view.View.{View}
use Rattle.anti_turn.specs.Lists.{times, IsFront, longer_of, entries_of, GoesOn, Adds}
use Rattle.anti_turn.specs.inner.Views.{total, blank_recall, first_view, spent_view, view_numbers, times_owned, drawn_of, times_claimed, weight, IsAtRest}
use Rattle.anti_turn.specs.inner.Rules.{IsAlone, Knows, IsCounted, Fits}
use Rattle.anti_turn.specs.inner.Steps.{taken_view, freed_view, raised_view, rest_view, split_view, joined_view, lowered_view, asked_view, noted_view}
use Rattle.anti_turn.proofs.Totals.{total_only, two_le, at_here, each_set}
use Rattle.anti_turn.proofs.Times.{times_itself, times_other, times_is}
use Rattle.anti_turn.proofs.Fronts.{front_trans, longer_front, front_of_longer, also_front_of_longer, longer_all, also_longer_all, none_in_front, entries_of_others, front_of_added, goes_self, goes_nothing, goes_between}
use Rattle.anti_turn.proofs.Counting.{same_view, live_numbers, alone_set, complete_set, holder_set, others_stay, spent_knows, blank_goes, counts_stay, counts_more, counts_raised, drawn_is_new, counts_split, joined_owns, counts_joined, counts_lowered, lone}

module _ {T E F : Type 0} (list : T → List E) (by : E → ℕ) (fixed : T → F) (part : F) where
  first_knows : (id : ℕ) (v : View E F) → get_elem? (first_view {E = E} part ∷ []) id ≡ home.some v → Knows by part 0 0 [] (first_view part ∷ []) id v
  first_knows zero v at = subst (λ (u : View E F). Knows by part 0 0 [] (first_view part ∷ []) 0 u) (home.some-injective (first_view part) v at) (record {
    spent_is = λ dead. absurd (cc);
    part_is = λ live. refl;
    seen = goes_self by (1 ∷ []) [];
    holds = λ h. absurd (cc);
    alone = λ a. absurd (cc);
    host = goes_nothing by [];
    guest = goes_nothing by [];
  })
  first_knows (suc id) v at = absurd (home.some-ne-none v (sym at))

  pub begin : (x : T) → list x ≡ [] → fixed x ≡ part → Fits list by fixed part 0 0 1 1 (home.some (Some x)) [] (first_view part ∷ [])
  begin x empty same = record {
    complete = (0, first_view part, refl, refl, refl);
    free = λ now. (x, refl, empty, same);
    taken = λ no. absurd (no refl);
    knows = first_knows;
    counts = record {
      once = λ n. ⊎_elim
          (λ (is : 1 ≡ n). let one : times n (1 ∷ []) ≡ 1 = subst (λ (k : ℕ). times k (1 ∷ []) ≡ 1) is (times_itself 1) in omega arith)
          (λ (apart : 1 ≢ n). let none = times_other 1 n apart in omega arith)
          (cases_eq 1 n);
      below = λ n above. let none = times_other 1 n (λ is. omega arith) in omega arith;
      entries = λ n none. refl;
      seats = omega arith;
      few = omega arith;
      rooms = omega arith;
    };
  }

  -- the turn stays taken, whether somebody waits for it or not
  pub stay_taken : (turn holder made out : ℕ) (slot : home.Option (Option T)) (all : List E) (views : List (View E F)) → Fits list by fixed part turn holder made out slot all views
      → turn ≢ 0 → (now : ℕ) → now ≢ 0 → Fits list by fixed part now holder made out slot all views
  stay_taken turn holder made out slot all views f was now busy = record {
    complete = f.complete;
    free = λ none. absurd (busy none);
    taken = λ taken. f.taken was;
    knows = λ id v at.
        let known = f.knows id v at in
        record {
          spent_is = known.spent_is;
          part_is = known.part_is;
          seen = known.seen;
          holds = λ h. let held = known.holds h in (held.0, busy, held.2);
          alone = known.alone;
          host = known.host;
          guest = known.guest;
        };
    counts = f.counts;
  }

  module _ (turn holder made out : ℕ) (slot : home.Option (Option T)) (all : List E) (views : List (View E F)) (f : Fits list by fixed part turn holder made out slot all views)
      (id : ℕ) (v : View E F) (at : get_elem? views id ≡ home.some v) (live : v.live ≡ true) where
    mine : Knows by part turn holder all views id v
    mine = f.knows id v at

    -- the turn is taken, and the value with it
    pub take : (x : T) → turn ≡ 0 → list x ≡ all → v.host ≡ blank_recall → v.guest ≡ blank_recall
        → (now : ℕ) → now ≢ 0 → Fits list by fixed part now id made out home.none all (set views id (taken_view v (list x)))
    take x free same host guest now busy =
        let w = taken_view v (list x) in
        let after = set views id w in
        record {
          complete = (id, w, at_here views id v w at, live, same);
          free = λ none. absurd (busy none);
          taken = λ taken. (w, at_here views id v w at, refl);
          knows = each_set (λ (k : ℕ) (u : View E F). Knows by part now id all after k u) views id w
              (record {
                spent_is = λ dead. absurd (cc);
                part_is = mine.part_is;
                seen = subst (λ (xs : List E). GoesOn by (view_numbers v) xs all) (sym same) (goes_self by (view_numbers v) all);
                holds = λ h. (refl, busy, same);
                alone = λ a. alone_set views id w (mine.alone a);
                host = blank_goes by part v.host (list x) host;
                guest = blank_goes by part v.guest (list x) guest;
              })
              (λ k u apart there.
              let known = others_stay by part turn holder all views after id v k u at live apart (f.knows k u there) in
              record {
                spent_is = known.spent_is;
                part_is = known.part_is;
                seen = known.seen;
                holds = λ h. absurd ((known.holds h).1 free);
                alone = known.alone;
                host = known.host;
                guest = known.guest;
              });
          counts = counts_stay by made out all views id v w at (λ n. refl) (λ n. refl) refl refl f.counts;
        }

    -- the turn is freed, with a value that has further entries of the seat
    pub free_turn : (x : T) → IsAtRest v → v.holds ≡ true → Adds by v.number v.seen (list x) → v.fixed ≡ Some (fixed x)
        → Fits list by fixed part 0 holder made out (home.some (Some x)) (list x) (set views id (freed_view v (list x)))
    free_turn x rest holds adds given =
        let w = freed_view v (list x) in
        let after = set views id w in
        let held = mine.holds holds in
        let added : Adds by v.number all (list x) = subst (λ (xs : List E). Adds by v.number xs (list x)) held.2 adds in
        let theirs : v.fixed ≡ Some part = mine.part_is live in
        let first_part : fixed x ≡ part = cc in
        record {
          complete = (id, w, at_here views id v w at, live, refl);
          free = λ now. (x, refl, refl, first_part);
          taken = λ no. absurd (no refl);
          knows = each_set (λ (k : ℕ) (u : View E F). Knows by part 0 holder (list x) after k u) views id w
              (record {
                spent_is = λ dead. absurd (cc);
                part_is = mine.part_is;
                seen = goes_self by (view_numbers v) (list x);
                holds = λ h. absurd (cc);
                alone = λ a. alone_set views id w (mine.alone a);
                host = blank_goes by part v.host (list x) rest.host;
                guest = blank_goes by part v.guest (list x) rest.guest;
              })
              (λ k u apart there.
              let known = others_stay by part turn holder all views after id v k u at live apart (f.knows k u there) in
              record {
                spent_is = known.spent_is;
                part_is = known.part_is;
                seen = record {
                  front = front_trans u.seen all (list x) known.seen.front (front_of_added by v.number all (list x) added);
                  own = λ n stands. entries_of_others by v.number n (not_theirs k u apart there n stands) all (list x) added ∙ known.seen.own n stands;
                };
                holds = λ h. absurd (apart ((known.holds h).0 ∙ sym held.0));
                alone = known.alone;
                host = known.host;
                guest = known.guest;
              });
          counts = counts_stay by made out (list x) views id v w at (λ n. refl) (λ n. refl) refl refl (counts_more by made out all (list x) views id v at live added f.counts);
        }
      where
        -- no other seat has this seat's number
        not_theirs : (k : ℕ) (u : View E F) → k ≢ id → get_elem? views k ≡ home.some u → (n : ℕ) → 0 < times n (view_numbers u) → v.number ≢ n
        not_theirs k u apart there n stands same =
            let one : times n (v.number ∷ []) ≡ 1 = subst (λ (m : ℕ). times m (v.number ∷ []) ≡ 1) same (times_itself v.number) in
            let own : times_owned n v ≡ times n (v.number ∷ v.ended) = ap (times n) (live_numbers v live) in
            let two = two_le (times_claimed n) views id k v u (λ e. apart (sym e)) at there in
            let once = f.counts.once n in
            let a : times_claimed n v ≡ times_owned n v + times n (drawn_of v) = refl in
            let b : times_claimed n u ≡ times n (view_numbers u) + times n (drawn_of u) = refl in
            omega arith

    -- the count is raised
    pub raise : v.drawn ≡ None → 0 < v.room
        → Fits list by fixed part turn holder (made + 1) (out + 1) slot all (set views id (raised_view v (made + 1)))
    raise none room =
        let w = raised_view v (made + 1) in
        let after = set views id w in
        record {
          complete = complete_set all views id v w at live (λ e. e) f.complete;
          free = f.free;
          taken = λ t. holder_set holder views id v w at (λ h. h) (f.taken t);
          knows = each_set (λ (k : ℕ) (u : View E F). Knows by part turn holder all after k u) views id w
              (record {
                spent_is = λ dead. absurd (cc);
                part_is = mine.part_is;
                seen = mine.seen;
                holds = mine.holds;
                alone = λ a. absurd (cc);
                host = mine.host;
                guest = mine.guest;
              })
              (λ k u apart there. others_stay by part turn holder all views after id v k u at live apart (f.knows k u there));
          counts = counts_raised by made out all views id v at none room f.counts;
        }

    -- the seat is split
    pub split : (n : ℕ) → v.drawn ≡ Some n
        → Fits list by fixed part turn holder made out slot all (set views id (rest_view v) ++ split_view v ∷ [])
    split n drawn =
        let w = rest_view v in
        let new = split_view v in
        let after = set views id w ++ new ∷ [] in
        let number : view_numbers new ≡ n ∷ [] = ap (λ (o : Option ℕ). unwrap_or o 0 ∷ []) drawn in
        let one : times n (drawn_of v) ≡ 1 = ap (λ (o : Option ℕ). times n (option_to_list o)) drawn ∙ times_itself n in
        let none : entries_of by n all ≡ [] = drawn_is_new by made out all views id v n at (omega arith) f.counts in
        let none_seen : entries_of by n v.seen ≡ [] = none_in_front by n v.seen all mine.seen.front none in
        let c = complete_set all views id v w at live (λ e. e) f.complete in
        record {
          complete = (c.0, c.1, at_longer (set views id w) (new ∷ []) c.0 c.1 c.2, c.3, c.4);
          free = f.free;
          taken = λ t. let h = holder_set holder views id v w at (λ h. h) (f.taken t) in (h.0, at_longer (set views id w) (new ∷ []) holder h.0 h.1, h.2);
          knows = λ k u there. ⊎_elim
              (λ (old : get_elem? (set views id w) k ≡ home.some u). each_set (λ (k : ℕ) (u : View E F). Knows by part turn holder all after k u) views id w
              (record {
                spent_is = λ dead. absurd (cc);
                part_is = mine.part_is;
                seen = mine.seen;
                holds = mine.holds;
                alone = λ a. absurd (cc);
                host = mine.host;
                guest = mine.guest;
              })
              (λ k u apart there. others_stay by part turn holder all views after id v k u at live apart (f.knows k u there)) k u old)
              (λ (is : new ≡ u). subst (λ (z : View E F). Knows by part turn holder all after k z) is (record {
                spent_is = λ dead. absurd (cc);
                part_is = λ l. mine.part_is live;
                seen = record {
                  front = mine.seen.front;
                  own = λ m stands.
                      let same : n ≡ m = times_is n m (subst (λ (ns : List ℕ). 0 < times m ns) number stands) in
                      subst (λ (j : ℕ). entries_of by j all ≡ entries_of by j v.seen) same (none ∙ sym none_seen);
                };
                holds = λ h. absurd (cc);
                alone = λ a. absurd (cc);
                host = goes_nothing by v.seen;
                guest = goes_nothing by v.seen;
              }))
              (at_snoc (set views id w) new u k there);
          counts = counts_split by made out all views id v n at drawn f.counts;
        }

    -- another seat is joined into this one
    pub join : v.holds ≡ false → (other : ℕ) (u : View E F) → other ≢ id → get_elem? (set views id (joined_view v u)) other ≡ home.some u → IsAtRest u → u.holds ≡ false
        → Fits list by fixed part turn holder made out slot all (set (set views id (joined_view v u)) other spent_view)
    join free other u apart there rest also_free =
        let both = joined_view v u in
        let middle = set views id both in
        let after = set middle other spent_view in
        let before : get_elem? views other ≡ home.some u = sym (set_else views id other both apart) ∙ there in
        let theirs = f.knows other u before in
        let whole = longer_of v.seen u.seen in
        let to_whole : IsFront v.seen whole = front_of_longer v.seen u.seen all mine.seen.front theirs.seen.front in
        let also_to_whole : IsFront u.seen whole = also_front_of_longer v.seen u.seen all mine.seen.front theirs.seen.front in
        let from_whole : IsFront whole all = longer_front v.seen u.seen all mine.seen.front theirs.seen.front in
        let into_seen : GoesOn by (view_numbers v) v.seen whole = goes_between by (view_numbers v) v.seen whole all mine.seen to_whole from_whole in
        let from_seen : GoesOn by (view_numbers u) u.seen whole = goes_between by (view_numbers u) u.seen whole all theirs.seen also_to_whole from_whole in
        let both_at : get_elem? after id ≡ home.some both = set_else middle other id spent_view (λ e. apart (sym e)) ∙ at_here views id v both at in
        let still : (k : ℕ) (z : View E F) → k ≢ id → k ≢ other → get_elem? views k ≡ home.some z → get_elem? after k ≡ home.some z =
        λ k z not_id not_other is. set_else middle other k spent_view not_other ∙ (set_else views id k both not_id ∙ is) in
        record {
          complete =
              let c = f.complete in
              ⊎_elim (λ (same : c.0 ≡ id).
              let is : v ≡ c.1 = same_view views id v c.1 at (subst (λ (j : ℕ). get_elem? views j ≡ home.some c.1) same c.2) in
              (id, both, both_at, live, longer_all v.seen u.seen all mine.seen.front theirs.seen.front (ap (λ (z : View E F). z.seen) is ∙ c.4)))
              (λ (not_id : c.0 ≢ id). ⊎_elim
              (λ (same : c.0 ≡ other).
              let is : u ≡ c.1 = same_view views other u c.1 before (subst (λ (j : ℕ). get_elem? views j ≡ home.some c.1) same c.2) in
              (id, both, both_at, live, also_longer_all v.seen u.seen all mine.seen.front theirs.seen.front (ap (λ (z : View E F). z.seen) is ∙ c.4)))
              (λ (not_other : c.0 ≢ other). (c.0, c.1, still c.0 c.1 not_id not_other c.2, c.3, c.4))
              (cases_eq c.0 other))
              (cases_eq c.0 id);
          free = f.free;
          taken = λ t.
              let h = f.taken t in
              let not_id : holder ≢ id = λ same.
              let is : v ≡ h.0 = same_view views id v h.0 at (subst (λ (j : ℕ). get_elem? views j ≡ home.some h.0) same h.1) in
              let holds : v.holds ≡ true = ap (λ (z : View E F). z.holds) is ∙ h.2 in absurd (cc) in
              let not_other : holder ≢ other = λ same.
              let is : u ≡ h.0 = same_view views other u h.0 before (subst (λ (j : ℕ). get_elem? views j ≡ home.some h.0) same h.1) in
              let holds : u.holds ≡ true = ap (λ (z : View E F). z.holds) is ∙ h.2 in absurd (cc) in
              (h.0, still holder h.0 not_id not_other h.1, h.2);
          knows = each_set (λ (k : ℕ) (z : View E F). Knows by part turn holder all after k z) middle other spent_view (spent_knows by part turn holder all after other)
              (λ k z not_other in_middle. each_set (λ (k : ℕ) (z : View E F). k ≢ other → Knows by part turn holder all after k z) views id both
              (λ now. record {
                spent_is = λ dead. absurd (cc);
                part_is = mine.part_is;
                seen = record {
                  front = from_whole;
                  own = λ n stands.
                      let sum = joined_owns by v u n live rest.live in
                      let is : times_owned n both ≡ times n (view_numbers both) = refl in
                      ⊎_elim (λ (not_mine : times n (view_numbers v) ≡ 0). own_of by (view_numbers u) u.seen whole all theirs.seen from_seen n (omega arith))
                      (λ (mine_too : times n (view_numbers v) ≢ 0). own_of by (view_numbers v) v.seen whole all mine.seen into_seen n (omega arith))
                      (cases_eq (times n (view_numbers v)) 0);
                };
                holds = λ h. absurd (cc);
                alone = λ a. absurd (cc);
                host = subst (λ (ns : List ℕ). GoesOn by ns v.seen whole) (live_numbers v live) into_seen;
                guest = subst (λ (ns : List ℕ). GoesOn by ns u.seen whole) (live_numbers u rest.live) from_seen;
              })
              (λ k z not_id is now. others_stay by part turn holder all views after id v k z at live not_id (f.knows k z is)) k z in_middle not_other);
          counts = counts_joined by made out all views id v other u at live there rest f.counts;
        }
      where
        own_of : (by : E → ℕ) (ns : List ℕ) (xs ys zs : List E) → GoesOn by ns xs zs → GoesOn by ns xs ys → (n : ℕ) → 0 < times n ns → entries_of by n zs ≡ entries_of by n ys
        own_of by ns xs ys zs far near n stands = far.own n stands ∙ sym (near.own n stands)

    -- the count is lowered
    pub lower : 0 < v.owed → Fits list by fixed part turn holder made (out - 1) slot all (set views id (lowered_view v))
    lower some =
        let w = lowered_view v in
        let after = set views id w in
        record {
          complete = complete_set all views id v w at live (λ e. e) f.complete;
          free = f.free;
          taken = λ t. holder_set holder views id v w at (λ h. h) (f.taken t);
          knows = each_set (λ (k : ℕ) (u : View E F). Knows by part turn holder all after k u) views id w
              (record {
                spent_is = λ dead. absurd (cc);
                part_is = mine.part_is;
                seen = mine.seen;
                holds = mine.holds;
                alone = λ a. alone_set views id w (mine.alone a);
                host = goes_nothing by v.seen;
                guest = goes_nothing by v.seen;
              })
              (λ k u apart there. others_stay by part turn holder all views after id v k u at live apart (f.knows k u there));
          counts = counts_lowered by made out all views id v at some f.counts;
        }

    -- the count is loaded
    pub ask : Fits list by fixed part turn holder made out slot all (set views id (asked_view v out))
    ask =
        let w = asked_view v out in
        let after = set views id w in
        record {
          complete = complete_set all views id v w at live (λ e. e) f.complete;
          free = f.free;
          taken = λ t. holder_set holder views id v w at (λ h. h) (f.taken t);
          knows = each_set (λ (k : ℕ) (u : View E F). Knows by part turn holder all after k u) views id w
              (record {
                spent_is = λ dead. absurd (cc);
                part_is = mine.part_is;
                seen = mine.seen;
                holds = mine.holds;
                alone = λ a. alone_set views id w (lone by made all views id v at live (subst (λ (n : ℕ). IsCounted by made n all views) (eqb-true out 1 a) f.counts));
                host = mine.host;
                guest = mine.guest;
              })
              (λ k u apart there. others_stay by part turn holder all views after id v k u at live apart (f.knows k u there));
          counts = counts_stay by made out all views id v w at (λ n. refl) (λ n. refl) refl refl f.counts;
        }

    -- the seat notes something of the marks
    pub note : (raised loaded : List (ℕ × ℕ)) (loads : List ℕ) → Fits list by fixed part turn holder made out slot all (set views id (noted_view v raised loaded loads))
    note raised loaded loads =
        let w = noted_view v raised loaded loads in
        let after = set views id w in
        record {
          complete = complete_set all views id v w at live (λ e. e) f.complete;
          free = f.free;
          taken = λ t. holder_set holder views id v w at (λ h. h) (f.taken t);
          knows = each_set (λ (k : ℕ) (u : View E F). Knows by part turn holder all after k u) views id w
              (record {
                spent_is = λ dead. absurd (cc);
                part_is = mine.part_is;
                seen = mine.seen;
                holds = mine.holds;
                alone = λ a. alone_set views id w (mine.alone a);
                host = mine.host;
                guest = mine.guest;
              })
              (λ k u apart there. others_stay by part turn holder all views after id v k u at live apart (f.knows k u there));
          counts = counts_stay by made out all views id v w at (λ n. refl) (λ n. refl) refl refl f.counts;
        }

    -- what views that are not live weigh, where this seat is alone
    others_are_spent : IsAlone id views → (k : ℕ) (u : View E F) → get_elem? views k ≡ home.some u → k ≢ id → u ≡ spent_view
    others_are_spent alone k u there apart = (f.knows k u there).spent_is (alone k u there apart)

    -- a seat that is alone is all that is counted
    pub alone_count : v.alone ≡ true → out ≡ weight v
    alone_count a =
        sym f.counts.seats
        ∙ total_only weight views id v at (λ k u there apart. ap weight (others_are_spent (mine.alone a) k u there apart))

    -- the turn of a seat that is alone, and does not have it, is free
    lone_is_free : v.holds ≡ false → v.alone ≡ true → turn ≡ 0
    lone_is_free free a =
        ⊎_elim (λ (is : turn ≡ 0). is)
        (λ (busy : turn ≢ 0).
        let h = f.taken busy in
        ⊎_elim (λ (same : holder ≡ id).
        let is : v ≡ h.0 = same_view views id v h.0 at (subst (λ (j : ℕ). get_elem? views j ≡ home.some h.0) same h.1) in
        let holds : v.holds ≡ true = ap (λ (z : View E F). z.holds) is ∙ h.2 in absurd (cc))
        (λ (apart : holder ≢ id).
        let gone : (h.0).holds ≡ false = ap (λ (z : View E F). z.holds) (others_are_spent (mine.alone a) holder h.0 h.1 apart) in
        let holds = h.2 in absurd (cc))
        (cases_eq holder id))
        (cases_eq turn 0)

    pub lone_has_seen_all : v.alone ≡ true → v.seen ≡ all
    lone_has_seen_all a =
        let c = f.complete in
        ⊎_elim (λ (same : c.0 ≡ id).
        let is : v ≡ c.1 = same_view views id v c.1 at (subst (λ (j : ℕ). get_elem? views j ≡ home.some c.1) same c.2) in
        ap (λ (z : View E F). z.seen) is ∙ c.4)
        (λ (apart : c.0 ≢ id).
        let gone : (c.1).live ≡ false = ap (λ (z : View E F). z.live) (others_are_spent (mine.alone a) c.0 c.1 c.2 apart) in
        let lives = c.3 in absurd (cc))
        (cases_eq c.0 id)

    lone_owns : v.alone ≡ true → (n : ℕ) → times n (v.number ∷ v.ended) ≡ 0 → entries_of by n all ≡ []
    lone_owns a n none =
        let own : times_owned n v ≡ 0 = ap (times n) (live_numbers v live) ∙ none in
        let sum : total (times_owned n) views ≡ times_owned n v = total_only (times_owned n) views id v at (λ k u there apart. ap (times_owned n) (others_are_spent (mine.alone a) k u there apart)) in
        f.counts.entries n (sum ∙ own)

    -- A seat that is alone, and does not have the turn, has seen the whole list, and all entries are its own.
    pub ends : v.holds ≡ false → v.alone ≡ true
        → (x : T) × (slot ≡ home.some (Some x)) × (list x ≡ v.seen) × (v.fixed ≡ Some (fixed x)) × ((n : ℕ) → times n (v.number ∷ v.ended) ≡ 0 → entries_of by n (list x) ≡ [])
    ends free a =
        let value = f.free (lone_is_free free a) in
        let seen_all = lone_has_seen_all a in
        let theirs : v.fixed ≡ Some part = mine.part_is live in (
          value.0,
          value.1,
          value.2 ∙ sym seen_all,
          theirs ∙ ap Some (sym value.3),
          λ n none. ap (entries_of by n) value.2 ∙ lone_owns a n none,
        )
