-- What is known of a seat, and what the steps of the turn leave of it.
use Rattle.std.proofs.Common.{◌≡◌, ◌≢◌, IfSome, ℕ, zero, suc, replicate, ◌+◌, ◌-◌, ◌/◌, ◌<◌, ◌≤◌, Bool, true, false, cond, nat_lt, length, List, [], ◌∷◌, ◌++◌, map, All, Option, Some, refl, sym, ap, subst, ◌∙◌, ◌⊎◌, ⊎_elim, inl, inr, arith}
use Rattle.std.proofs.lemmas.Bool.{cases_eq}
use Rattle.std.proofs.lemmas.List.{map-append}
use Rattle.anti_kind.specs.declared.entry.Entry.{Entry}
use Rattle.anti_kind.specs.Objects.{Start, IsLegal}
use Rattle.anti_kind.specs.Shipments.{upto}
use Rattle.anti_turn.specs.Lists.{times, top, longer_of, GoesOn}
use Rattle.anti_turn.specs.Places as turn
use Rattle.anti_turn.specs.Places.{Place, TableId}
use Rattle.anti_shared.specs.Passes.{Identity, PassView, KeptView, LegalFrom, HasLoaded, start_of, upto_from, seat_of, calls_of, numbers_of, made_pass, after_call, IsPass, IsSplit, IsJoined, IsClosed}
use Rattle.anti_shared.specs.inner.Marks.{number_at, AreGreater, AreNoted, AreTold}
use Rattle.anti_shared.specs.inner.Reaching.{upto_none}
use Rattle.anti_shared.specs.inner.Seating.{ended_in, known, pass_of, IsSeated}
use Rattle.anti_turn.proofs.Times.{times_itself, times_other}
use Rattle.anti_turn.proofs.Tops.{top-append}
use Rattle.anti_shared.proofs.Numbered.{times_first, times_later, ended_numbers, ended_same, ended_are, calls_named}

once : (n m : ℕ) → times n (m ∷ []) ≤ 1
once n m = ⊎_elim
    (λ (same : m ≡ n). let one : times n (m ∷ []) ≡ 1 = subst (λ (k : ℕ). times k (m ∷ []) ≡ 1) same (times_itself m) in omega arith)
    (λ (apart : m ≢ n). let none = times_other m n apart in omega arith)
    (cases_eq m n)

chosen : (P : List Entry → Type 0) (b : Bool) (xs ys : List Entry) → P xs → P ys → P (cond b ys xs)
chosen P true xs ys p q = q
chosen P false xs ys p q = p

longer_keeps : (P : List Entry → Type 0) (xs ys : List Entry) → P xs → P ys → P (longer_of xs ys)
longer_keeps P xs ys = chosen P (nat_lt (length xs) (length ys)) xs ys

none_raised : (n region : ℕ) → number_at (replicate n 0) region ≡ 0
none_raised zero region = refl
none_raised (suc n) zero = refl
none_raised (suc n) (suc region) = none_raised n region

module _ {M : Type 0} where
  -- a seat that has visited the object, left this history, and raised marks so
  abbrev pub visited_seat : Place Entry (ℕ × M) → List Entry → List (ℕ × ℕ) → Place Entry (ℕ × M)
  visited_seat seat left raised = record seat { holds = false; seen = left; visits = seat.visits + 1; raised = raised }

  -- two passes of one object know one first state
  same_first : (into from : Place Entry (ℕ × M)) (a b : ℕ × M) → into.fixed ≡ Some a → from.fixed ≡ Some b → (pass_of into).id ≡ (pass_of from).id → a.1 ≡ b.1
  same_first into from a b is also same =
      let mine : (pass_of into).id.first ≡ Some a.1 = ap (λ (o : Option (ℕ × M)). (known into.id o).first) is in
      let theirs : (pass_of from).id.first ≡ Some b.1 = ap (λ (o : Option (ℕ × M)). (known from.id o).first) also in
      let firsts : (pass_of into).id.first ≡ (pass_of from).id.first = ap (λ (i : Identity M). i.first) same in
      let both : Some a.1 ≡ Some b.1 = sym mine ∙ firsts ∙ theirs in
      cc

  -- the numbers of a pass are those of its seat
  pub pass_numbers : (seat : Place Entry (ℕ × M)) → numbers_of (pass_of seat) ≡ turn.numbers_of seat
  pass_numbers seat = ap (λ (ns : List ℕ). seat.number ∷ ns) (ended_numbers seat.seen seat.ended)

module _ {M : Type 0} (start : M → Start) where
  -- the start of a seat's object
  pub started : (seat : Place Entry (ℕ × M)) (part : ℕ × M) → seat.fixed ≡ Some part → start_of start (pass_of seat).id ≡ Some (start part.1)
  started seat part is = ap (λ (o : Option (ℕ × M)). start_of start (known seat.id o)) is

  pub is_pass : (seat : Place Entry (ℕ × M)) (kept : List ℕ) → IsSeated start seat kept → IsPass start (pass_of seat)
  is_pass seat kept s = record {
    legal = subst (λ (o : Option Start). LegalFrom o seat.seen) (sym (started seat s.part s.part_is)) s.legal;
    positive = s.positive;
    mine_is = refl;
    ended_are = ended_are seat.seen seat.ended;
    distinct = λ n. subst (λ (ns : List ℕ). times n ns ≤ 1) (sym (pass_numbers seat)) (s.distinct n);
    told = λ region small. subst (λ (o : Option Start). upto_from o seat.seen region ≤ top region seat.raised) (sym (started seat s.part s.part_is)) (s.told region small);
  }

  -- ---- what the steps leave

  pub seated_first : (seat : Place Entry (ℕ × M)) (id : TableId) (part : ℕ × M) → seat ≡ turn.first_seat id part → IsLegal (start part.1) [] → IsSeated start seat (replicate 8 0)
  seated_first seat id part is legal = subst (λ (p : Place Entry (ℕ × M)). IsSeated start p (replicate 8 0)) (sym is) (record {
    part = part;
    part_is = refl;
    free = refl;
    legal = legal;
    positive = omega arith;
    distinct = λ n. once n 1;
    told = λ region small. upto_none (start part.1) region;
    noted = λ region small. none_raised 8 region;
  })

  pub seated_count : (seat next : Place Entry (ℕ × M)) (kept : List ℕ) (count : ℕ) → next ≡ turn.with_count seat count → IsSeated start seat kept → IsSeated start next kept
  seated_count seat next kept count is s = subst (λ (p : Place Entry (ℕ × M)). IsSeated start p kept) (sym is) (record {
    part = s.part;
    part_is = s.part_is;
    free = s.free;
    legal = s.legal;
    positive = s.positive;
    distinct = s.distinct;
    told = s.told;
    noted = s.noted;
  })

  pub seated_load : (seat next : Place Entry (ℕ × M)) (kept : List ℕ) (region n : ℕ) → next ≡ turn.with_load seat region n → IsSeated start seat kept → IsSeated start next kept
  seated_load seat next kept region n is s = subst (λ (p : Place Entry (ℕ × M)). IsSeated start p kept) (sym is) (record {
    part = s.part;
    part_is = s.part_is;
    free = s.free;
    legal = s.legal;
    positive = s.positive;
    distinct = s.distinct;
    told = s.told;
    noted = s.noted;
  })

  pub seated_room : (seat next : Place Entry (ℕ × M)) (kept : List ℕ) (room : ℕ) → next ≡ turn.with_room seat room → IsSeated start seat kept → IsSeated start next kept
  seated_room seat next kept room is s = subst (λ (p : Place Entry (ℕ × M)). IsSeated start p kept) (sym is) (record {
    part = s.part;
    part_is = s.part_is;
    free = s.free;
    legal = s.legal;
    positive = s.positive;
    distinct = s.distinct;
    told = s.told;
    noted = s.noted;
  })

  pub seated_new : (seat new : Place Entry (ℕ × M)) (kept : List ℕ) (room : ℕ) → new ≡ turn.made_seat seat new.number room → 0 < new.number → IsSeated start seat kept
      → IsSeated start new kept
  seated_new seat new kept room is some s = subst (λ (p : Place Entry (ℕ × M)). IsSeated start p kept) (sym is) (record {
    part = s.part;
    part_is = s.part_is;
    free = refl;
    legal = s.legal;
    positive = some;
    distinct = λ n. once n new.number;
    told = s.told;
    noted = s.noted;
  })

  -- the marks were raised as far as the history has got that it left
  pub told_there : (seat next : Place Entry (ℕ × M)) (part : ℕ × M) (left : List Entry) (raised : List (ℕ × ℕ)) → next ≡ visited_seat seat left seat.raised → seat.fixed ≡ Some part
      → IfSome next.fixed (λ p. AreTold (start p.1) next.seen raised) → AreTold (start part.1) left raised
  told_there seat next part left raised is knows told =
      let here : IfSome seat.fixed (λ p. AreTold (start p.1) left raised) =
      subst (λ (s : Place Entry (ℕ × M)). IfSome s.fixed (λ p. AreTold (start p.1) s.seen raised)) is told in
      subst (λ (o : Option (ℕ × M)). IfSome o (λ p. AreTold (start p.1) left raised)) knows here

  -- it has visited the object, left this history, and raised the marks as far as that has got
  pub seated_visit : (seat next : Place Entry (ℕ × M)) (before kept : List ℕ) (part : ℕ × M) (left : List Entry) → next ≡ visited_seat seat left next.raised → seat.fixed ≡ Some part
      → IsLegal (start part.1) left → AreTold (start part.1) left next.raised → AreNoted kept next.raised → IsSeated start seat before → IsSeated start next kept
  seated_visit seat next before kept part left is knows legal told noted s = subst (λ (p : Place Entry (ℕ × M)). IsSeated start p kept) (sym is) (record {
    part = part;
    part_is = knows;
    free = refl;
    legal = legal;
    positive = s.positive;
    distinct = s.distinct;
    told = told;
    noted = noted;
  })

  -- what is kept of two lists of notes
  noted_both : (mine theirs kept : List ℕ) (into from : List (ℕ × ℕ)) → AreNoted mine into → AreNoted theirs from → AreGreater mine theirs kept → AreNoted kept (into ++ from)
  noted_both mine theirs kept into from noted also greater region small =
      let one = noted region small in
      let other = also region small in
      let is = greater region small in
      let both = top-append region into from in
      omega arith

  -- of two lists of notes the marks were raised as far as of either
  told_both : (h : List Entry) (x : Start) (xs ys : List (ℕ × ℕ)) → AreTold x h xs ⊎ AreTold x h ys → AreTold x h (xs ++ ys)
  told_both h x xs ys told region small =
      let both = top-append region xs ys in
      ⊎_elim (λ (here : AreTold x h xs). let most = here region small in omega arith) (λ (there : AreTold x h ys). let most = there region small in omega arith) told

  pub seated_join : (into from new : Place Entry (ℕ × M)) (mine theirs kept : List ℕ) → turn.IsJoined seat_of into from new → (pass_of into).id ≡ (pass_of from).id
      → AreGreater mine theirs kept → IsSeated start into mine → IsSeated start from theirs → IsSeated start new kept
  seated_join into from new mine theirs kept joined same greater s t =
      let first = sym (same_first into from s.part t.part s.part_is t.part_is same) in
      let also : IsLegal (start s.part.1) from.seen = subst (λ (x : M). IsLegal (start x) from.seen) first t.legal in
      let as_told : AreTold (start s.part.1) from.seen from.raised = subst (λ (x : M). AreTold (start x) from.seen from.raised) first t.told in
      record {
        part = s.part;
        part_is = ap (λ (p : Place Entry (ℕ × M)). p.fixed) joined.new_is ∙ s.part_is;
        free = ap (λ (p : Place Entry (ℕ × M)). p.holds) joined.new_is ∙ s.free;
        legal = subst (IsLegal (start s.part.1)) (sym (ap (λ (p : Place Entry (ℕ × M)). p.seen) joined.new_is)) (longer_keeps (IsLegal (start s.part.1)) into.seen from.seen s.legal also);
        positive = subst (λ (n : ℕ). 0 < n) (sym (ap (λ (p : Place Entry (ℕ × M)). p.number) joined.new_is)) s.positive;
        distinct = joined.distinct;
        told = subst (λ (p : Place Entry (ℕ × M)). AreTold (start s.part.1) p.seen p.raised) (sym joined.new_is)
            (longer_keeps (λ (h : List Entry). AreTold (start s.part.1) h (into.raised ++ from.raised)) into.seen from.seen
            (told_both into.seen (start s.part.1) into.raised from.raised (inl s.told)) (told_both from.seen (start s.part.1) into.raised from.raised (inr as_told)));
        noted = subst (λ (p : Place Entry (ℕ × M)). AreNoted kept p.raised) (sym joined.new_is) (noted_both mine theirs kept into.raised from.raised s.noted t.noted greater);
      }

  -- a history has got as far as each mark that was loaded
  pub has_loaded : (seat : Place Entry (ℕ × M)) (part : ℕ × M) (h : List Entry) → seat.fixed ≡ Some part → ((region : ℕ) → top region seat.loaded ≤ upto (start part.1) h region)
      → HasLoaded start (pass_of seat) h
  has_loaded seat part h is most region = subst (λ (o : Option Start). top region seat.loaded ≤ upto_from o h region) (sym (started seat part is)) (most region)

  pub closed_pass : (seat : Place Entry (ℕ × M)) (numbers : List ℕ) (pass : PassView M) (kept : KeptView M) → pass_of seat ≡ pass → IsSeated start seat numbers
      → turn.IsClosed (λ (k : KeptView M). k.history) seat_of (λ (k : KeptView M). (k.object, k.first)) seat kept
      → ((region : ℕ) → top region seat.loaded ≤ upto (start kept.first) kept.history region) → IsClosed start pass kept
  closed_pass seat numbers pass kept shown s closed most = subst (λ (p : PassView M). IsClosed start p kept) shown (record {
    object_is = sym (ap (λ (o : Option (ℕ × M)). (known seat.id o).object) closed.fixed_is);
    first_is = ap (λ (o : Option (ℕ × M)). (known seat.id o).first) closed.fixed_is;
    history_is = closed.list_is;
    own = subst (λ (ns : List ℕ). All (λ e. 0 < times e.seat ns) kept.history) (sym (pass_numbers seat)) closed.own;
    loaded = has_loaded seat (kept.object, kept.first) kept.history closed.fixed_is most;
    knows = is_pass seat numbers s;
  })

module _ {M : Type 0} (seat next : Place Entry (ℕ × M)) (pass : PassView M) (left : List Entry) (shown : pass_of seat ≡ pass) (is : next ≡ visited_seat seat left next.raised) where
  pub visited_pass : map (ended_in left) seat.ended ≡ map (ended_in seat.seen) seat.ended → pass_of next ≡ after_call pass next.seen (pass_of next).mine next.raised
  visited_pass same =
      let mine = calls_of seat.number left in
      subst (λ (z : PassView M × Place Entry (ℕ × M)). pass_of z.1 ≡ after_call z.0 z.1.seen (pass_of z.1).mine z.1.raised) (λ i. (shown i, sym is i))
      (λ i. record (after_call (pass_of seat) left mine next.raised) { ended = same i })

  pub visited_own : All (λ e. e.seat ≡ pass.number) (pass_of next).mine
  visited_own =
      subst (λ (z : PassView M × Place Entry (ℕ × M)). All (λ e. e.seat ≡ z.0.number) (pass_of z.1).mine) (λ i. (shown i, sym is i)) (calls_named seat.number left)

module _ {M : Type 0} where
  pub split_pass : (seat rest new : Place Entry (ℕ × M)) (old left made : PassView M) → pass_of seat ≡ old → pass_of rest ≡ left → pass_of new ≡ made → turn.IsSplit seat_of seat rest new
      → IsSplit old left made
  split_pass seat rest new old left made shown shown_left shown_new s =
      subst (λ (z : PassView M × PassView M × PassView M). IsSplit z.0 z.1 z.2) (λ i. (shown i, shown_left i, shown_new i)) (record {
        rest_is = ap pass_of s.rest_is;
        new_is = ap pass_of s.new_is ∙ ap (λ (es : List Entry). record (made_pass (pass_of seat) new.number ((seat.room - 1) / 2)) { mine = es }) s.none;
        positive = s.positive;
        apart = ap (times new.number) (pass_numbers seat) ∙ s.apart;
      })

  pub joined_pass : (into from new : Place Entry (ℕ × M)) (old given made : PassView M) → pass_of into ≡ old → pass_of from ≡ given → pass_of new ≡ made → turn.IsJoined seat_of into from new
      → IsJoined old given made
  joined_pass into from new old given made shown shown_from shown_new j =
      let seen = longer_of into.seen from.seen in
      let seen_is : new.seen ≡ seen = ap (λ (p : Place Entry (ℕ × M)). p.seen) j.new_is in
      let goes = subst (λ (h : List Entry). GoesOn seat_of (turn.numbers_of into) into.seen h) seen_is j.into_seen in
      let also = subst (λ (h : List Entry). GoesOn seat_of (turn.numbers_of from) from.seen h) seen_is j.from_seen in
      let mine : calls_of into.number seen ≡ calls_of into.number into.seen = goes.own into.number (let first = times_first into.number into.ended in omega arith) in
      let before = ended_same into.ended into.seen seen (λ n stands. goes.own n (let later = times_later n into.number into.ended in omega arith)) in
      let behind = ended_same (turn.numbers_of from) from.seen seen also.own in
      let ended = map-append (ended_in seen) into.ended (turn.numbers_of from) ∙ (λ i. before i ++ behind i) in
      subst (λ (z : PassView M × PassView M × PassView M). IsJoined z.0 z.1 z.2) (λ i. (shown i, shown_from i, shown_new i)) (record {
        new_is = ap pass_of j.new_is ∙ (λ i. record (pass_of into) {
          room = into.room + from.room;
          seen = seen;
          mine = mine i;
          ended = ended i;
          alone = false;
          raised = into.raised ++ from.raised;
          loaded = into.loaded ++ from.loaded;
        });
        into_seen = j.into_seen.front;
        from_seen = j.from_seen.front;
        distinct = λ n. subst (λ (ns : List ℕ). times n ns ≤ 1) (sym (pass_numbers new)) (j.distinct n);
      })
