-- The passes of the workers are joined into the first passes, one by one.
use Rattle.std.proofs.Common.{◌≡◌, ◌≢◌, ℕ, ◌+◌, ◌-◌, ◌<◌, ◌⊎◌, List, [], ◌∷◌, ◌++◌, length, map, reverse, get_or, All, inl, inr, refl, sym, ap, subst, ◌∙◌, ⊎_elim, append_assoc, append-nil, length-append, arith}
use Rattle.std.specs.Prelude.{Some, slice_get, slice_set}
use Rattle.std.proofs.lemmas.Bool.{cases_eq}
use Rattle.std.proofs.lemmas.List.{length-reverse, length-set, map-append, reverse-append, reverse-reverse, get_or-reverse}
use Rattle.std.proofs.lemmas.List.Elements.{All-pop, All-push, All-weaker}
use Rattle.std.proofs.lemmas.Option.{same_Some, slice_get-get_or, slice_get_within}
use Rattle.anti_kind.specs.declared.entry.Entry.{Entry}
use Rattle.anti_turn.specs.Lists.{IsFront}
use Rattle.anti_turn.proofs.Fronts.{front_trans}
use Rattle.anti_shared.specs.Passes.{Identity, IsJoined, PassView, SharedView}
use Rattle.anti_object.specs.declared.object.Object.{Object}
use Rattle.anti_trace.proofs.Changed.{set_here, set_other}
use Rattle.anti_work.specs.declared.done.Done.{Done}
use Rattle.anti_work.specs.inner.Gathering.{HasJoined, pair_at}
use Rattle.anti_work.specs.inner.Joining.{AreJoining, AreTaking, HaveJoined, HaveTaken, IsDoneOf, IsOfPlace, IsTaken, passes_of}
use Rattle.anti_work.specs.inner.Knowing.{AreOf, mine_of, number_of, seen_at, seen_by}

-- ---- one item of a list

-- what stands at a place after one was replaced
pub at_set : {X : Type 0} (xs : List X) (i k : ℕ) (y z : X) → slice_get (slice_set xs i y) k ≡ Some z → ((i ≡ k) × (y ≡ z)) ⊎ ((i ≢ k) × (slice_get xs k ≡ Some z))
at_set xs i k y z at =
    ⊎_elim
    (λ (same : i ≡ k).
    let low = slice_get_within (slice_set xs i y) k z at in
    let long : length (slice_set xs i y) ≡ length xs = length-set xs i y in
    inl (same, same_Some y z (sym (set_here xs i y (omega arith)) ∙ ap (slice_get (slice_set xs i y)) same ∙ at)))
    (λ (apart : i ≢ k). inr (apart, sym (set_other xs i y k apart) ∙ at))
    (cases_eq i k)

at_behind : {X : Type 0} (front : List X) (x : X) (rest : List X) → slice_get (front ++ x ∷ rest) (length front) ≡ Some x
at_behind [] x rest = refl
at_behind (y ∷ front) x rest = at_behind front x rest

All-reverse : {X : Type 0} (P : X → Type 0) (xs : List X) → All P xs → All P (reverse xs)
All-reverse P xs all k d within =
    let long : length (reverse xs) ≡ length xs = length-reverse xs in
    subst P (sym (get_or-reverse xs k d (omega arith))) (all (length xs - 1 - k) d (omega arith))

-- ---- one pass into another

module _ (into from after : PassView Object) (joined : IsJoined into from after) where
  same_id : after.id ≡ into.id
  same_id = ap (λ (p : PassView Object). p.id) joined.new_is

  same_mine : after.mine ≡ into.mine
  same_mine = ap (λ (p : PassView Object). p.mine) joined.new_is

  ended_now : after.ended ≡ into.ended ++ (from.number, from.mine) ∷ from.ended
  ended_now = ap (λ (p : PassView Object). p.ended) joined.new_is

joined_as : (into p from q after r : PassView Object) → into ≡ p → from ≡ q → after ≡ r → IsJoined into from after → IsJoined p q r
joined_as into p from q after r is from_is after_is joined =
    subst (λ (z : PassView Object × PassView Object × PassView Object). IsJoined z.0 z.1 z.2) (λ i. (is i, from_is i, after_is i)) joined

-- ---- the passes of a worker

module _ (shared : List (SharedView Object)) where
  -- one pass was replaced by another of its object
  pub set_of : (old : List (PassView Object)) (o : ℕ) (into after : PassView Object) → AreOf shared old → slice_get old o ≡ Some into → after.id ≡ into.id → AreOf shared (slice_set old o after)
  set_of old o into after of was id_is = record {
    count = length-set old o after ∙ of.count;
    each = λ k s pass there at. ⊎_elim
        (λ (t : (o ≡ k) × (after ≡ pass)).
        ap (λ (p : PassView Object). p.id) (sym t.1) ∙ id_is ∙ of.each k s into there (subst (λ (n : ℕ). slice_get old n ≡ Some into) t.0 was))
        (λ (t : (o ≢ k) × (slice_get old k ≡ Some pass)). of.each k s pass there t.1)
        (at_set old o k after pass at);
    numbered = λ k pass at. ⊎_elim
        (λ (t : (o ≡ k) × (after ≡ pass)).
        ap (λ (p : PassView Object). p.id.object) (sym t.1) ∙ ap (λ (i : Identity Object). i.object) id_is
        ∙ of.numbered k into (subst (λ (n : ℕ). slice_get old n ≡ Some into) t.0 was))
        (λ (t : (o ≢ k) × (slice_get old k ≡ Some pass)). of.numbered k pass t.1)
        (at_set old o k after pass at);
  }

  taken_of : (o : ℕ) (from : PassView Object) (old new : List (PassView Object)) → AreOf shared old → IsTaken o from old new → AreOf shared new
  taken_of o from old new of taken =
      subst (AreOf shared) (sym taken.is) (set_of old o taken.into taken.after of taken.was (same_id taken.into from taken.after taken.joined))

  module _ (old from : List (PassView Object)) where
    pub taking_first : AreOf shared old → AreTaking shared old from from old
    taking_first of = record {
      rest = [];
      whole = sym (append-nil from);
      of = of;
      before = λ o pass low at. at;
      taken = λ o p q r past was at now. let low = slice_get_within from o q at in absurd (omega arith);
    }

    module _ (all left : List (PassView Object)) (pass : PassView Object) (new : List (PassView Object)) (is : all ≡ left ++ pass ∷ []) (t : AreTaking shared old from all new) where
      next_whole : from ≡ left ++ pass ∷ t.rest
      next_whole = t.whole ∙ ap (λ (ps : List (PassView Object)). ps ++ t.rest) is ∙ append_assoc left (pass ∷ []) t.rest

      next_at : slice_get from (length left) ≡ Some pass
      next_at = ap (λ (ps : List (PassView Object)). slice_get ps (length left)) next_whole ∙ at_behind left pass t.rest

      one_more : length all ≡ length left + 1
      one_more = ap length is ∙ length-append left (pass ∷ [])

      pub next_there : AreOf shared from → length left < length shared
      next_there of = let low = slice_get_within from (length left) pass next_at in let count = of.count in omega arith

      pub next_of : AreOf shared from → IsOfPlace shared (length left) pass
      next_of of s there = of.each (length left) s pass there next_at

      pub taking_more : (later : List (PassView Object)) → IsTaken (length left) pass new later → AreTaking shared old from left later
      taking_more later taken =
          let long = one_more in
          let now_at : (o : ℕ) (r : PassView Object) → slice_get later o ≡ Some r → ((length left ≡ o) × (taken.after ≡ r)) ⊎ ((length left ≢ o) × (slice_get new o ≡ Some r)) =
          λ o r now. at_set new (length left) o taken.after r (ap (λ (ps : List (PassView Object)). slice_get ps o) (sym taken.is) ∙ now) in
          record {
            rest = pass ∷ t.rest;
            whole = next_whole;
            of = taken_of (length left) pass new later t.of taken;
            before = λ o p low now. ⊎_elim
                (λ (here : (length left ≡ o) × (taken.after ≡ p)). absurd (let at = here.0 in omega arith))
                (λ (other : (length left ≢ o) × (slice_get new o ≡ Some p)). t.before o p (omega arith) other.1)
                (now_at o p now);
            taken = λ o p q r past was at now. ⊎_elim
                (λ (here : (length left ≡ o) × (taken.after ≡ r)).
                let first : slice_get old (length left) ≡ Some taken.into = t.before (length left) taken.into (omega arith) taken.was in
                joined_as taken.into p pass q taken.after r
                (same_Some taken.into p (sym first ∙ ap (slice_get old) here.0 ∙ was))
                (same_Some pass q (sym next_at ∙ ap (slice_get from) here.0 ∙ at))
                here.1 taken.joined)
                (λ (other : (length left ≢ o) × (slice_get new o ≡ Some r)). let apart = other.0 in t.taken o p q r (omega arith) was at other.1)
                (now_at o r now);
          }

    pub taking_all : (left new : List (PassView Object)) → length left ≡ 0 → AreTaking shared old from left new → HaveTaken old from new
    taking_all left new none t = λ o p q r past was at now. t.taken o p q r (omega arith) was at now

-- ---- those of all workers

module _ (o : ℕ) (joined : List (List (PassView Object))) (from : List (PassView Object)) (p q r : PassView Object)
    (at : slice_get from o ≡ Some q) (single : q.ended ≡ []) (have : HasJoined o joined p) (more : IsJoined p q r) where
  pair_there : pair_at o from ≡ (q.number, q.mine)
  pair_there = λ i. (ap number_of at i, ap mine_of at i)

  joined_more : HasJoined o (joined ++ from ∷ []) r
  joined_more = record {
    none = same_mine p q r more ∙ have.none;
    ended = ended_now p q r more
        ∙ (λ i. have.ended i ++ sym pair_there i ∷ single i)
        ∙ sym (map-append (pair_at o) joined (from ∷ []));
    fronts = All-push (λ (ps : List (PassView Object)). IsFront (seen_at ps o) r.seen) joined from
        (All-weaker (λ (ps : List (PassView Object)). IsFront (seen_at ps o) p.seen) (λ (ps : List (PassView Object)). IsFront (seen_at ps o) r.seen)
        (λ ps front. front_trans (seen_at ps o) p.seen r.seen front more.into_seen) joined have.fronts)
        (subst (λ (h : List Entry). IsFront h r.seen) (sym (ap seen_by at)) more.from_seen);
  }

module _ (shared : List (SharedView Object)) where
  have_more : (joined : List (List (PassView Object))) (done : Done) (old new : List (PassView Object)) → AreOf shared old → AreOf shared new → IsDoneOf shared done
      → HaveJoined joined old → HaveTaken old (passes_of done) new → HaveJoined (joined ++ passes_of done ∷ []) new
  have_more joined done old new of of_new given have taken o r now =
      let from = passes_of done in
      let low = slice_get_within new o r now in
      let many = of.count in
      let many_new = of_new.count in
      let many_from = given.of.count in
      let was : slice_get old o ≡ Some (get_or old o r) = slice_get-get_or old o r (omega arith) in
      let at : slice_get from o ≡ Some (get_or from o r) = slice_get-get_or from o r (omega arith) in
      joined_more o joined from (get_or old o r) (get_or from o r) r at (given.single o (get_or from o r) at) (have o (get_or old o r) was)
      (taken o (get_or old o r) (get_or from o r) r (omega arith) was at now)

  pub joining_first : (all : List Done) (firsts : List (PassView Object)) → AreOf shared firsts → HaveJoined [] firsts → All (IsDoneOf shared) all → AreJoining shared all (reverse all) firsts
  joining_first all firsts of have given = record {
    joined = [];
    whole = ap (map passes_of) (reverse-reverse all);
    of = of;
    have = have;
    done = All-reverse (IsDoneOf shared) all given;
  }

  module _ (all whole left : List Done) (done : Done) (old : List (PassView Object)) (is : whole ≡ left ++ done ∷ []) (j : AreJoining shared all whole old) where
    rest_done : All (IsDoneOf shared) left × IsDoneOf shared done
    rest_done = All-pop (IsDoneOf shared) whole left (Some done) is j.done

    pub done_of : AreOf shared (passes_of done)
    done_of = rest_done.1.of

    pub joining_more : (new : List (PassView Object)) → AreOf shared new → HaveTaken old (passes_of done) new → AreJoining shared all left new
    joining_more new of taken = record {
      joined = j.joined ++ passes_of done ∷ [];
      whole = append_assoc j.joined (passes_of done ∷ []) (map passes_of (reverse left))
          ∙ ap (λ (ds : List Done). j.joined ++ map passes_of ds) (sym (reverse-append left (done ∷ [])) ∙ sym (ap reverse is))
          ∙ j.whole;
      of = of;
      have = have_more j.joined done old new j.of of rest_done.1 j.have taken;
      done = rest_done.0;
    }

  pub joining_all : (all left : List Done) (firsts : List (PassView Object)) → length left ≡ 0 → AreJoining shared all left firsts → HaveJoined (map passes_of all) firsts
  joining_all all [] firsts none j = subst (λ (js : List (List (PassView Object))). HaveJoined js firsts) (sym (append-nil j.joined) ∙ j.whole) j.have
  joining_all all (done ∷ left) firsts none j = absurd (omega arith)
