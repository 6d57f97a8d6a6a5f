-- The histories that workers made are those of a legal trace: what an actor did in any trace of these histories is what its worker did as it.
use Rattle.std.proofs.Common.{◌≡◌, ℕ, ◌+◌, ◌-◌, ◌<◌, ◌++◌, max, true, List, [], ◌∷◌, length, get_or, take, refl, sym, ap, ◌∙◌, subst, inl, inr, arith}
use Rattle.std.specs.Prelude.{◌==◌, All, Contains, Some}
use Rattle.std.proofs.Math.Seq.{take-append_seam}
use Rattle.std.proofs.lemmas.Bool.{cases_eq, cases_lt, eq-eqb, eqb-true}
use Rattle.std.proofs.lemmas.List.{get_or_default}
use Rattle.std.proofs.lemmas.List.Elements.{All-contains, Contains-append_right, Contains-get_or}
use Rattle.anti_kind.specs.declared.actor.Actor.{Actor}
use Rattle.anti_kind.specs.declared.actor.Actor.TheVariants.{Carrier, Process, Newborn}
use Rattle.anti_kind.specs.declared.actor.Birth.{Birth}
use Rattle.anti_kind.specs.declared.entry.Entry.{Entry}
use Rattle.anti_kind.specs.Objects.{Start, Follows, IsLegal, last_stamp}
use Rattle.anti_kind.proofs.Finding.{filter_contains}
use Rattle.anti_kind.proofs.Histories.{follows_in, placed}
use Rattle.anti_shared.specs.Passes.{calls_of, seat_of}
use Rattle.anti_app.specs.declared.app.App.{App}
use Rattle.anti_app.specs.Objects.{object_count}
use Rattle.anti_object.specs.Starts.{start_of}
use Rattle.anti_object.proofs.Starts.{start_there}
use Rattle.anti_trace.specs.Legal.{AreStamps, IsLegalTrace, IsLife, IsOfActor}
use Rattle.anti_trace.specs.Traces.{IsTrace, entries_by, entries_on, is_by, is_on}
use Rattle.anti_trace.proofs.OfLegal.{filter_cut}
use Rattle.anti_trace.proofs.PutLegal.{legal_none}
use Rattle.anti_trace.proofs.Puts.{same_actor_itself, same_actor_true}
use Rattle.anti_trace.proofs.Sames.{same_trace}
use Rattle.anti_work.specs.inner.Works.{AreMadeBy, AreStampsOf, stamp_before}
use Rattle.anti_trace.proofs.Filters.{IsKeptAt, filter_at, filter_swap, filter_trace, filter_within, rises_trace}

-- nothing is in an empty list
pub none_in : (h : List Entry) (e : Entry) → h ≡ [] → Contains h e → ⊥
none_in h e none among = let long : length h ≡ 0 = ap length none in omega (arith, among.1, long)

-- ---- what an actor did in the list of one worker

module _ (histories : ℕ → List Entry) (calls : List Entry) (stamps : AreStampsOf histories calls) (a : Actor) where
  -- the stamp of an entry by what its actor did before
  pub stamp_by_actor : (front : List Entry) (e : Entry) (back : List Entry) → entries_by a calls ≡ front ++ e ∷ back
      → e.stamp ≡ max (last_stamp front) (stamp_before (histories e.object) e.place) + 1
  stamp_by_actor front e back is =
      let at : IsKeptAt (is_by a) calls front e back = filter_at (is_by a) calls front e back is in
      let own : a ≡ e.actor = same_actor_true a e.actor at.passes in
      let front_is : entries_by e.actor at.before ≡ front = subst (λ (x : Actor). entries_by x at.before ≡ front) own at.front_is in
      stamps at.before e at.after at.cut ∙ ap (λ (h : List Entry). max (last_stamp h) (stamp_before (histories e.object) e.place) + 1) front_is

  -- so what it did is a trace
  pub actor_trace : IsTrace (entries_by a calls)
  actor_trace = rises_trace (entries_by a calls) (λ front e back is. let stamp = stamp_by_actor front e back is in omega arith)

-- ---- whose an entry is

-- a worker made the entry, by its pass of the object
pub record IsCallOf (seat : ℕ → ℕ → ℕ) (count : ℕ) (works : ℕ → List Entry) (o : ℕ) (e : Entry) : Type 0 where
  pub worker : ℕ
  pub low : worker < count
  pub seat_is : e.seat ≡ seat worker o
  pub own : Contains (works worker) e

-- A process was born by a pass of this seat.
pub record IsBornBy (histories : ℕ → List Entry) (seat : ℕ) (b : Birth) : Type 0 where
  pub entry : Entry
  pub there : Contains (histories b.object) entry
  pub place_is : entry.place ≡ b.place
  pub seat_is : entry.seat ≡ seat

module _ (app : App) (histories : ℕ → List Entry) (seat : ℕ → ℕ → ℕ) (count : ℕ) (works : ℕ → List Entry)
    (are : AreMadeBy app histories seat count works) where
  -- a call of a worker stands in the history of its object, by the worker's pass
  pub in_history : (w : ℕ) → w < count → (e : Entry) → Contains (works w) e → Contains (histories e.object) e × (e.seat ≡ seat w e.object)
  in_history w low e among =
      let on : Contains (entries_on e.object (works w)) e =
      (filter_contains (is_on e.object) (works w) e).1 (among, eq-eqb e.object e.object refl) in
      let its : Contains (calls_of (seat w e.object) (histories e.object)) e =
      subst (λ (h : List Entry). Contains h e) (sym (are.made w e.object low)) on in
      let both : Contains (histories e.object) e × ((seat_of e == seat w e.object) ≡ true) =
      (filter_contains (λ x. seat_of x == seat w e.object) (histories e.object) e).0 its in
      (both.0, eqb-true e.seat (seat w e.object) both.1)

  -- and each entry of a history is a call of a worker
  pub of_worker : (o : ℕ) (e : Entry) → Contains (histories o) e → IsCallOf seat count works o e
  of_worker o e among =
      let its : (w : ℕ) × ((w < count) × (e.seat ≡ seat w o)) =
      All-contains (λ x. (w : ℕ) × ((w < count) × (x.seat ≡ seat w o))) (histories o) e (are.each o) among in
      let called : Contains (calls_of (seat its.0 o) (histories o)) e =
      (filter_contains (λ x. seat_of x == seat its.0 o) (histories o) e).1 (among, eq-eqb e.seat (seat its.0 o) its.1.1) in
      let on : Contains (entries_on o (works its.0)) e = subst (λ (h : List Entry). Contains h e) (are.made its.0 o its.1.0) called in
      record { worker = its.0; low = its.1.0; seat_is = its.1.1; own = ((filter_contains (is_on o) (works its.0) e).0 on).0 }

  -- an object with an entry is there
  pub inside : (o : ℕ) (e : Entry) → Contains (histories o) e → o < object_count app
  inside o e among =
      elim (cases_lt o (object_count app)) as (λ _. o < object_count app) [
        | inl low ↦ low
        | inr high ↦ absurd (none_in (histories o) e (are.there o high) among)
      ]

  -- ---- each actor is of one worker

  -- the carrier of a worker
  pub its_carrier : (n w : ℕ) → w < count → (e : Entry) → Contains (entries_by (Carrier n) (works w)) e → n ≡ w + 1
  its_carrier n w low e among =
      elim (cases_eq n (w + 1)) as (λ _. n ≡ w + 1) [
        | inl same ↦ same
        | inr other ↦ absurd (none_in (entries_by (Carrier n) (works w)) e ((are.work_is w low).carrier n other) among)
      ]

  -- a worker that made an entry of a process made the one by which it was born
  born_by : (b : Birth) (w : ℕ) → w < count → (e : Entry) → Contains (entries_by (Process b) (works w)) e → IsBornBy histories (seat w b.object) b
  born_by b w low e among = by_entries (entries_by (Process b) (works w)) refl ((are.work_is w low).actors (Process b))
    where
      by_entries : (es : List Entry) → entries_by (Process b) (works w) ≡ es → IsLife app b es → IsBornBy histories (seat w b.object) b
      by_entries [] is life = absurd (none_in (entries_by (Process b) (works w)) e is among)
      by_entries (birth ∷ later) is life =
          let first : Contains (entries_by (Process b) (works w)) birth = subst (λ (h : List Entry). Contains h birth) (sym is) (0, omega arith, refl) in
          let its : Contains (histories birth.object) birth × (birth.seat ≡ seat w birth.object) =
          in_history w low birth ((filter_contains (is_by (Process b)) (works w) birth).0 first).0 in
          let object : birth.object ≡ b.object = ap (λ (x : Birth). x.object) life.0.named in
          record {
            entry = birth;
            there = subst (λ (o : ℕ). Contains (histories o) birth) object its.0;
            place_is = ap (λ (x : Birth). x.place) life.0.named;
            seat_is = its.1 ∙ ap (seat w) object;
          }

  -- a place of a history has one entry
  one_at : (o : ℕ) (d e : Entry) → Contains (histories o) d → Contains (histories o) e → d.place ≡ e.place → d ≡ e
  one_at o d e one other same =
      let there : (start : Start) × (start_of app o ≡ Some start) = start_there app o (inside o d one) in
      let legal : IsLegal there.0 (histories o) = are.legal o there.0 there.1 in
      let first : d.place ≡ one.0 + 1 = ap (λ (x : Entry). x.place) (sym one.2) ∙ placed there.0 (histories o) legal one.0 d one.1 in
      let second : e.place ≡ other.0 + 1 = ap (λ (x : Entry). x.place) (sym other.2) ∙ placed there.0 (histories o) legal other.0 e other.1 in
      let at : one.0 ≡ other.0 = omega (arith, first, second, same) in
      sym one.2 ∙ get_or_default (histories o) one.0 d e one.1 ∙ ap (λ (k : ℕ). get_or (histories o) k e) at ∙ other.2

  pub one_worker : (a : Actor) (v w : ℕ) → v < count → w < count → (d e : Entry) → Contains (entries_by a (works v)) d
      → Contains (entries_by a (works w)) e → v ≡ w
  one_worker (Carrier n) v w l r d e one other =
      let first : n ≡ v + 1 = its_carrier n v l d one in
      let second : n ≡ w + 1 = its_carrier n w r e other in
      omega arith
  one_worker (Process b) v w l r d e one other =
      let first : IsBornBy histories (seat v b.object) b = born_by b v l d one in
      let second : IsBornBy histories (seat w b.object) b = born_by b w r e other in
      let same : first.entry ≡ second.entry = one_at b.object first.entry second.entry first.there second.there (first.place_is ∙ sym second.place_is) in
      are.apart b.object v w (inside b.object first.entry first.there) l r (sym first.seat_is ∙ ap (λ (x : Entry). x.seat) same ∙ second.seat_is)
  one_worker Newborn v w l r d e one other = absurd (none_in (entries_by Newborn (works v)) d ((are.work_is v l).actors Newborn) one)

  -- ---- a trace of the histories

  module _ (trace : List Entry) (order : IsTrace trace) (same : (o : ℕ) → entries_on o trace ≡ histories o) where
    -- an entry of the trace stands in its history
    pub from_trace : (e : Entry) → Contains trace e → Contains (histories e.object) e
    from_trace e among =
        subst (λ (h : List Entry). Contains h e) (same e.object)
        ((filter_contains (is_on e.object) trace e).1 (among, eq-eqb e.object e.object refl))

    -- a call of a worker stands in the trace
    pub in_trace : (w : ℕ) → w < count → (e : Entry) → Contains (works w) e → Contains trace e
    in_trace w low e among =
        ((filter_contains (is_on e.object) trace e).0
        (subst (λ (h : List Entry). Contains h e) (sym (same e.object)) (in_history w low e among).0)).0

    -- what an actor did in it is what its worker did as it
    module _ (a : Actor) (w : ℕ) (low : w < count) (e : Entry) (among : Contains (entries_by a (works w)) e) where
      own_seat : (o : ℕ) → All (λ x. is_by a x ≡ true → (seat_of x == seat w o) ≡ true) (histories o)
      own_seat o = λ k d short by.
          let x : Entry = get_or (histories o) k d in
          let its : IsCallOf seat count works o x = of_worker o x (Contains-get_or (histories o) k d short) in
          let own : Contains (entries_by a (works its.worker)) x = (filter_contains (is_by a) (works its.worker) x).1 (its.own, by) in
          let one : its.worker ≡ w = one_worker a its.worker w its.low low x e own among in
          eq-eqb x.seat (seat w o) (its.seat_is ∙ ap (λ (v : ℕ). seat v o) one)

      on_object : (o : ℕ) → entries_on o (entries_by a trace) ≡ entries_on o (entries_by a (works w))
      on_object o =
          filter_swap (is_on o) (is_by a) trace
          ∙ ap (entries_by a) (same o)
          ∙ sym (filter_within (is_by a) (λ x. seat_of x == seat w o) (histories o) (own_seat o))
          ∙ ap (entries_by a) (are.made w o low)
          ∙ filter_swap (is_by a) (is_on o) (works w)

      pub did_same : entries_by a trace ≡ entries_by a (works w)
      did_same = same_trace (entries_by a trace) (entries_by a (works w)) (filter_trace (is_by a) trace order)
          (actor_trace histories (works w) (are.work_is w low).stamps a) on_object

    -- the worker of an actor that did something
    pub by_worker : (a : Actor) (e : Entry) → Contains (entries_by a trace) e → (w : ℕ) × ((w < count) × (entries_by a trace ≡ entries_by a (works w)))
    by_worker a e among =
        let both : Contains trace e × (is_by a e ≡ true) = (filter_contains (is_by a) trace e).0 among in
        let its : IsCallOf seat count works e.object e = of_worker e.object e (from_trace e both.0) in
        let own : Contains (entries_by a (works its.worker)) e = (filter_contains (is_by a) (works its.worker) e).1 (its.own, both.1) in
        (its.worker, (its.low, did_same a its.worker its.low e own))

    actors_then : (a : Actor) → IsOfActor app a (entries_by a trace)
    actors_then a = by_entries (entries_by a trace) refl
      where
        by_entries : (es : List Entry) → entries_by a trace ≡ es → IsOfActor app a (entries_by a trace)
        by_entries [] is = subst (IsOfActor app a) (sym is) ((legal_none app).actors a)
        by_entries (e ∷ es) is =
            let its : (w : ℕ) × ((w < count) × (entries_by a trace ≡ entries_by a (works w))) =
            by_worker a e (subst (λ (h : List Entry). Contains h e) (sym is) (0, omega arith, refl)) in
            subst (IsOfActor app a) (sym its.1.1) ((are.work_is its.0 its.1.0).actors a)

    stamps_then : AreStamps trace
    stamps_then before e after is =
        let among : Contains trace e = subst (λ (h : List Entry). Contains h e) (sym is) (Contains-append_right before (e ∷ after) e (0, omega arith, refl)) in
        let its : (w : ℕ) × ((w < count) × (entries_by e.actor trace ≡ entries_by e.actor (works w))) =
        by_worker e.actor e ((filter_contains (is_by e.actor) trace e).1 (among, same_actor_itself e.actor)) in
        let own_is : entries_by e.actor (works its.0) ≡ entries_by e.actor before ++ e ∷ entries_by e.actor after =
        sym its.1.1 ∙ ap (entries_by e.actor) is ∙ filter_cut (is_by e.actor) before e after (same_actor_itself e.actor) in
        let there_is : histories e.object ≡ entries_on e.object before ++ e ∷ entries_on e.object after =
        sym (same e.object) ∙ ap (entries_on e.object) is ∙ filter_cut (is_on e.object) before e after (eq-eqb e.object e.object refl) in
        let there : (start : Start) × (start_of app e.object ≡ Some start) = start_there app e.object (inside e.object e (from_trace e among)) in
        let follows : Follows there.0 (entries_on e.object before) e =
        follows_in there.0 (entries_on e.object before) e (entries_on e.object after) (subst (IsLegal there.0) there_is (are.legal e.object there.0 there.1)) in
        let at : e.place - 1 ≡ length (entries_on e.object before) = omega (arith, follows.place) in
        let before_is : stamp_before (histories e.object) e.place ≡ last_stamp (entries_on e.object before) =
        ap last_stamp
        (ap (take (e.place - 1)) there_is ∙ ap (λ (n : ℕ). take n (entries_on e.object before ++ e ∷ entries_on e.object after)) at
        ∙ take-append_seam (entries_on e.object before) (e ∷ entries_on e.object after)) in
        stamp_by_actor histories (works its.0) (are.work_is its.0 its.1.0).stamps e.actor (entries_by e.actor before) e (entries_by e.actor after) own_is
        ∙ ap (λ (n : ℕ). max (last_stamp (entries_by e.actor before)) n + 1) before_is

    pub merged_is_legal : IsLegalTrace app trace
    merged_is_legal = record {
      order = order;
      there = λ k d short. inside (get_or trace k d).object (get_or trace k d) (from_trace (get_or trace k d) (Contains-get_or trace k d short));
      histories = λ o start at. subst (IsLegal start) (sym (same o)) (are.legal o start at);
      actors = actors_then;
      stamps = stamps_then;
    }
