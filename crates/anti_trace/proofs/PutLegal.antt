-- A legal trace stays legal as an entry is put into it that may come next at its object, that its actor may make, and whose stamp is the
-- next of both.
use Rattle.std.proofs.Common.{◌≡◌, ℕ, ◌+◌, ◌<◌, ◌≤◌, ◌++◌, ◌⊎◌, inl, inr, max, List, [], ◌∷◌, Bool, true, false, refl, sym, ap, ◌∙◌, subst, arith, append-nil, append_assoc}
use Rattle.std.specs.Prelude.{All, IsTrue, Some}
use Rattle.std.specs.List.{filter}
use Rattle.std.proofs.lemmas.Bool.{cases_Bool, cases_eq, false_from_ne_true, false≢true}
use Rattle.std.proofs.lemmas.List.Elements.{All-nil, All-cons, All-filter, All-weaker, filter-append}
use Rattle.anti_kind.specs.declared.actor.Actor.{Actor}
use Rattle.anti_kind.specs.declared.actor.Actor.TheVariants.{Carrier, Process, Newborn}
use Rattle.anti_kind.specs.declared.entry.Entry.{Entry}
use Rattle.anti_kind.specs.Objects.{Start, IsLegal, Follows, last_stamp}
use Rattle.anti_kind.proofs.Histories.{below_last, last_stamp-append, legal_more}
use Rattle.anti_app.specs.declared.app.App.{App}
use Rattle.anti_app.specs.Objects.{object_count}
use Rattle.anti_object.specs.Starts.{start_of}
use Rattle.anti_object.proofs.Starts.{start_known}
use Rattle.anti_trace.specs.Traces.{IsTrace, comes_before, entries_by, entries_on, is_by, is_on, put, same_actor}
use Rattle.anti_trace.specs.Legal.{AreStamps, IsCarried, IsLegalTrace, IsOfActor}
use Rattle.anti_trace.proofs.Orders.{not_before_le, stamp_le}
use Rattle.anti_trace.proofs.Puts.{All-put, entries_by-put_other, entries_by-put_same, entries_on-put_other, entries_on-put_same, filter-no, put-here, put-later, put_next_is_trace, same_actor_itself, same_actor_true}
use Rattle.anti_trace.proofs.OfLegal.{filter_cut, none_cut}
use borrow.Author.Tests.{eq-eqb, eqb-true}

-- ---- nothing has happened yet

pub legal_none : (app : App) → IsLegalTrace app []
legal_none app = record {
  order = tt;
  there = All-nil (λ e. e.object < object_count app);
  histories = λ o start at. tt;
  actors = nothing_done;
  stamps = λ before e later is. absurd (none_cut before e later is);
}
  where
    nothing_done : (a : Actor) → IsOfActor app a (entries_by a [])
    nothing_done (Carrier number) = All-nil IsCarried
    nothing_done (Process b) = tt
    nothing_done Newborn = refl

-- ---- where an entry is put

-- between entries before it and entries with no smaller stamp
pub record IsPut (e : Entry) (t : List Entry) : Type 0 where
  pub low : List Entry
  pub high : List Entry
  pub was : t ≡ low ++ high
  pub is : put e t ≡ low ++ e ∷ high
  pub above : All (λ d. e.stamp ≤ d.stamp) high

pub put_between : (e : Entry) (t : List Entry) → IsTrace t → IsPut e t
put_between e [] order = record { low = []; high = []; was = refl; is = refl; above = All-nil (λ d. e.stamp ≤ d.stamp) }
put_between e (d ∷ t) order =
    elim (cases_Bool (comes_before d e)) [
      | inl before ↦
          let further : IsPut e t = put_between e t order.1 in
          record {
            low = d ∷ further.low;
            high = further.high;
            was = ap (λ (r : List Entry). d ∷ r) further.was;
            is = put-later e d t before ∙ ap (λ (r : List Entry). d ∷ r) further.is;
            above = further.above;
          }
      | inr behind ↦
          let first : e.stamp ≤ d.stamp = not_before_le d e behind in
          record {
            low = [];
            high = d ∷ t;
            was = refl;
            is = put-here e d t behind;
            above = All-cons (λ x. e.stamp ≤ x.stamp) d t first
                (All-weaker (λ x. IsTrue (comes_before d x)) (λ x. e.stamp ≤ x.stamp) (λ x after. let more : d.stamp ≤ x.stamp = stamp_le d x after in omega arith) t order.0);
          }
    ]

-- A list with an entry in it, cut at some entry: this stands before it, or is it, or stands behind it.
abbrev pub Cut : (low : List Entry) (e : Entry) (high before : List Entry) (x : Entry) (later : List Entry) → Type 0
Cut low e high before x later =
    ((between : List Entry) × (low ≡ before ++ x ∷ between))
    ⊎ (((before ≡ low) × (x ≡ e)) ⊎ ((between : List Entry) × (before ≡ low ++ e ∷ between) × (high ≡ between ++ x ∷ later)))

more_cut : (d : Entry) (low : List Entry) (e : Entry) (high before : List Entry) (x : Entry) (later : List Entry) → Cut low e high before x later
    → Cut (d ∷ low) e high (d ∷ before) x later
more_cut d low e high before x later (inl earlier) = inl (earlier.0, ap (λ (r : List Entry). d ∷ r) earlier.1)
more_cut d low e high before x later (inr (inl here)) = inr (inl (ap (λ (r : List Entry). d ∷ r) here.0, here.1))
more_cut d low e high before x later (inr (inr behind)) = inr (inr (behind.0, ap (λ (r : List Entry). d ∷ r) behind.1, behind.2))

pub cut : (low : List Entry) (e : Entry) (high before : List Entry) (x : Entry) (later : List Entry) → low ++ e ∷ high ≡ before ++ x ∷ later
    → Cut low e high before x later
cut [] e high [] x later is = inr (inl (refl, let same : x ≡ e = cc in same))
cut [] e high (y ∷ before) x later is =
    let first : y ≡ e = cc in
    let rest : high ≡ before ++ x ∷ later = cc in
    inr (inr (before, ap (λ (d : Entry). d ∷ before) first, rest))
cut (z ∷ low) e high [] x later is = let first : z ≡ x = cc in inl (low, ap (λ (d : Entry). d ∷ low) first)
cut (z ∷ low) e high (y ∷ before) x later is =
    let first : z ≡ y = cc in
    let rest : low ++ e ∷ high ≡ before ++ x ∷ later = cc in
    subst (λ (d : Entry). Cut (z ∷ low) e high (d ∷ before) x later) first (more_cut z low e high before x later (cut low e high before x later rest))

-- ---- what a test keeps

module _ (p : Entry → Bool) where
  -- nothing where all kept stamps are below a number that none in the list is below
  none_above : (n : ℕ) (low high : List Entry) → All (λ d. n ≤ d.stamp) high → last_stamp (filter p (low ++ high)) < n → filter p high ≡ []
  none_above n low high above last = by_items (filter p high) refl (All-filter p (λ d. n ≤ d.stamp) high above)
    where
      both : last_stamp (filter p (low ++ high)) ≡ max (last_stamp (filter p low)) (last_stamp (filter p high))
      both = ap last_stamp (filter-append p low high) ∙ last_stamp-append (filter p low) (filter p high)

      by_items : (kept : List Entry) → filter p high ≡ kept → All (λ d. n ≤ d.stamp) kept → filter p high ≡ []
      by_items [] is all = is
      by_items (d ∷ kept) is all =
          let first : n ≤ d.stamp = all 0 d (omega arith) in
          let least : d.stamp ≤ last_stamp (filter p high) = subst (λ (k : List Entry). d.stamp ≤ last_stamp k) (sym is) (omega arith) in
          absurd (let whole = both in omega arith)

  -- an item that it does not keep makes no difference
  kept_without : (low : List Entry) (e : Entry) (between : List Entry) → p e ≡ false → filter p (low ++ e ∷ between) ≡ filter p (low ++ between)
  kept_without low e between off =
      filter-append p low (e ∷ between) ∙ ap (λ (r : List Entry). filter p low ++ r) (filter-no p e between off) ∙ sym (filter-append p low between)

  -- what it keeps of nothing
  kept_none : (between : List Entry) (x : Entry) (later : List Entry) → p x ≡ true → filter p (between ++ x ∷ later) ≡ [] → ⊥
  kept_none between x later on none = none_cut (filter p between) x (filter p later) (sym none ∙ filter_cut p between x later on)

-- ---- one entry more

module _ (app : App) (trace : List Entry) (legal : IsLegalTrace app trace) (e : Entry) (start : Start) (there : start_of app e.object ≡ Some start)
    (follows : Follows start (entries_on e.object trace) e)
    (did : IsOfActor app e.actor (entries_by e.actor trace ++ e ∷ []))
    (stamp : e.stamp ≡ max (last_stamp (entries_by e.actor trace)) (last_stamp (entries_on e.object trace)) + 1) where
  -- it comes behind all of its actor's
  pub own_before : All (λ d. d.stamp < e.stamp) (entries_by e.actor trace)
  own_before k d lt = let low = below_last (entries_by e.actor trace) k d lt in omega arith

  pub history_put : entries_on e.object (put e trace) ≡ entries_on e.object trace ++ e ∷ []
  history_put = entries_on-put_same e trace legal.order follows.stamp

  pub actor_put : entries_by e.actor (put e trace) ≡ entries_by e.actor trace ++ e ∷ []
  actor_put = entries_by-put_same e trace legal.order own_before

  histories_then : (o : ℕ) (found : Start) → start_of app o ≡ Some found → IsLegal found (entries_on o (put e trace))
  histories_then o found at =
      elim (cases_eq e.object o) [
        | inl same ↦
            let here : start_of app e.object ≡ Some found = subst (λ (x : ℕ). start_of app x ≡ Some found) (sym same) at in
            let is : start ≡ found = (let both : Some start ≡ Some found = sym there ∙ here in cc) in
            subst (λ (x : ℕ). IsLegal found (entries_on x (put e trace))) same
            (subst (IsLegal found) (sym history_put)
            (subst (λ (s : Start). IsLegal s (entries_on e.object trace ++ e ∷ [])) is
            (legal_more start (entries_on e.object trace) e (legal.histories e.object start there) follows)))
        | inr other ↦ subst (IsLegal found) (sym (entries_on-put_other o e trace other)) (legal.histories o found at)
      ]

  actors_then : (a : Actor) → IsOfActor app a (entries_by a (put e trace))
  actors_then a =
      elim (cases_Bool (same_actor e.actor a)) [
        | inl is ↦ subst (λ (x : Actor). IsOfActor app x (entries_by x (put e trace))) (same_actor_true e.actor a is)
            (subst (IsOfActor app e.actor) (sym actor_put) did)
        | inr off ↦ subst (IsOfActor app a)
            (sym (entries_by-put_other a e trace (λ same. false≢true (sym off ∙ ap (same_actor e.actor) (sym same) ∙ same_actor_itself e.actor))))
            (legal.actors a)
      ]

  module _ (split : IsPut e trace) where
    -- none of its actor's and none of its object's entries is behind it
    none_by : filter (is_by e.actor) split.high ≡ []
    none_by = none_above (is_by e.actor) e.stamp split.low split.high split.above
        (subst (λ (t : List Entry). last_stamp (entries_by e.actor t) < e.stamp) split.was (omega arith))

    none_on : filter (is_on e.object) split.high ≡ []
    none_on = none_above (is_on e.object) e.stamp split.low split.high split.above
        (subst (λ (t : List Entry). last_stamp (entries_on e.object t) < e.stamp) split.was (omega arith))

    all_by : entries_by e.actor trace ≡ entries_by e.actor split.low
    all_by =
        ap (entries_by e.actor) split.was ∙ filter-append (is_by e.actor) split.low split.high
        ∙ ap (λ (r : List Entry). entries_by e.actor split.low ++ r) none_by ∙ append-nil (entries_by e.actor split.low)

    all_on : entries_on e.object trace ≡ entries_on e.object split.low
    all_on =
        ap (entries_on e.object) split.was ∙ filter-append (is_on e.object) split.low split.high
        ∙ ap (λ (r : List Entry). entries_on e.object split.low ++ r) none_on ∙ append-nil (entries_on e.object split.low)

    -- an entry before it
    stamp_earlier : (before : List Entry) (x : Entry) (between : List Entry) → split.low ≡ before ++ x ∷ between
        → x.stamp ≡ max (last_stamp (entries_by x.actor before)) (last_stamp (entries_on x.object before)) + 1
    stamp_earlier before x between is =
        legal.stamps before x (between ++ split.high)
        (split.was ∙ ap (λ (r : List Entry). r ++ split.high) is ∙ append_assoc before (x ∷ between) split.high)

    -- itself
    stamp_here : e.stamp ≡ max (last_stamp (entries_by e.actor split.low)) (last_stamp (entries_on e.object split.low)) + 1
    stamp_here =
        stamp
        ∙ ap (λ (t : List Entry). max (last_stamp t) (last_stamp (entries_on e.object trace)) + 1) all_by
        ∙ ap (λ (t : List Entry). max (last_stamp (entries_by e.actor split.low)) (last_stamp t) + 1) all_on

    -- an entry behind it
    stamp_behind : (between : List Entry) (x : Entry) (later : List Entry) → split.high ≡ between ++ x ∷ later
        → x.stamp ≡ max (last_stamp (entries_by x.actor (split.low ++ e ∷ between))) (last_stamp (entries_on x.object (split.low ++ e ∷ between))) + 1
    stamp_behind between x later is =
        let other_actor : is_by x.actor e ≡ false = false_from_ne_true (is_by x.actor e) (λ same.
        kept_none (is_by e.actor) between x later (ap (same_actor e.actor) (same_actor_true x.actor e.actor same) ∙ same_actor_itself e.actor)
        (ap (filter (is_by e.actor)) (sym is) ∙ none_by)) in
        let other_object : is_on x.object e ≡ false = false_from_ne_true (is_on x.object e) (λ same.
        kept_none (is_on e.object) between x later (eq-eqb x.object e.object (sym (eqb-true e.object x.object same)))
        (ap (filter (is_on e.object)) (sym is) ∙ none_on)) in
        legal.stamps (split.low ++ between) x later
        (split.was ∙ ap (λ (r : List Entry). split.low ++ r) is ∙ sym (append_assoc split.low between (x ∷ later)))
        ∙ ap (λ (t : List Entry). max (last_stamp t) (last_stamp (entries_on x.object (split.low ++ between))) + 1) (sym (kept_without (is_by x.actor) split.low e between other_actor))
        ∙ ap (λ (t : List Entry). max (last_stamp (entries_by x.actor (split.low ++ e ∷ between))) (last_stamp t) + 1) (sym (kept_without (is_on x.object) split.low e between other_object))

    stamps_then : AreStamps (put e trace)
    stamps_then before x later is =
        elim (cut split.low e split.high before x later (sym split.is ∙ is)) [
          | inl earlier ↦ stamp_earlier before x earlier.0 earlier.1
          | inr rest ↦ elim rest [
            | inl here ↦
                subst (λ (y : Entry). y.stamp ≡ max (last_stamp (entries_by y.actor before)) (last_stamp (entries_on y.object before)) + 1) (sym here.1)
                (subst (λ (t : List Entry). e.stamp ≡ max (last_stamp (entries_by e.actor t)) (last_stamp (entries_on e.object t)) + 1) (sym here.0) stamp_here)
            | inr behind ↦
                subst (λ (t : List Entry). x.stamp ≡ max (last_stamp (entries_by x.actor t)) (last_stamp (entries_on x.object t)) + 1) (sym behind.1)
                (stamp_behind behind.0 x later behind.2)
          ]
        ]

  pub legal_put : IsLegalTrace app (put e trace)
  legal_put = record {
    order = put_next_is_trace e trace legal.order follows.stamp;
    there = All-put (λ x. x.object < object_count app) e trace (start_known app e.object start there) legal.there;
    histories = histories_then;
    actors = actors_then;
    stamps = stamps_then (put_between e trace legal.order);
  }
