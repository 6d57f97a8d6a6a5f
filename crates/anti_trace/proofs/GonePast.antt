-- The objects of an application as they go past the entries of a trace.
use Rattle.std.proofs.Common.{Option, Some, None, MatchOption, ◌≡◌, ℕ, ◌+◌, ◌<◌, ◌≤◌, false, refl, List, [], ◌∷◌, ◌++◌, length, take, drop, get_or, ap, sym, subst, ◌∙◌, inl, inr, arith, length-append, append-nil}
use Rattle.std.specs.Prelude.{slice_set}
use Rattle.std.proofs.lemmas.Bool.{cases_lt, eq-eqb, ne_eqb}
use Rattle.std.proofs.lemmas.List.{take-append-drop, take_more, drop_more, get_or_append_left, length-set, get_or-set_same, get_or-set_other}
use Rattle.std.proofs.lemmas.List.Elements.{filter-append}
use Rattle.std.proofs.Math.Seq.{get_or-append_seam}
use Rattle.anti_kind.specs.declared.call.Call.{Call}
use Rattle.anti_kind.specs.declared.entry.Entry.{Entry}
use Rattle.anti_kind.specs.Objects.{Follows}
use Rattle.anti_app.specs.declared.app.App.{App}
use Rattle.anti_app.specs.Objects.{object_count}
use Rattle.anti_object.specs.declared.object.Object.{Object}
use Rattle.anti_object.specs.Standing.{object_start, ObjectAt, ObjectStands, MayApply, IsNew}
use Rattle.anti_object.specs.Starts.{start_of}
use Rattle.anti_object.proofs.Histories.{at_more}
use Rattle.anti_object.proofs.Starts.{start_past, start_there}
use Rattle.anti_trace.specs.Traces.{is_on, entries_on}
use Rattle.anti_trace.specs.Ends.{is_full_after}
use Rattle.anti_trace.specs.Legal.{IsLegalTrace}
use Rattle.anti_trace.specs.inner.After.{AreAfter, AreBefore, AreFirst, IsAfter}
use Rattle.anti_trace.proofs.Living.{decide}
use Rattle.anti_trace.proofs.Puts.{filter-no}
use Rattle.anti_trace.proofs.OfLegal.{filter_cut, follows_before}

-- an object past the last is never full
pub none_full : (app : App) (trace : List Entry) (o : ℕ) (objects : List Object) (call : Call) → AreAfter app trace objects → length objects ≤ o
    → false ≡ is_full_after (entries_on o trace) call (start_of app o)
none_full app trace o objects call all past =
    sym (ap (is_full_after (entries_on o trace) call) (start_past app o (omega (arith, all.many, past))))

-- each number of an object has one
pub no_object : (app : App) (o : ℕ) (x : Option Object) → x ≡ None → MatchOption x (start_of app o ≡ None) (IsNew app o) → o < object_count app → ⊥
no_object app o None is none lt = let there = start_there app o lt in let start : start_of app o ≡ Some there.0 = there.1 in cc
no_object app o (Some y) is new lt = cc

-- ---- nothing has happened yet

-- one object more
pub first_more : (app : App) (count : ℕ) (objects : List Object) (x : Object) → AreFirst app count objects → IsNew app count x → AreFirst app (count + 1) (objects ++ x ∷ [])
first_more app count objects x all is = record {
  many = omega (arith, all.many, length-append objects (x ∷ []));
  each = λ o d lt. elim (cases_lt o (length objects)) [
    | inl before ↦ subst (IsAfter app [] o) (sym (get_or_append_left objects (x ∷ []) d o before)) (all.each o d before)
    | inr last ↦
        let same : count ≡ o = omega (arith, last, lt, all.many, length-append objects (x ∷ [])) in
        let here : get_or (objects ++ x ∷ []) o d ≡ x =
        ap (λ (k : ℕ). get_or (objects ++ x ∷ []) k d) (sym same ∙ sym all.many) ∙ get_or-append_seam objects x [] d in
        subst (IsAfter app [] o) (sym here) (subst (λ (k : ℕ). IsAfter app [] k x) same (record { start = is.start; stands = is.stands }))
  ];
}

pub first_are : (app : App) (objects : List Object) → AreFirst app (object_count app) objects → AreAfter app [] objects
first_are app objects first = record { many = first.many; each = first.each }

-- ---- one entry more

-- the history of an object gets its entries, and no other
pub entries_on_next : (before : List Entry) (e : Entry) → entries_on e.object (before ++ e ∷ []) ≡ entries_on e.object before ++ e ∷ []
entries_on_next before e = filter_cut (is_on e.object) before e [] (eq-eqb e.object e.object refl)

pub entries_on_past : (o : ℕ) (before : List Entry) (e : Entry) → (e.object ≡ o → ⊥) → entries_on o (before ++ e ∷ []) ≡ entries_on o before
entries_on_past o before e other =
    filter-append (is_on o) before (e ∷ [])
    ∙ ap (λ (es : List Entry). entries_on o before ++ es) (filter-no (is_on o) e [] (ne_eqb e.object o other))
    ∙ append-nil (entries_on o before)

module _ (app : App) (before : List Entry) (e : Entry) (objects : List Object) (all : AreBefore app before e objects) where
  pub within : e.object < length objects
  within = omega (arith, all.are.many, all.there)

  -- the object of the entry
  module _ (old : Object) (is : old ≡ get_or objects e.object old) where
    was : IsAfter app before e.object old
    was = subst (IsAfter app before e.object) (sym is) (all.are.each e.object old within)

    follows : Follows (object_start old) (entries_on e.object before) e
    follows = all.follows (object_start old) was.start

    pub may_apply : MayApply old e.call e.reply
    may_apply = record {
      may = record { history = entries_on e.object before; stands_for = was.stands; is_ready = follows.is_ready; fits = follows.fits };
      is_due = follows.reply;
    }

    pub gone_past : (new : Object) → object_start new ≡ object_start old
        → ((h : List Entry) → ObjectAt old h → Follows (object_start old) h e → ObjectStands new (h ++ e ∷ []))
        → AreAfter app (before ++ e ∷ []) (slice_set objects e.object new)
    gone_past new same stands = record {
      many = length-set objects e.object new ∙ all.are.many;
      each = λ o d lt. elim (decide e.object o) as (λ _. IsAfter app (before ++ e ∷ []) o (get_or (slice_set objects e.object new) o d)) [
        | inl here ↦
            subst (λ (k : ℕ). IsAfter app (before ++ e ∷ []) k (get_or (slice_set objects e.object new) k d)) here
            (subst (IsAfter app (before ++ e ∷ []) e.object) (sym (get_or-set_same objects e.object new d within)) (record {
              start = was.start ∙ ap Some (sym same);
              stands = subst (ObjectAt new) (sym (entries_on_next before e))
                  (at_more old new (entries_on e.object before) e was.stands follows same (stands (entries_on e.object before) was.stands follows));
            }))
        | inr other ↦
            let there : IsAfter app before o (get_or objects o d) = all.are.each o d (omega (arith, lt, length-set objects e.object new)) in
            subst (IsAfter app (before ++ e ∷ []) o) (sym (get_or-set_other objects e.object o new d (λ at. other (sym at)))) (record {
              start = there.start;
              stands = subst (ObjectAt (get_or objects o d)) (sym (entries_on_past o before e other)) there.stands;
            })
      ];
    }

-- ---- along a legal trace

module _ (app : App) (trace : List Entry) (legal : IsLegalTrace app trace) (i : ℕ) (e : Entry) (lt : i < length trace) (is : e ≡ get_or trace i e) where
  pub cut_at : trace ≡ take i trace ++ e ∷ drop (i + 1) trace
  cut_at =
      sym (take-append-drop i trace)
      ∙ ap (λ (es : List Entry). take i trace ++ es) (drop_more trace i e lt ∙ ap (λ (x : Entry). x ∷ drop (i + 1) trace) (sym is))

  pub taken_more : take i trace ++ e ∷ [] ≡ take (i + 1) trace
  taken_more = sym (take_more trace i e lt ∙ ap (λ (x : Entry). take i trace ++ x ∷ []) (sym is))

  pub before_next : (objects : List Object) → AreAfter app (take i trace) objects → AreBefore app (take i trace) e objects
  before_next objects are = record {
    are = are;
    there = subst (λ (x : Entry). x.object < object_count app) (sym is) (legal.there i e lt);
    follows = follows_before app trace legal (take i trace) e (drop (i + 1) trace) cut_at;
  }
