-- What was carried into the entry at a place of a legal trace stands in the trail, behind what was carried into the entries of its object
-- before it. And the counts of a walk along the trace, which say how many these are.
use Rattle.std.proofs.Common.{◌≡◌, ℕ, suc, ◌+◌, ◌<◌, ◌≤◌, ◌++◌, nat_lt, Bool, true, false, cond, List, [], ◌∷◌, length, take, drop, get_or, refl, sym, ap, ◌∙◌, subst, inl, inr, arith, append-nil, length-append}
use Rattle.std.specs.Prelude.{All, IsTrue, Option, Some, not, option_map, slice_get, slice_index, slice_set}
use Rattle.std.specs.List.{filter}
use Rattle.std.specs.Option.{option_map_or}
use Rattle.std.proofs.lemmas.Bool.{cases_eq, eq-eqb, le-ltb, lt-ltb, ne_eqb}
use Rattle.std.proofs.lemmas.List.{get_or-set_other, get_or-set_same, length-set, length-take}
use Rattle.std.proofs.lemmas.List.Elements.{All-cons, All-filter, All-weaker, filter-append}
use Rattle.std.proofs.lemmas.List.Filters.{length-filter_both}
use Rattle.std.proofs.lemmas.Option.{slice_get-map}
use Rattle.anti_ids.specs.declared.id.WriteId.{WriteId}
use Rattle.anti_kind.specs.declared.call.Call.{Call}
use Rattle.anti_kind.specs.declared.call.Call.TheVariants as calls
use Rattle.anti_kind.specs.declared.entry.Entry.{Entry}
use Rattle.anti_kind.specs.Objects.{last_stamp}
use Rattle.anti_kind.proofs.Histories.{below_last}
use Rattle.anti_app.specs.declared.app.App.{App}
use Rattle.anti_app.specs.Objects.{object_count}
use Rattle.anti_proc.specs.Carrying.{HandsOn}
use Rattle.anti_proc.specs.Meaning.{process_after}
use Rattle.anti_proc.specs.Trees.{ask_of}
use Rattle.anti_trace.specs.Legal.{IsLegalTrace}
use Rattle.anti_trace.specs.declared.trail.Trail.{Trail}
use Rattle.anti_trace.specs.Traces.{IsTrace, comes_before, entries_by, entries_on, is_by, is_on}
use Rattle.anti_trace.specs.inner.Trails.{IsTrailOf, carried_into, leaves_trail, own_before, trail_at, trail_on}
use Rattle.anti_trace.proofs.Merges.{filter-none}
use Rattle.anti_trace.proofs.OfLegal.{at_cut, filter_cut}
use Rattle.anti_trace.proofs.Orders.{stamp_le}
use Rattle.anti_trace.proofs.Puts.{filter-no, filter-yes, same_actor_itself}
use Rattle.anti_trace.proofs.Trails.{all_pass}
use Rattle.law_causal.specs.Carried.{carried_at}
use Rattle.law_causal.specs.Words.{hands_all}
use Rattle.law_causal.proofs.Lists.{cut_at}
use Rattle.law_causal.proofs.Processes.{handed, hands_asked}
use Rattle.anti_past.specs.declared.trail_cursor.TrailCursor.{TrailCursor}
use Rattle.anti_past.specs.inner.Cursors.{IsCursorAt, IsPassing, passed_at}
use Rattle.anti_past.specs.inner.Walking.{IsHanded}
use Rattle.anti_past.proofs.Fronts.{taken}

-- ---- lists

-- the item at which a list is cut
at_seam : {X : Type 0} (xs : List X) (x : X) (ys : List X) → slice_get (xs ++ x ∷ ys) (length xs) ≡ Some x
at_seam [] x ys = refl
at_seam (y ∷ xs) x ys = at_seam xs x ys

-- an entry comes before all that stand behind it
behind : (before : List Entry) (e : Entry) (later : List Entry) → IsTrace (before ++ e ∷ later) → All (λ d. IsTrue (comes_before e d)) later
behind [] e later order = order.0
behind (x ∷ before) e later order = behind before e later order.1

abbrev leaves : Entry → Bool
leaves d = leaves_trail d.call

module _ (app : App) (trace : List Entry) (legal : IsLegalTrace app trace) (k : ℕ) (e : Entry) (at : slice_get trace k ≡ Some e) where
  abbrev before : List Entry
  before = take k trace

  abbrev later : List Entry
  later = drop (suc k) trace

  cut : trace ≡ before ++ e ∷ later
  cut = cut_at trace k e at

  -- ---- what its actor did before it

  abbrev is_earlier : Entry → Bool
  is_earlier d = nat_lt d.stamp e.stamp

  earlier : All (λ d. is_earlier d ≡ true) (entries_by e.actor before)
  earlier i d short =
      let own : List Entry = entries_by e.actor before in
      let low : (get_or own i d).stamp ≤ last_stamp own = below_last own i d short in
      let stamp = legal.stamps before e later cut in
      lt-ltb (get_or own i d).stamp e.stamp (omega arith)

  not_earlier : All (λ d. is_earlier d ≡ false) (e ∷ entries_by e.actor later)
  not_earlier =
      All-cons (λ d. is_earlier d ≡ false) e (entries_by e.actor later) (le-ltb e.stamp e.stamp (omega arith))
      (All-filter (is_by e.actor) (λ d. is_earlier d ≡ false) later
      (All-weaker (λ d. IsTrue (comes_before e d)) (λ d. is_earlier d ≡ false) (λ d first. le-ltb d.stamp e.stamp (stamp_le e d first)) later
      (behind before e later (subst IsTrace cut legal.order))))

  own_is : own_before trace e ≡ entries_by e.actor before
  own_is =
      let own : List Entry = entries_by e.actor before in
      ap (filter is_earlier) (ap (entries_by e.actor) cut ∙ filter_cut (is_by e.actor) before e later (same_actor_itself e.actor))
      ∙ filter-append is_earlier own (e ∷ entries_by e.actor later)
      ∙ ap (λ (es : List Entry). filter is_earlier own ++ es) (filter-none is_earlier (e ∷ entries_by e.actor later) not_earlier)
      ∙ append-nil (filter is_earlier own)
      ∙ all_pass is_earlier own earlier

  -- ---- what is carried into it

  into_is : carried_into app trace e ≡ carried_at app trace k e
  into_is = ap (λ (es : List Entry). option_map_or (λ ask. ask.carried) (ask_of (process_after app es)) []) own_is

  -- it stands in the trail, ..
  pub on_trail : leaves e ≡ true → slice_get (trail_on app trace e.object) (passed_at trace k e.object) ≡ Some (carried_at app trace k e)
  on_trail on =
      let o : ℕ = e.object in
      let front : List Entry = filter leaves (entries_on o before) in
      let rest : List Entry = filter leaves (entries_on o later) in
      let whole : filter leaves (entries_on o trace) ≡ front ++ e ∷ rest =
      ap (filter leaves) (ap (entries_on o) cut ∙ filter_cut (is_on o) before e later (eq-eqb o o refl))
      ∙ filter_cut leaves (entries_on o before) e (entries_on o later) on in
      slice_get-map (carried_into app trace) (filter leaves (entries_on o trace)) (length front)
      ∙ ap (λ (es : List Entry). option_map (carried_into app trace) (slice_get es (length front))) whole
      ∙ ap (option_map (carried_into app trace)) (at_seam front e rest)
      ∙ ap Some into_is

  -- .. and in the call of a write
  pub write_carries : (key value : List ℕ) (lineage : List WriteId) → e.call ≡ calls.Write key value lineage → lineage ≡ carried_at app trace k e
  write_carries key value lineage is =
      subst (λ (call : Call). HandsOn app (carried_at app trace k e) e.object call) is
      (handed app trace legal k e at (hands_asked app trace legal k e at (ap hands_all is)))

-- ---- what is handed

-- where a call leaves a trail all is to be carried, and else only where it writes
leaving_hands : (call : Call) → leaves_trail call ≡ true → hands_all call ≡ true
leaving_hands (calls.Read region key) on = refl
leaving_hands (calls.Scan region prefix) on = refl
leaving_hands (calls.Poll region key) on = refl
leaving_hands (calls.Look region ids dry) on = refl
leaving_hands (calls.Post m) on = refl
leaving_hands call on = absurd (cc)

pub hands_nothing : (call : Call) → leaves_trail call ≡ false → ((key value : List ℕ) (lineage : List WriteId) → call ≡ calls.Write key value lineage → ⊥)
    → hands_all call ≡ false
hands_nothing (calls.Write key value lineage) off other = absurd (other key value lineage refl)
hands_nothing (calls.Read region key) off other = absurd (cc)
hands_nothing (calls.Scan region prefix) off other = absurd (cc)
hands_nothing (calls.Poll region key) off other = absurd (cc)
hands_nothing (calls.Look region ids dry) off other = absurd (cc)
hands_nothing (calls.Post m) off other = absurd (cc)
hands_nothing call off other = refl

module _ (app : App) (trace : List Entry) (k : ℕ) (e : Entry) (c : TrailCursor) (passing : IsPassing app trace k e c) where
  -- its object is one of the application's
  pub object_low : e.object < object_count app
  object_low = at_cut (λ d. d.object < object_count app) (take k trace) e (drop (suc k) trace)
      (subst (All (λ d. d.object < object_count app)) (cut_at trace k e passing.there) passing.legal.there)

  pub write_handed : (key value : List ℕ) (lineage : List WriteId) → e.call ≡ calls.Write key value lineage → IsHanded app trace k e (Some lineage)
  write_handed key value lineage is = (ap hands_all is, write_carries app trace passing.legal k e passing.there key value lineage is)

  pub trail_handed : (t : Trail) → IsTrailOf app trace t → leaves e ≡ true → (count : ℕ) → count ≡ slice_index c.passed.items e.object
      → (found : Option (List WriteId)) → found ≡ slice_get (trail_at t e.object) count → IsHanded app trace k e found
  trail_handed t its on count counted found is =
      subst (IsHanded app trace k e)
      (sym (is
      ∙ ap (λ (all : List (List WriteId)). slice_get all count) (its.each e.object)
      ∙ ap (slice_get (trail_on app trace e.object)) (counted ∙ passing.cursor.each e.object object_low)
      ∙ on_trail app trace passing.legal k e passing.there on))
      (leaving_hands e.call on, refl)

-- ---- the counts

pub passed_low : (trace : List Entry) (k o : ℕ) → passed_at trace k o ≤ k
passed_low trace k o =
    let front : List Entry = entries_on o (take k trace) in
    omega (
      arith,
      length-filter_both leaves (λ d. not (leaves d)) (λ d. refl) front,
      length-filter_both (is_on o) (λ d. not (is_on o d)) (λ d. refl) (take k trace),
      length-take k trace,
    )

module _ (trace : List Entry) (k : ℕ) (e : Entry) (at : slice_get trace k ≡ Some e) where
  one_if : (on left : Bool) → leaves e ≡ left → length (filter leaves (cond on (e ∷ []) [])) ≡ cond on (cond left 1 0) 0
  one_if true true is = ap length (filter-yes leaves e [] is)
  one_if true false is = ap length (filter-no leaves e [] is)
  one_if false left is = refl

  passed_more : (o : ℕ) (left : Bool) → leaves e ≡ left → passed_at trace (k + 1) o ≡ passed_at trace k o + cond (is_on o e) (cond left 1 0) 0
  passed_more o left is =
      let front : List Entry = entries_on o (take k trace) in
      let more : filter leaves (entries_on o (take (k + 1) trace)) ≡ filter leaves front ++ filter leaves (entries_on o (e ∷ [])) =
      ap (λ (es : List Entry). filter leaves (entries_on o es)) (taken trace k e at)
      ∙ ap (filter leaves) (filter-append (is_on o) (take k trace) (e ∷ []))
      ∙ filter-append leaves front (entries_on o (e ∷ [])) in
      ap length more
      ∙ length-append (filter leaves front) (filter leaves (entries_on o (e ∷ [])))
      ∙ ap (λ (n : ℕ). length (filter leaves front) + n) (one_if (is_on o e) left is)

  module _ (app : App) (old : TrailCursor) (are : IsCursorAt app trace k old) where
    -- an entry that leaves nothing changes nothing
    pub none_passed : leaves e ≡ false → IsCursorAt app trace (k + 1) old
    none_passed off = record {
      many = are.many;
      each = λ o low. are.each o low ∙ sym (passed_more o false off ∙ none (is_on o e));
    }
      where
        none : {n : ℕ} (t : Bool) → n + cond t 0 0 ≡ n
        none true = omega arith
        none false = omega arith

    -- and one that does counts for its object
    pub one_passed : leaves e ≡ true → e.object < object_count app → (new : TrailCursor)
        → new.passed.items ≡ slice_set old.passed.items e.object (slice_index old.passed.items e.object + 1) → IsCursorAt app trace (k + 1) new
    one_passed on there new set = record {
      many = ap length set ∙ length-set old.passed.items e.object (slice_index old.passed.items e.object + 1) ∙ are.many;
      each = λ o low. ap (λ (ns : List ℕ). slice_index ns o) set ∙ by_object o low;
    }
      where
        by_object : (o : ℕ) → o < object_count app
            → slice_index (slice_set old.passed.items e.object (slice_index old.passed.items e.object + 1)) o ≡ passed_at trace (k + 1) o
        by_object o low =
            let counts : List ℕ = old.passed.items in
            let within : e.object < length counts = omega (arith, are.many) in
            elim (cases_eq o e.object) [
              | inl same ↦
                  subst (λ (n : ℕ). slice_index (slice_set counts e.object (slice_index counts e.object + 1)) n ≡ passed_at trace (k + 1) n) (sym same)
                  (get_or-set_same counts e.object (slice_index counts e.object + 1) 0 within
                  ∙ ap (λ (n : ℕ). n + 1) (are.each e.object there)
                  ∙ sym (passed_more e.object true on ∙ ap (λ (t : Bool). passed_at trace k e.object + cond t 1 0) (eq-eqb e.object e.object refl)))
              | inr other ↦
                  get_or-set_other counts e.object o (slice_index counts e.object + 1) 0 other
                  ∙ are.each o low
                  ∙ sym (passed_more o true on ∙ ap (λ (t : Bool). passed_at trace k o + cond t 1 0) (ne_eqb e.object o (λ is. other (sym is)))
                  ∙ (let none : passed_at trace k o + 0 ≡ passed_at trace k o = omega arith in none))
            ]
