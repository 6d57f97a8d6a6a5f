-- An index of a trace: the places of the entries of a span, and who took a message first.
use Rattle.std.proofs.Common.{◌≡◌, ℕ, zero, suc, ◌+◌, ◌≤◌, ◌&&◌, ◌||◌, Bool, true, false, cond, List, [], ◌∷◌, length, take, refl, sym, ap, ◌∙◌, subst, eqb-true, arith}
use Rattle.std.specs.Prelude.{◌==◌, Option, None, Some, option_map, slice_get}
use Rattle.std.specs.BTreeMap as tree
use Rattle.std.specs.Cmp.{both_ways}
use Rattle.std.specs.Global.{Vec}
use Rattle.std.specs.List.{filter, find, list_any, range_with_len}
use Rattle.std.specs.Option.{is_some, option_and_then, option_map_or, option_or}
use Rattle.std.specs.Ordering.{is_eq}
use Rattle.std.proofs.lemmas.Bool.{and_from, and_parts, eq-eqb}
use Rattle.std.proofs.lemmas.List.{take_all}
use Rattle.std.proofs.lemmas.List.Folds.{find-append, list_any-append}
use Rattle.anti_kind.specs.declared.actor.Actor.{Actor}
use Rattle.anti_kind.specs.declared.actor.Birth.{Birth}
use Rattle.anti_kind.specs.declared.call.Call.{Call}
use Rattle.anti_kind.specs.declared.call.Call.TheVariants as calls
use Rattle.anti_kind.specs.declared.call.Reply.{Reply}
use Rattle.anti_kind.specs.declared.call.Reply.TheVariants as replies
use Rattle.anti_kind.specs.declared.entry.Entry.{Entry}
use Rattle.anti_trace.specs.declared.mark.Mark.{Mark}
use Rattle.law_causal.specs.Reads.{is_at, places}
use Rattle.anti_past.specs.declared.span_keys.SpanKey.{SpanKey}
use Rattle.anti_past.specs.inner.Keys.{is_in, key_cmp}
use Rattle.anti_past.specs.inner.Marks.{pair_cmp}
use Rattle.anti_past.specs.inner.Reading.{AreNoted, filled, noted_before}
use Rattle.anti_past.proofs.Fronts.{any_more, item_at, taken}
use Rattle.anti_past.proofs.InSpan.{in_is}
use Rattle.anti_past.proofs.MarkPlaces.{mark_ties, tied_marks}
use Rattle.anti_past.proofs.SpansRead.{places_more}
use Rattle.anti_session.specs.Members.{answerer, answerer_among, answers, hears, is_of_span, server_of, span_places, taker, takes, takes_number}
use Rattle.anti_session.specs.inner.Adding.{server_at}
use Rattle.anti_session.specs.inner.Calls.{call_at, number_taken, taken_of}
use Rattle.anti_session.specs.inner.Indexed.{AreTakersOf, first_stays, taken_first}

-- ---- the entries of a span

-- what passes a test in a list is at one of the places of another test
module _ (among test : Entry → Bool) (trace : List Entry) where
  last : (k : ℕ) (e : Entry) → slice_get trace k ≡ Some e → (b : Bool) → list_any (is_at test trace) (cond b (k ∷ []) []) ≡ (b && test e)
  last k e at true = ap (λ found. option_map_or test found false || false) at ∙ or_off (test e)
    where
      or_off : (t : Bool) → (t || false) ≡ t
      or_off true = refl
      or_off false = refl
  last k e at false = refl

  one_more : (k : ℕ) (e : Entry) → slice_get trace k ≡ Some e
      → list_any (λ e. among e && test e) (take k trace) ≡ list_any (is_at test trace) (filter (is_at among trace) (range_with_len 0 k))
      → list_any (λ e. among e && test e) (take (k + 1) trace)
      ≡ list_any (is_at test trace) (filter (is_at among trace) (range_with_len 0 (k + 1)))
  one_more k e at so_far =
      any_more trace k e at (λ e. among e && test e)
      ∙ ap (λ (b : Bool). b || (among e && test e)) so_far
      ∙ ap (λ (b : Bool). list_any (is_at test trace) (filter (is_at among trace) (range_with_len 0 k)) || b) (sym (last k e at (among e)))
      ∙ sym (list_any-append (is_at test trace) (filter (is_at among trace) (range_with_len 0 k)) (cond (among e) (k ∷ []) []))
      ∙ ap (list_any (is_at test trace)) (sym (places_more among trace k e at))

  up_to : (k : ℕ) → k ≤ length trace
      → list_any (λ e. among e && test e) (take k trace) ≡ list_any (is_at test trace) (filter (is_at among trace) (range_with_len 0 k))
  up_to zero low = refl
  up_to (suc k) low =
      let item = item_at trace k (omega arith) in
      let next : k + 1 ≡ suc k = omega arith in
      subst (λ (n : ℕ). list_any (λ e. among e && test e) (take n trace)
      ≡ list_any (is_at test trace) (filter (is_at among trace) (range_with_len 0 n))) next
      (one_more k item.0 item.1 (up_to k (omega arith)))

  pub any_among : list_any (λ e. among e && test e) trace ≡ list_any (is_at test trace) (filter (is_at among trace) (places trace))
  any_among =
      ap (list_any (λ e. among e && test e)) (sym (take_all (length trace) trace (omega arith))) ∙ up_to (length trace) (omega arith)

abbrev key_of_span : Birth → ℕ → SpanKey
key_of_span birth span = record { object = birth.object; place = birth.place; span = span }

in_span_is : (birth : Birth) (span : ℕ) → is_in (key_of_span birth span) ≡ is_of_span birth span
in_span_is birth span i = λ (e : Entry). in_is (key_of_span birth span) e i

unfilled : (found : Option (Vec ℕ)) (is : List ℕ) → option_map (λ (v : Vec ℕ). v.items) found ≡ filled is
    → option_map_or (λ (v : Vec ℕ). v.items) found [] ≡ is
unfilled None [] same = refl
unfilled None (i ∷ is) same = absurd (cc)
unfilled (Some v) [] same = absurd (cc)
unfilled (Some v) (i ∷ is) same = cc

-- what is noted of a span
pub noted_places : (trace : List Entry) (m : tree.BTreeMap SpanKey (Vec ℕ)) → AreNoted is_in trace (length trace) m
    → (birth : Birth) (span : ℕ)
    → option_map_or (λ (v : Vec ℕ). v.items) (tree.get key_cmp m (key_of_span birth span)) [] ≡ span_places trace birth span
noted_places trace m noted birth span =
    unfilled (tree.get key_cmp m (key_of_span birth span)) (noted_before is_in trace (length trace) (key_of_span birth span))
    (noted.places (key_of_span birth span))
    ∙ λ i. filter (is_at (in_span_is birth span i) trace) (places trace)

-- ---- who took a message

same_pair : (i n j m : ℕ) → is_eq (pair_cmp (i, n) (j, m)) ≡ (i == j && n == m)
same_pair i n j m =
    let a : Mark = record { object = i; place = n } in
    let b : Mark = record { object = j; place = m } in
    both_ways (is_eq (pair_cmp (i, n) (j, m))) (i == j && n == m)
    (λ tie.
    let same = tied_marks a b tie in
    and_from (i == j) (n == m) (eq-eqb i j (ap (λ (x : Mark). x.object) same)) (eq-eqb n m (ap (λ (x : Mark). x.place) same)))
    (λ both.
    let parts = and_parts (i == j) (n == m) both in
    ap (λ (x : ℕ). is_eq (pair_cmp (i, n) (x, m))) (sym (eqb-true i j parts.0))
    ∙ ap (λ (x : ℕ). is_eq (pair_cmp (i, n) (i, x))) (sym (eqb-true n m parts.1))
    ∙ mark_ties a)

and_off : (t : Bool) → (t && false) ≡ false
and_off true = refl
and_off false = refl

takes_by : (inbox number o : ℕ) (call : Call) (reply : Reply)
    → (o == inbox && takes_number number call reply)
    ≡ option_map_or (λ (k : ℕ × ℕ). is_eq (pair_cmp k (inbox, number))) (option_map (λ (n : ℕ). (o, n)) (number_taken call reply)) false
takes_by inbox number o (calls.Take nth) (replies.Got n m) = sym (same_pair o n inbox number)
takes_by inbox number o call reply = and_off (o == inbox)

-- whether an entry takes a message, by the message that it takes
pub takes_is : (e : Entry) (found : Option (ℕ × ℕ)) → taken_of e ≡ found → (inbox number : ℕ)
    → takes inbox number e ≡ option_map_or (λ (k : ℕ × ℕ). is_eq (pair_cmp k (inbox, number))) found false
takes_is e found is inbox number =
    takes_by inbox number e.object e.call e.reply ∙ ap (λ o. option_map_or (λ (k : ℕ × ℕ). is_eq (pair_cmp k (inbox, number))) o false) is

pub stays_off : (actor : Actor) (old : Option Actor) → old ≡ first_stays false actor old
stays_off actor None = refl
stays_off actor (Some first) = refl

pub stays_on : (took : Bool) (actor : Actor) (old : Option Actor) → is_some old ≡ true → old ≡ first_stays took actor old
stays_on took actor None some = absurd (cc)
stays_on took actor (Some first) some = refl

-- a message that was noted already
module _ (e : Entry) (key : ℕ × ℕ) (is : taken_of e ≡ Some key) (m : tree.BTreeMap (ℕ × ℕ) Actor) (inbox number : ℕ) where
  key_is : is_eq (pair_cmp key (inbox, number)) ≡ true → key ≡ (inbox, number)
  key_is tie =
      let same = tied_marks (record { object = key.0; place = key.1 }) (record { object = inbox; place = number }) tie in
      ap (λ (x : Mark). (x.object, x.place)) same

  pub had : is_some (tree.get pair_cmp m key) ≡ true
      → tree.get pair_cmp m (inbox, number) ≡ first_stays (takes inbox number e) e.actor (tree.get pair_cmp m (inbox, number))
  had some =
      by_test (is_eq (pair_cmp key (inbox, number))) refl
      ∙ ap (λ (t : Bool). first_stays t e.actor (tree.get pair_cmp m (inbox, number))) (sym (takes_is e (Some key) is inbox number))
    where
      by_test : (t : Bool) → is_eq (pair_cmp key (inbox, number)) ≡ t
          → tree.get pair_cmp m (inbox, number) ≡ first_stays t e.actor (tree.get pair_cmp m (inbox, number))
      by_test true on = stays_on true e.actor (tree.get pair_cmp m (inbox, number))
          (ap (λ (k : ℕ × ℕ). is_some (tree.get pair_cmp m k)) (sym (key_is on)) ∙ some)
      by_test false off = stays_off e.actor (tree.get pair_cmp m (inbox, number))

  -- and one that was not
  pub had_not : (n : tree.BTreeMap (ℕ × ℕ) Actor) → is_some (tree.get pair_cmp m key) ≡ false → tree.Updates pair_cmp m n key (Some e.actor)
      → tree.get pair_cmp n (inbox, number) ≡ first_stays (takes inbox number e) e.actor (tree.get pair_cmp m (inbox, number))
  had_not n none updates =
      updates.0 (inbox, number)
      ∙ by_test (is_eq (pair_cmp key (inbox, number))) refl
      ∙ ap (λ (t : Bool). first_stays t e.actor (tree.get pair_cmp m (inbox, number))) (sym (takes_is e (Some key) is inbox number))
    where
      nothing : (o : Option Actor) → is_some o ≡ false → Some e.actor ≡ first_stays true e.actor o
      nothing None off = refl
      nothing (Some a) off = absurd (cc)

      by_test : (t : Bool) → is_eq (pair_cmp key (inbox, number)) ≡ t
          → cond t (Some e.actor) (tree.get pair_cmp m (inbox, number)) ≡ first_stays t e.actor (tree.get pair_cmp m (inbox, number))
      by_test true on = nothing (tree.get pair_cmp m (inbox, number))
          (ap (λ (k : ℕ × ℕ). is_some (tree.get pair_cmp m k)) (sym (key_is on)) ∙ none)
      by_test false off = stays_off e.actor (tree.get pair_cmp m (inbox, number))

first_or : (t : Bool) (e : Entry) (found : Option Entry)
    → first_stays t e.actor (option_map (λ (x : Entry). x.actor) found)
    ≡ option_map (λ (x : Entry). x.actor) (option_or found (cond t (Some e) None))
first_or true e None = refl
first_or false e None = refl
first_or t e (Some a) = refl

-- one entry more
pub takers_more : (trace : List Entry) (k : ℕ) (e : Entry) → slice_get trace k ≡ Some e → (old new : tree.BTreeMap (ℕ × ℕ) Actor)
    → AreTakersOf (take k trace) old
    → ((inbox number : ℕ) → tree.get pair_cmp new (inbox, number) ≡ first_stays (takes inbox number e) e.actor (tree.get pair_cmp old
    (inbox, number)))
    → AreTakersOf (take (k + 1) trace) new
takers_more trace k e at old new are adds inbox number =
    adds inbox number
    ∙ ap (first_stays (takes inbox number e) e.actor) (are inbox number)
    ∙ first_or (takes inbox number e) e (find (takes inbox number) (take k trace))
    ∙ ap (option_map (λ (x : Entry). x.actor)) (sym (find-append (takes inbox number) (take k trace) (e ∷ [])))
    ∙ ap (λ (t : List Entry). taken_first t inbox number) (sym (taken trace k e at))

-- ---- who answered

module _ (trace : List Entry) (inbox number : ℕ) where
  pub none_answers : taker trace inbox number ≡ None → None ≡ answerer trace inbox number
  none_answers none = ap (option_and_then (answerer_among trace inbox number)) (sym none)

  pub one_answers : (birth : Birth) (t : Bool) → taker trace inbox number ≡ Some birth
      → list_any (is_at (answers inbox number) trace) (span_places trace birth 1) ≡ t
      → cond t (Some birth) None ≡ answerer trace inbox number
  one_answers birth t took is =
      ap (λ (b : Bool). cond b (Some birth) None) (sym is ∙ sym (any_among (is_of_span birth 1) (answers inbox number) trace))
      ∙ ap (option_and_then (answerer_among trace inbox number)) (sym took)

-- the server of a call
served : (trace : List Entry) (birth : Birth) (span : ℕ) (inbox number : ℕ) (t : Bool)
    → list_any (is_at (hears inbox number) trace) (span_places trace birth span) ≡ t
    → cond t (answerer trace inbox number) None ≡ server_of trace birth span inbox number
served trace birth span inbox number t is =
    ap (λ (b : Bool). cond b (answerer trace inbox number) None)
    (sym is ∙ sym (any_among (is_of_span birth span) (hears inbox number) trace))

-- of the call that an entry at a place posted
pub served_at : (trace : List Entry) (birth : Birth) (span : ℕ) (xs : List ℕ) (x inbox number : ℕ) (t : Bool)
    → call_at trace x ≡ Some (inbox, number)
    → xs ≡ span_places trace birth span → list_any (is_at (hears inbox number) trace) xs ≡ t
    → cond t (answerer trace inbox number) None ≡ server_at trace birth span x
served_at trace birth span xs x inbox number t call is heard =
    served trace birth span inbox number t (ap (list_any (is_at (hears inbox number) trace)) (sym is) ∙ heard)
    ∙ ap (option_and_then (λ (c : ℕ × ℕ). server_of trace birth span c.0 c.1)) (sym call)
