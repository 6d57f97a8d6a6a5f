-- The writes of the past of a read, as their numbers are found by their ids.
use Rattle.std.proofs.Common.{◌≡◌, ℕ, ◌<◌, ◌++◌, ◌||◌, Bool, true, false, List, [], ◌∷◌, length, get_or, refl, sym, ap, ap₂, ◌∙◌, subst, arith}
use Rattle.std.specs.Prelude.{◌==◌, Option, Some, None, slice_get}
use Rattle.std.specs.List.{list_any}
use Rattle.std.specs.Option.{option_and_then, option_map_or}
use Rattle.std.proofs.lemmas.Bool.{both_ways, eq-eqb, eqb-true}
use Rattle.std.proofs.lemmas.Cmp.{eq_by_cmp_equiv}
use Rattle.std.proofs.lemmas.List.Folds.{list_any-append}
use Rattle.std.proofs.lemmas.Option.{none-some, slice_get-get_or, slice_get_within}
use Rattle.anti_ids.specs.Ids.{has_id, is_id}
use Rattle.anti_ids.specs.declared.id.WriteId.{WriteId}
use Rattle.anti_ids.proofs.IdLemmas.{id_total}
use Rattle.anti_kind.specs.declared.call.Call.{Call}
use Rattle.anti_kind.specs.declared.call.Call.TheVariants as calls
use Rattle.anti_kind.specs.declared.call.Reply.{Reply}
use Rattle.anti_kind.specs.declared.call.Reply.TheVariants as replies
use Rattle.anti_kind.specs.declared.entry.Entry.{Entry}
use Rattle.anti_kind.proofs.Rows.{or_false}
use Rattle.anti_app.specs.declared.app.App.{App}
use Rattle.anti_proc.specs.Local.{rows_ids}
use Rattle.law_causal.specs.Carried.{carried_at}
use Rattle.law_causal.specs.Reads.{is_at}
use Rattle.law_causal.specs.Words.{comes_with, reads, rows_in, wrote}
use Rattle.anti_past.specs.Pasts.{ArePastsOf}
use Rattle.anti_past.specs.declared.before_reads.Past.{Past}
use Rattle.law_serial.specs.Order.{is_in_past, is_some_id, past_of, writes_at}
use Rattle.anti_order.specs.declared.writes.Writes.{Writes}
use Rattle.anti_order.specs.inner.NumberSets.{has, room, room_for}
use Rattle.anti_order.specs.inner.PastWrites.{AddsNumbers, carried_in, is_here, is_numbered}
use Rattle.anti_order.specs.inner.Writes.{AreWritesOf, IsWriteAt, number_at, number_in}
use Rattle.anti_order.proofs.Numbers.{number_within, own_number}
use Rattle.anti_order.proofs.Places.{at_place, is_at_entry}

-- ---- what is added

or_assoc : (a b c : Bool) → ((a || b) || c) ≡ (a || (b || c))
or_assoc true b c = refl
or_assoc false b c = refl

same_tests : (s t : Bool) → (s ≡ true → t ≡ true) → (t ≡ true → s ≡ true) → s ≡ t
same_tests true t one other = sym (one refl)
same_tests false true one other = other refl
same_tests false false one other = refl

module _ (writes : Writes) where
  -- The writes of some ids and then those of others are those of both.
  pub adds_both : (xs ys : List WriteId) (a b c : List ℕ) → AddsNumbers writes xs a b → AddsNumbers writes ys b c → AddsNumbers writes (xs ++ ys) a c
  adds_both xs ys a b c first second = record {
    added = λ n low.
        second.added n (subst (λ (m : ℕ). n < m) (sym first.room) low)
        ∙ ap (λ (t : Bool). t || list_any (is_numbered writes n) ys) (first.added n low)
        ∙ or_assoc (has a n) (list_any (is_numbered writes n) xs) (list_any (is_numbered writes n) ys)
        ∙ ap (λ (t : Bool). has a n || t) (sym (list_any-append (is_numbered writes n) xs ys));
    room = second.room ∙ first.room;
  }

  pub adds_none : (a : List ℕ) → AddsNumbers writes [] a a
  adds_none a = record { added = λ n low. sym (or_false (has a n)); room = refl }

  -- the number of one id, where it has one
  pub adds_one : (w : WriteId) (a b : List ℕ) (number : ℕ) → number_in writes w ≡ Some number
      → ((n : ℕ) → n < room a → has b n ≡ (n == number || has a n)) → room b ≡ room a → AddsNumbers writes (w ∷ []) a b
  adds_one w a b number is inserted same = record {
    added = λ n low.
        inserted n low
        ∙ swap (n == number) (has a n)
        ∙ ap₂ (λ (s t : Bool). s || t) (refl) (eqb_comm n number ∙ sym (ap (λ (o : Option ℕ). is_here o n) is) ∙ sym (or_false (is_numbered writes n w)));
    room = same;
  }
    where
      swap : (s t : Bool) → (s || t) ≡ (t || s)
      swap true true = refl
      swap true false = refl
      swap false true = refl
      swap false false = refl

      eqb_comm : (n m : ℕ) → (n == m) ≡ (m == n)
      eqb_comm n m = same_tests (n == m) (m == n) (λ is. eq-eqb m n (sym (eqb-true n m is))) (λ is. eq-eqb n m (sym (eqb-true m n is)))

  pub adds_unnumbered : (w : WriteId) (a : List ℕ) → number_in writes w ≡ None → AddsNumbers writes (w ∷ []) a a
  adds_unnumbered w a none = record {
    added = λ n low. sym (or_false (has a n)) ∙ ap (λ (t : Bool). has a n || t) (sym (ap (λ (o : Option ℕ). is_here o n || false) none));
    room = refl;
  }

-- ---- the number of an id

here_is : (o : Option ℕ) (i : ℕ) → is_here o i ≡ true → o ≡ Some i
here_is None i here = absurd (cc)
here_is (Some j) i here = ap Some (eqb-true j i here)

is_here-itself : (o : Option ℕ) (i : ℕ) → o ≡ Some i → is_here o i ≡ true
is_here-itself o i is = ap (λ (found : Option ℕ). is_here found i) is ∙ eq-eqb i i refl

-- ---- two lists with an id in common

any_false : (xs : List WriteId) → list_any (λ w. false) xs ≡ false
any_false [] = refl
any_false (x ∷ xs) = any_false xs

or_swap : (a b c d : Bool) → ((a || b) || (c || d)) ≡ ((a || c) || (b || d))
or_swap true b c d = refl
or_swap false true true d = refl
or_swap false true false d = refl
or_swap false false c d = refl

any_either : (p q : WriteId → Bool) (xs : List WriteId) → list_any (λ x. p x || q x) xs ≡ (list_any p xs || list_any q xs)
any_either p q [] = refl
any_either p q (x ∷ xs) =
    ap (λ (t : Bool). (p x || q x) || t) (any_either p q xs) ∙ or_swap (p x) (q x) (list_any p xs) (list_any q xs)

-- one of some ids is among others, or the other way round
share : (xs ys : List WriteId) → list_any (λ w. has_id w ys) xs ≡ list_any (λ w. has_id w xs) ys
share [] ys = sym (any_false ys)
share (x ∷ xs) ys =
    ap₂ (λ (s t : Bool). s || t) (same_ids ys) (share xs ys) ∙ sym (any_either (λ w. is_id w x) (λ w. has_id w xs) ys)
  where
    same_ids : (ys : List WriteId) → has_id x ys ≡ list_any (λ w. is_id w x) ys
    same_ids [] = refl
    same_ids (y ∷ ys) = ap₂ (λ (s t : Bool). s || t) ((eq_by_cmp_equiv id_total).symm x y) (same_ids ys)

-- ---- the writes of a past

-- whether an entry wrote one of these ids
abbrev wrote_one : List WriteId → Entry → Bool
wrote_one ids a = list_any (λ w. has_id w ids) (wrote a)

-- which is a write then
written : (w : WriteId) (trace : List Entry) (i : ℕ) → IsWriteAt w trace i → writes_at trace i ≡ true
written w trace i is =
    let (a, at, has) = at_place (λ a. has_id w (wrote a)) trace i is in
    is_at_entry (λ a. is_some_id (wrote a)) trace i a at ∙ some_id (wrote a) has
  where
    some_id : (ws : List WriteId) → has_id w ws ≡ true → is_some_id ws ≡ true
    some_id [] has = absurd (cc)
    some_id (v ∷ vs) has = refl

module _ (trace : List Entry) (writes : Writes) (are : AreWritesOf trace writes) where
  module _ (i : ℕ) (is : writes_at trace i ≡ true) where
    found_at : (w : WriteId) → is_numbered writes (number_at trace i) w ≡ is_at (λ a. has_id w (wrote a)) trace i
    found_at w =
        same_tests (is_numbered writes (number_at trace i) w) (is_at (λ a. has_id w (wrote a)) trace i)
        (λ here.
        let (j, has, same) = are.found w (number_at trace i) (here_is (number_in writes w) (number_at trace i) here) in
        ap (is_at (λ a. has_id w (wrote a)) trace) (own_number trace i j is (written w trace j has) (sym same)) ∙ has)
        (λ at. is_here-itself (number_in writes w) (number_at trace i) (are.known w i at))

    found_all : (ids : List WriteId)
        → list_any (is_numbered writes (number_at trace i)) ids ≡ list_any (λ w. is_at (λ a. has_id w (wrote a)) trace i) ids
    found_all [] = refl
    found_all (w ∷ ws) = ap₂ (λ (s t : Bool). s || t) (found_at w) (found_all ws)

    -- whether the write of one of these ids stands here
    found_any : (ids : List WriteId) → list_any (is_numbered writes (number_at trace i)) ids ≡ is_at (wrote_one ids) trace i
    found_any ids = found_all ids ∙ by_entry (slice_get trace i)
      where
        by_entry : (found : Option Entry)
            → list_any (λ w. option_map_or (λ a. has_id w (wrote a)) found false) ids ≡ option_map_or (wrote_one ids) found false
        by_entry None = any_false ids
        by_entry (Some a) = share ids (wrote a)

  -- Where the numbers of the ids of the past of a read were added to none, they are those of its writes.
  pub past_has : (ids : List WriteId) (none some : List ℕ) → ((n : ℕ) → has none n ≡ false) → room none ≡ room_for (length writes.marks.items)
      → AddsNumbers writes ids none some → (app : App) (r : ℕ) (e : Entry) → slice_get trace r ≡ Some e → ids ≡ past_of app trace r e
      → (i : ℕ) → writes_at trace i ≡ true → has some (number_at trace i) ≡ is_in_past app trace r i
  past_has ids none some empty room_is adds app r e at past i is =
      let low = number_within trace writes.marks.items are.marks i is in
      let within : number_at trace i < room none = omega (arith, low, room_is) in
      let in_past : is_at (wrote_one ids) trace i ≡ is_in_past app trace r i =
      ap (λ (ws : List WriteId). is_at (wrote_one ws) trace i) past
      ∙ sym (is_at_entry (λ e. is_at (wrote_one (past_of app trace r e)) trace i) trace r e at) in
      adds.added (number_at trace i) within
      ∙ ap (λ (t : Bool). t || list_any (is_numbered writes (number_at trace i)) ids) (empty (number_at trace i))
      ∙ found_any i is ids
      ∙ in_past

-- ---- what is carried into a read, and what it shows

-- The pasts of a trace tell what is carried into a read.
pub carried_is : (app : App) (trace : List Entry) (pasts : List (Option Past)) → ArePastsOf app trace pasts
    → (r : ℕ) (e : Entry) → slice_get trace r ≡ Some e → reads e.call ≡ true → carried_in pasts r ≡ carried_at app trace r e
carried_is app trace pasts are r e at is = by_past (slice_get pasts r) refl
  where
    by_past : (found : Option (Option Past)) → slice_get pasts r ≡ found
        → option_map_or (λ past. past.carried) (option_and_then (λ past. past) found) [] ≡ carried_at app trace r e
    by_past None none =
        let low : r < length trace = slice_get_within trace r e at in
        let count : length pasts ≡ length trace = are.count in
        absurd (none-some (get_or pasts r None) (sym none ∙ slice_get-get_or pasts r None (omega arith)))
    by_past (Some None) there = absurd (both_ways (reads e.call) (are.each r e None at there) is)
    by_past (Some (Some past)) there = (are.each r e (Some past) at there).1

-- With a read comes what its rows bring.
pub brings_rows : (app : App) (o : ℕ) (call : Call) (reply : Reply) → reads call ≡ true
    → rows_ids o (rows_in call reply) ≡ comes_with app o call reply
brings_rows app o (calls.Read region key) (replies.Shown rows) is = refl
brings_rows app o (calls.Read region key) _ is = refl
brings_rows app o (calls.Scan region prefix) (replies.Shown rows) is = refl
brings_rows app o (calls.Scan region prefix) _ is = refl
brings_rows app o (calls.Poll region key) (replies.Shown rows) is = refl
brings_rows app o (calls.Poll region key) _ is = refl
brings_rows app o call reply is = absurd (cc)
