-- Which reads are settled, by their pasts.
use Rattle.std.proofs.Common.{◌≡◌, ◌↔◌, ℕ, ◌<◌, Bool, true, false, List, [], ◌∷◌, ◌++◌, cond, length, get_or, refl, sym, ap, ◌∙◌, subst, arith}
use Rattle.std.specs.Prelude.{All, Contains, Option, Some, None, not, slice_get}
use Rattle.std.specs.List.{find}
use Rattle.std.specs.Option.{option_map_or}
use Rattle.std.proofs.lemmas.List.Elements.{All-contains, All-cons, All-nil, Contains-append_left, Contains-append_right}
use Rattle.std.proofs.lemmas.Option.{slice_get-get_or, slice_get_within}
use Rattle.anti_kind.specs.declared.entry.Entry.{Entry}
use Rattle.anti_app.specs.declared.app.App.{App}
use Rattle.anti_trace.specs.declared.mark.Mark.{Mark}
use Rattle.law_causal.specs.Reads.{is_at}
use Rattle.law_causal.specs.Settled.{IsSettled}
use Rattle.law_causal.specs.Words.{reads}
use Rattle.law_causal.proofs.Lists.{same_at}
use Rattle.anti_past.specs.Pasts.{ArePastsOf, IsPastOf}
use Rattle.anti_past.specs.declared.before_reads.Past.{Past}
use Rattle.law_serial.specs.Serial.{IsSettledRead}
use Rattle.anti_order.specs.Answers.{IsFirstUnsettled, mark_at}
use Rattle.anti_order.specs.inner.Grounds.{is_settled_at}
use Rattle.anti_order.proofs.Places.{at_place}

-- ---- the first item that fails a test

pub record Fails {X : Type 0} (test : X → Bool) (xs : List X) (x : X) : Type 0 where
  pub before : List X
  pub after : List X
  pub cut : xs ≡ before ++ x ∷ after
  pub pass : All (λ y. test y ≡ true) before
  pub fails : test x ≡ false

module _ {X : Type 0} (test : X → Bool) where
  pub first_fails : (xs : List X) (x : X) → find (λ y. not (test y)) xs ≡ Some x → Fails test xs x
  first_fails [] x is = absurd (cc)
  first_fails (y ∷ ys) x is = by_test (test y) refl is (first_fails ys x)
    where
      by_test : (t : Bool) → test y ≡ t → cond (not t) (Some y) (find (λ z. not (test z)) ys) ≡ Some x
          → (find (λ z. not (test z)) ys ≡ Some x → Fails test ys x) → Fails test (y ∷ ys) x
      by_test true on is rest =
          let more = rest is in
          record {
            before = y ∷ more.before;
            after = more.after;
            cut = ap (λ zs. y ∷ zs) more.cut;
            pass = All-cons (λ z. test z ≡ true) y more.before on more.pass;
            fails = more.fails;
          }
      by_test false off is rest =
          let same : y ≡ x = cc in
          record {
            before = [];
            after = ys;
            cut = ap (λ z. z ∷ ys) same;
            pass = All-nil (λ (z : X). test z ≡ true);
            fails = ap test (sym same) ∙ off;
          }

  pub none_fails : (xs : List X) → find (λ y. not (test y)) xs ≡ None → All (λ y. test y ≡ true) xs
  none_fails [] is = All-nil (λ (z : X). test z ≡ true)
  none_fails (y ∷ ys) is = by_test (test y) refl is (none_fails ys)
    where
      by_test : (t : Bool) → test y ≡ t → cond (not t) (Some y) (find (λ z. not (test z)) ys) ≡ None
          → (find (λ z. not (test z)) ys ≡ None → All (λ z. test z ≡ true) ys) → All (λ z. test z ≡ true) (y ∷ ys)
      by_test true on is rest = All-cons (λ z. test z ≡ true) y ys on (rest is)
      by_test false off is rest = absurd (cc)

-- ---- settled reads

module _ (app : App) (trace : List Entry) (pasts : List (Option Past)) (are : ArePastsOf app trace pasts) where
  -- a read is settled where its past says so
  settled_is : (r : ℕ) → is_at (λ e. reads e.call) trace r ≡ true → (is_settled_at pasts r ≡ true) ↔ IsSettledRead app trace r
  settled_is r is =
      let e = at_place (λ e. reads e.call) trace r is in
      let count = are.count in
      let low : r < length trace = slice_get_within trace r e.0 e.1 in
      let past : Option Past = get_or pasts r None in
      let here : slice_get pasts r ≡ Some past = slice_get-get_or pasts r None (omega arith) in
      by_past e.0 e.1 e.2 past here (are.each r e.0 past e.1 here)
    where
      by_past : (e : Entry) → slice_get trace r ≡ Some e → reads e.call ≡ true → (past : Option Past) → slice_get pasts r ≡ Some past
          → IsPastOf app trace r e past → (is_settled_at pasts r ≡ true) ↔ IsSettledRead app trace r
      by_past e at read None here its = absurd (cc)
      by_past e at read (Some p) here its =
          let known : is_settled_at pasts r ≡ p.settled =
          ap (λ found. option_map_or (λ past. option_map_or (λ (q : Past). q.settled) past false) found false) here in (
            λ on. record { entry = e; there = at; read = read; settled = its.2.0 (sym known ∙ on) },
            λ s. known ∙ its.2.1 (subst (IsSettled app trace r) (same_at trace r s.entry e s.there at) s.settled),
          )

  module _ (rs : List ℕ) (all : All (λ r. is_at (λ e. reads e.call) trace r ≡ true) rs) where
    read_in : (r : ℕ) → Contains rs r → is_at (λ e. reads e.call) trace r ≡ true
    read_in r among = All-contains (λ x. is_at (λ e. reads e.call) trace x ≡ true) rs r all among

    module _ (r : ℕ) (first : find (λ x. not (is_settled_at pasts x)) rs ≡ Some r) where
      found : Fails (is_settled_at pasts) rs r
      found = first_fails (is_settled_at pasts) rs r first

      here : Contains rs r
      here = subst (λ xs. Contains xs r) (sym found.cut)
          (Contains-append_right found.before (r ∷ found.after) r ((0, omega arith, refl)))

      pub first_within : r < length trace
      first_within = let e = at_place (λ e. reads e.call) trace r (read_in r here) in slice_get_within trace r e.0 e.1

      -- the first read of which the past says that it is not settled
      pub is_first : (mark : Mark) → mark_at trace r ≡ Some mark → IsFirstUnsettled app trace rs mark
      is_first mark marked = record {
        before = found.before;
        read = r;
        after = found.after;
        cut = found.cut;
        settled = λ x among.
            let earlier : Contains rs x = subst (λ xs. Contains xs x) (sym found.cut) (Contains-append_left found.before (r ∷ found.after) x among) in
            (settled_is x (read_in x earlier)).0 (All-contains (λ y. is_settled_at pasts y ≡ true) found.before x found.pass among);
        unsettled = λ settled.
            let on : is_settled_at pasts r ≡ true = (settled_is r (read_in r here)).1 settled in
            let off = found.fails in
            absurd (cc);
        marked = marked;
      }

    -- where there is none, all are settled
    pub all_settled : find (λ x. not (is_settled_at pasts x)) rs ≡ None → (r : ℕ) → Contains rs r → IsSettledRead app trace r
    all_settled none r among =
        (settled_is r (read_in r among)).0
        (All-contains (λ y. is_settled_at pasts y ≡ true) rs r (none_fails (is_settled_at pasts) rs none) among)
