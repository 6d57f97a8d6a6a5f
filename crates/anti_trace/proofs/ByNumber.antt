-- Histories of the objects 0, 1 and so on, each at its object's number: they can be merged, and what all entries have on an object is its history.
use Rattle.std.proofs.Common.{ℕ, suc, zero, ◌+◌, ◌<◌, ◌≡◌, ◌∙◌, false, List, [], ◌∷◌, ◌++◌, get_or, refl, ap, sym, subst, arith}
use Rattle.std.specs.List.{All}
use Rattle.std.proofs.lemmas.Bool.{eq-eqb, ne_eqb}
use Rattle.std.proofs.lemmas.List.{append-nil, get_or_default}
use Rattle.std.proofs.lemmas.List.Elements.{All-from_get_or, All-head, All-tail, All-weaker, filter-append}
use Rattle.anti_ids.specs.List.{Listed, empty}
use Rattle.anti_kind.specs.declared.entry.Entry.{Entry}
use Rattle.anti_trace.specs.Traces.{is_on, entries_on}
use Rattle.anti_trace.specs.Histories.{IsHistory, AreApart, AreHistories, all_entries}
use Rattle.anti_trace.specs.inner.Heads.{history_at}
use Rattle.anti_trace.proofs.Merges.{apart_on, filter-none}
use Rattle.anti_trace.proofs.Puts.{filter-yes}

-- the history at each number is on the object with this number, counted from n
abbrev pub AreNumbered : ℕ → List (Listed Entry) → Type 0
AreNumbered n hs = (k : ℕ) → All (λ e. e.object ≡ n + k) (history_at hs k)

all_on : (o : ℕ) (h : List Entry) → All (λ e. e.object ≡ o) h → entries_on o h ≡ h
all_on o [] on = refl
all_on o (e ∷ h) on =
    filter-yes (is_on o) e h (eq-eqb e.object o (All-head (λ (x : Entry). x.object ≡ o) e h on))
    ∙ ap (λ (t : List Entry). e ∷ t) (all_on o h (All-tail (λ (x : Entry). x.object ≡ o) e h on))

none_on : (o p : ℕ) (h : List Entry) → All (λ e. e.object ≡ p) h → (p ≡ o → ⊥) → entries_on o h ≡ []
none_on o p h on ne =
    filter-none (is_on o) h (All-weaker (λ (x : Entry). x.object ≡ p) (λ x. is_on o x ≡ false) (λ x here. ne_eqb x.object o (λ there. ne (sym here ∙ there))) h on)

rest_numbered : (n : ℕ) (h : Listed Entry) (hs : List (Listed Entry)) → AreNumbered n (h ∷ hs) → AreNumbered (suc n) hs
rest_numbered n h hs on k = All-weaker (λ (e : Entry). e.object ≡ n + suc k) (λ e. e.object ≡ suc n + k) (λ e here. omega arith) (history_at hs k) (on (suc k))

-- no entry is on an object of a number below
none_below : (n o : ℕ) (hs : List (Listed Entry)) → AreNumbered n hs → o < n → entries_on o (all_entries hs) ≡ []
none_below n o [] on below = refl
none_below n o (h ∷ hs) on below =
    filter-append (is_on o) h.items (all_entries hs)
    ∙ ap (λ (t : List Entry). t ++ entries_on o (all_entries hs)) (none_on o (n + 0) h.items (on 0) (λ same. omega arith))
    ∙ none_below (suc n) o hs (rest_numbered n h hs on) (omega arith)

on_from : (n k : ℕ) (hs : List (Listed Entry)) → AreNumbered n hs → entries_on (n + k) (all_entries hs) ≡ history_at hs k
on_from n k [] on = refl
on_from n zero (h ∷ hs) on =
    filter-append (is_on (n + 0)) h.items (all_entries hs)
    ∙ ap (λ (t : List Entry). t ++ entries_on (n + 0) (all_entries hs)) (all_on (n + 0) h.items (on 0))
    ∙ ap (λ (t : List Entry). h.items ++ t) (none_below (suc n) (n + 0) hs (rest_numbered n h hs on) (omega arith))
    ∙ append-nil h.items
on_from n (suc k) (h ∷ hs) on =
    let up : n + suc k ≡ suc n + k = omega arith in
    filter-append (is_on (n + suc k)) h.items (all_entries hs)
    ∙ ap (λ (t : List Entry). t ++ entries_on (n + suc k) (all_entries hs)) (none_on (n + suc k) (n + 0) h.items (on 0) (λ same. omega arith))
    ∙ ap (λ (o : ℕ). entries_on o (all_entries hs)) up
    ∙ on_from (suc n) k hs (rest_numbered n h hs on)

-- what all entries have on an object is its history
pub on_number : (o : ℕ) (hs : List (Listed Entry)) → ((k : ℕ) → All (λ e. e.object ≡ k) (history_at hs k)) → entries_on o (all_entries hs) ≡ history_at hs o
on_number o hs on =
    let zero_more : 0 + o ≡ o = omega arith in
    subst (λ (p : ℕ). entries_on p (all_entries hs) ≡ history_at hs o) zero_more
    (on_from 0 o hs (λ k. All-weaker (λ (e : Entry). e.object ≡ k) (λ e. e.object ≡ 0 + k) (λ e here. omega arith) (history_at hs k) (on k)))

-- they can be merged
pub are_by_number : (hs : List (Listed Entry)) → ((k : ℕ) → IsHistory (history_at hs k)) → ((k : ℕ) → All (λ e. e.object ≡ k) (history_at hs k)) → AreHistories hs
are_by_number hs is on = record {
  each = All-from_get_or (λ h. IsHistory h.items) hs empty (λ k l. is k);
  apart = λ i j d l r.
      subst (λ (x : Listed Entry). AreApart x.items (get_or hs j d).items) (get_or_default hs i empty d (omega arith))
      (subst (λ (x : Listed Entry). AreApart (history_at hs i) x.items) (get_or_default hs j empty d r)
      (apart_on i j (history_at hs i) (history_at hs j) (on i) (on j) (λ same. omega arith)));
}
