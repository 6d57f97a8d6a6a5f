-- A trace is known by the histories of its objects.
use Rattle.std.proofs.Common.{ℕ, ◌≡◌, List, [], ◌∷◌, refl, ap, sym, ◌∙◌, subst, inl, inr, arith}
use Rattle.std.specs.Prelude.{IsTrue}
use Rattle.std.specs.List.{All, AllPairs}
use Rattle.std.proofs.lemmas.Bool.{false≢true, cases_Bool, eq-eqb}
use Rattle.std.proofs.lemmas.List.Elements.{All-cons, All-head, All-weaker, All-filter}
use Rattle.std.proofs.lemmas.List.Kept.{AllPairs-cons}
use Rattle.anti_kind.specs.declared.entry.Entry.{Entry}
use Rattle.anti_trace.specs.Traces.{comes_before, IsTrace, is_on, entries_on}
use Rattle.anti_trace.proofs.Orders.{before_trans, before_itself, before_cases}
use Rattle.anti_trace.proofs.Puts.{filter-yes, filter-no}

-- the first entry of one list is not before all entries of another with the same histories
not_first : (e : Entry) (t u : List Entry) → entries_on e.object (e ∷ t) ≡ entries_on e.object u → All (λ x. IsTrue (comes_before e x)) u → ⊥
not_first e t u same after =
    let Later : Entry → Type 0 = λ x. IsTrue (comes_before e x) in
    let all : All Later (entries_on e.object u) = All-filter (is_on e.object) Later u after in
    let here : All Later (e ∷ entries_on e.object t) = subst (All Later) (sym same ∙ filter-yes (is_on e.object) e t (eq-eqb e.object e.object refl)) all in
    false≢true (sym (before_itself e) ∙ All-head Later e (entries_on e.object t) here)

all_after : (e d : Entry) (u : List Entry) → IsTrue (comes_before e d) → IsTrace (d ∷ u) → All (λ x. IsTrue (comes_before e x)) (d ∷ u)
all_after e d u first is =
    All-cons (λ x. IsTrue (comes_before e x)) d u first
    (All-weaker (λ x. IsTrue (comes_before d x)) (λ x. IsTrue (comes_before e x)) (λ x later. before_trans e d x first later) u is.0)

same_head : (e d : Entry) (t u : List Entry) → IsTrace (e ∷ t) → IsTrace (d ∷ u) → ((o : ℕ) → entries_on o (e ∷ t) ≡ entries_on o (d ∷ u)) → e ≡ d
same_head e d t u is it same =
    elim (before_cases e d) [
      | inl b ↦ absurd (not_first e t (d ∷ u) (same e.object) (all_after e d u b it))
      | inr r ↦ elim r [
        | inl b ↦ absurd (not_first d u (e ∷ t) (sym (same d.object)) (all_after d e t b is))
        | inr m ↦
            let left : entries_on e.object (e ∷ t) ≡ e ∷ entries_on e.object t = filter-yes (is_on e.object) e t (eq-eqb e.object e.object refl) in
            let right : entries_on e.object (d ∷ u) ≡ d ∷ entries_on e.object u = filter-yes (is_on e.object) d u (eq-eqb d.object e.object (sym m.0)) in
            let both : e ∷ entries_on e.object t ≡ d ∷ entries_on e.object u = sym left ∙ same e.object ∙ right in cc
      ]
    ]

same_tails : (e : Entry) (t u : List Entry) (o : ℕ) → entries_on o (e ∷ t) ≡ entries_on o (e ∷ u) → entries_on o t ≡ entries_on o u
same_tails e t u o same =
    elim (cases_Bool (is_on o e)) [
      | inl k ↦ let both : e ∷ entries_on o t ≡ e ∷ entries_on o u = sym (filter-yes (is_on o) e t k) ∙ same ∙ filter-yes (is_on o) e u k in cc
      | inr k ↦ sym (filter-no (is_on o) e t k) ∙ same ∙ filter-no (is_on o) e u k
    ]

-- two traces with the same entries on each object are one trace
pub same_trace : (t u : List Entry) → IsTrace t → IsTrace u → ((o : ℕ) → entries_on o t ≡ entries_on o u) → t ≡ u
same_trace [] [] is it same = refl
same_trace [] (d ∷ u) is it same =
    let h : [] ≡ d ∷ entries_on d.object u = same d.object ∙ filter-yes (is_on d.object) d u (eq-eqb d.object d.object refl) in absurd (cc)
same_trace (e ∷ t) [] is it same =
    let h : e ∷ entries_on e.object t ≡ [] = sym (filter-yes (is_on e.object) e t (eq-eqb e.object e.object refl)) ∙ same e.object in absurd (cc)
same_trace (e ∷ t) (d ∷ u) is it same =
    let head : e ≡ d = same_head e d t u is it same in
    let rest : (o : ℕ) → entries_on o t ≡ entries_on o u =
    λ o. same_tails e t u o (subst (λ (x : Entry). entries_on o (e ∷ t) ≡ entries_on o (x ∷ u)) (sym head) (same o)) in
    ap (λ (x : Entry). x ∷ t) head ∙ ap (λ (r : List Entry). d ∷ r) (same_trace t u is.1 it.1 rest)

-- by places: each entry comes before every later one
pub trace_pairs : (t : List Entry) → IsTrace t → AllPairs (λ d e. IsTrue (comes_before d e)) t
trace_pairs [] is = λ i j d l r. absurd (omega arith)
trace_pairs (e ∷ t) is = AllPairs-cons (λ d e. IsTrue (comes_before d e)) e t is.0 (trace_pairs t is.1)
