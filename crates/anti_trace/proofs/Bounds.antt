-- How long a list of entries is, from how many entries each object has.
use Rattle.std.proofs.Common.{ℕ, zero, suc, ◌+◌, ◌*◌, ◌<◌, ◌≤◌, ◌≡◌, Bool, not, List, [], ◌∷◌, length, refl, ap, inl, inr, arith}
use Rattle.std.specs.List.{All, filter}
use Rattle.std.proofs.lemmas.Bool.{cases_Bool, not-true, eqb-false}
use Rattle.std.proofs.lemmas.List.Elements.{All-head, All-filter, filter_passes}
use Rattle.std.proofs.lemmas.List.Filters.{length-filter_both}
use Rattle.anti_kind.specs.declared.entry.Entry.{Entry}
use Rattle.anti_trace.specs.Traces.{is_on, entries_on}
use Rattle.anti_trace.proofs.Puts.{filter-yes, filter-no}

-- a test keeps no more of what another kept
pub length-filter_filter : (p q : Entry → Bool) (t : List Entry) → length (filter p (filter q t)) ≤ length (filter p t)
length-filter_filter p q [] = omega arith
length-filter_filter p q (d ∷ t) =
    let h = length-filter_filter p q t in
    elim (cases_Bool (q d)) [
      | inl k ↦ let l = ap (λ (r : List Entry). length (filter p r)) (filter-yes q d t k) in
          elim (cases_Bool (p d)) [
            | inl m ↦ let a = ap length (filter-yes p d (filter q t) m) in let b = ap length (filter-yes p d t m) in omega arith
            | inr m ↦ let a = ap length (filter-no p d (filter q t) m) in let b = ap length (filter-no p d t m) in omega arith
          ]
      | inr k ↦ let l = ap (λ (r : List Entry). length (filter p r)) (filter-no q d t k) in
          elim (cases_Bool (p d)) [
            | inl m ↦ let b = ap length (filter-yes p d t m) in omega arith
            | inr m ↦ let b = ap length (filter-no p d t m) in omega arith
          ]
    ]

-- entries on n objects, of which each has at most m, are at most n * m
pub length_bound : (n m : ℕ) (t : List Entry) → All (λ e. e.object < n) t → ((o : ℕ) → o < n → length (entries_on o t) ≤ m) → length t ≤ n * m
length_bound zero m [] low each = omega arith
length_bound zero m (e ∷ t) low each = let h : e.object < 0 = All-head (λ x. x.object < 0) e t low in absurd (omega arith)
length_bound (suc n) m t low each =
    let others : Entry → Bool = λ e. not (is_on n e) in
    let both : length (entries_on n t) + length (filter others t) ≡ length t = length-filter_both (is_on n) others (λ x. refl) t in
    let lower : All (λ e. e.object < n) (filter others t) =
    λ k d l.
    let a = All-filter others (λ x. x.object < suc n) t low k d l in
    let b = eqb-false _ _ (not-true _ (filter_passes others t k d l)) in omega arith in
    let most : length (filter others t) ≤ n * m =
    length_bound n m (filter others t) lower
    (λ o l. let a = length-filter_filter (is_on o) others t in let b = each o (omega arith) in omega arith) in
    let here : length (entries_on n t) ≤ m = each n (omega arith) in
    omega arith
