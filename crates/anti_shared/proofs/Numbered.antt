-- The entries of a number, and those of the passes that ended.
use Rattle.std.proofs.Common.{◌≡◌, ◌==◌, ℕ, ◌+◌, ◌<◌, ◌≤◌, true, cond, List, [], ◌∷◌, ◌++◌, map, All, refl, ap, ◌∙◌, eq-eqb, arith}
use Rattle.std.proofs.lemmas.Bool.{eqb-true}
use Rattle.std.proofs.lemmas.List.Elements.{All-nil, All-cons, All-weaker, filter_passes}
use Rattle.anti_kind.specs.declared.entry.Entry.{Entry}
use Rattle.anti_turn.specs.Lists.{times}
use Rattle.anti_turn.proofs.Fronts.{entries_of-append}
use Rattle.anti_turn.proofs.Times.{times-append, times_itself}
use Rattle.anti_shared.specs.Passes.{seat_of, calls_of, ended_number}
use Rattle.anti_shared.specs.inner.Seating.{ended_in}

-- a number stands before others, and these stand behind it
pub times_first : (n : ℕ) (ns : List ℕ) → times n (n ∷ ns) ≡ 1 + times n ns
times_first n ns = times-append n (n ∷ []) ns ∙ ap (λ (k : ℕ). k + times n ns) (times_itself n)

pub times_later : (n m : ℕ) (ms : List ℕ) → times n ms ≤ times n (m ∷ ms)
times_later n m ms = let both : times n (m ∷ ms) ≡ times n (m ∷ []) + times n ms = times-append n (m ∷ []) ms in omega arith

pub ended_numbers : (seen : List Entry) (ns : List ℕ) → map ended_number (map (ended_in seen) ns) ≡ ns
ended_numbers seen [] = refl
ended_numbers seen (n ∷ ns) = ap (λ (ms : List ℕ). n ∷ ms) (ended_numbers seen ns)

-- passes whose entries are the same
pub ended_same : (ns : List ℕ) (xs ys : List Entry) → ((n : ℕ) → 0 < times n ns → calls_of n ys ≡ calls_of n xs) → map (ended_in ys) ns ≡ map (ended_in xs) ns
ended_same [] xs ys same = refl
ended_same (n ∷ ns) xs ys same =
    let first = times_first n ns in
    let here : calls_of n ys ≡ calls_of n xs = same n (omega arith) in
    let later = ended_same ns xs ys (λ m stands. same m (let l = times_later m n ns in omega arith)) in
    λ i. (n, here i) ∷ later i

pub ended_are : (seen : List Entry) (ns : List ℕ) → All (λ pair. pair.1 ≡ calls_of pair.0 seen) (map (ended_in seen) ns)
ended_are seen [] = All-nil (λ (pair : ℕ × List Entry). pair.1 ≡ calls_of pair.0 seen)
ended_are seen (n ∷ ns) = All-cons (λ (pair : ℕ × List Entry). pair.1 ≡ calls_of pair.0 seen) (ended_in seen n) (map (ended_in seen) ns) refl (ended_are seen ns)

-- entries of a number have it
pub calls_named : (n : ℕ) (entries : List Entry) → All (λ e. e.seat ≡ n) (calls_of n entries)
calls_named n entries =
    All-weaker (λ (e : Entry). (seat_of e == n) ≡ true) (λ (e : Entry). e.seat ≡ n) (λ e passes. eqb-true e.seat n passes) (calls_of n entries)
    (filter_passes (λ (e : Entry). seat_of e == n) entries)

-- a further entry of a number
pub calls_more : (n : ℕ) (h : List Entry) (e : Entry) → e.seat ≡ n → calls_of n (h ++ e ∷ []) ≡ calls_of n h ++ e ∷ []
calls_more n h e own =
    let one : cond (seat_of e == n) (e ∷ []) [] ≡ e ∷ [] = rw (eq-eqb (seat_of e) n own) refl in
    entries_of-append seat_of n h (e ∷ []) ∙ ap (λ (es : List Entry). calls_of n h ++ es) one
