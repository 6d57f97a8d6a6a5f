-- Items that leave a list of pairs, and what that makes of the items alone.
use Rattle.std.proofs.Common.{◌≡◌, ℕ, zero, suc, ◌+◌, ◌<◌, ◌≤◌, ◌==◌, true, false, not, List, [], ◌∷◌, ◌++◌, length, get_or, take, drop, Option, Some, refl, sym, ap, ◌∙◌, eq-eqb, ne_eqb, append-nil, append_assoc, arith}
use Rattle.std.specs.List.{filter, remove}
use Rattle.std.proofs.lemmas.Bool.{cond-true, cond-false}
use Rattle.std.proofs.lemmas.List.Elements.{filter-append}
use Rattle.anti_flight.specs.declared.ticket.Ticket.{Ticket}
use Rattle.anti_flight.specs.Tickets.{InFlight, in_flight, first_ticket}
use Rattle.anti_flight.specs.Queued.{queued, items_of, seen}
use Rattle.anti_flight.proofs.Items.{at_index, length_items, items_append}
use Rattle.anti_inbox.proofs.Lists.{filter-most}

abbrev pub Pairs : Type 0
Pairs = List (Ticket × ℕ)

-- there is a ticket at each index within
pub some_ticket : (i : ℕ) (ps : Pairs) → i < length ps → (t : Ticket) × (first_ticket (drop i ps) ≡ Some t)
some_ticket zero [] short = absurd (omega arith)
some_ticket zero (p ∷ ps) short = (p.0, refl)
some_ticket (suc i) [] short = absurd (omega arith)
some_ticket (suc i) (p ∷ ps) short = some_ticket i ps (omega arith)

-- the item at an index, and the items without it
pub item_at : (i : ℕ) (ps : Pairs) (t : Ticket) (x d : ℕ) → drop i ps ≡ (t, x) ∷ drop (suc i) ps → get_or (items_of ps) i d ≡ x
item_at zero [] t x d e = absurd cc
item_at zero (p ∷ ps) t x d e = cc
item_at (suc i) [] t x d e = absurd cc
item_at (suc i) (p ∷ ps) t x d e = item_at i ps t x d e

pub items_removed : (i : ℕ) (ps : Pairs) → items_of (take i ps ++ drop (suc i) ps) ≡ remove (items_of ps) i
items_removed zero [] = refl
items_removed zero (p ∷ ps) = refl
items_removed (suc i) [] = refl
items_removed (suc i) (p ∷ ps) = ap (λ (ns : List ℕ). p.1 ∷ ns) (items_removed i ps)

-- one index on
pub take_more : (i : ℕ) (ps : Pairs) (t : Ticket) (x : ℕ) → drop i ps ≡ (t, x) ∷ drop (suc i) ps → take (suc i) ps ≡ take i ps ++ (t, x) ∷ []
take_more zero [] t x e = absurd cc
take_more zero (p ∷ ps) t x e = let same : p ≡ (t, x) = cc in λ j. same j ∷ []
take_more (suc i) [] t x e = absurd cc
take_more (suc i) (p ∷ ps) t x e = ap (λ (l : Pairs). p ∷ l) (take_more i ps t x e)

-- the ticket after the one at an index is the one at the next
pub next_at : (i : ℕ) (ps : Pairs) (t : Ticket) (next : Option Ticket) → first_ticket (drop i ps) ≡ Some t
    → ((xs : Pairs) (x : ℕ) (ys : Pairs) → ps ≡ xs ++ (t, x) ∷ ys → next ≡ first_ticket ys) → next ≡ first_ticket (drop (i + 1) ps)
next_at i ps t next e after =
    let on = at_index i ps t e in
    let one : suc i ≡ i + 1 = omega arith in
    after (take i ps) on.0 (drop (suc i) ps) on.2 ∙ ap (λ (k : ℕ). first_ticket (drop k ps)) one

-- The pairs now are those of before up to an index without the message n, and then those of before.
abbrev pub Cleared : ℕ → Pairs → ℕ → Pairs → Type 0
Cleared n olds i now = (xs : Pairs) × (now ≡ xs ++ drop i olds) × (items_of xs ≡ filter (λ k. not (k == n)) (items_of (take i olds)))

module _ (n i : ℕ) (olds now : Pairs) (t : Ticket) (item : ℕ) (e : first_ticket (drop i olds) ≡ Some t) (was : Cleared n olds i now) where
  abbrev rest : Pairs
  rest = drop (suc i) olds

  abbrev it : ℕ
  it = (at_index i olds t e).0

  cut : now ≡ was.0 ++ (t, it) ∷ rest
  cut = was.1 ∙ ap (λ (l : Pairs). was.0 ++ l) (at_index i olds t e).1

  one : suc i ≡ i + 1
  one = omega arith

  -- what is left of those up to the next index
  passed : filter (λ k. not (k == n)) (items_of (take (i + 1) olds)) ≡ filter (λ k. not (k == n)) (items_of (take i olds)) ++ filter (λ k. not (k == n)) (it ∷ [])
  passed =
      ap (λ (k : ℕ). filter (λ j. not (j == n)) (items_of (take k olds))) (sym one)
      ∙ ap (λ (l : Pairs). filter (λ j. not (j == n)) (items_of l)) (take_more i olds t it (at_index i olds t e).1)
      ∙ ap (filter (λ j. not (j == n))) (items_append (take i olds) ((t, it) ∷ []))
      ∙ filter-append (λ k. not (k == n)) (items_of (take i olds)) (it ∷ [])

  module _ (read : (xs : Pairs) (x : ℕ) (ys : Pairs) → now ≡ xs ++ (t, x) ∷ ys → item ≡ x) where
    -- one of another message stays
    pub cleared_kept : (item ≡ n → ⊥) → Cleared n olds (i + 1) now
    cleared_kept other =
        let off : (it == n) ≡ false = ne_eqb it n (λ same. other (read was.0 it rest cut ∙ same)) in
        let stays : filter (λ k. not (k == n)) (it ∷ []) ≡ it ∷ [] = cond-true (not (it == n)) (it ∷ []) [] (ap not off) in (
          was.0 ++ (t, it) ∷ [],
          cut ∙ sym (append_assoc was.0 ((t, it) ∷ []) rest) ∙ ap (λ (k : ℕ). (was.0 ++ (t, it) ∷ []) ++ drop k olds) one,
          items_append was.0 ((t, it) ∷ []) ∙ ap (λ (l : List ℕ). l ++ it ∷ []) was.2
              ∙ sym (passed ∙ ap (λ (l : List ℕ). filter (λ k. not (k == n)) (items_of (take i olds)) ++ l) stays),
        )

    -- and one of this message leaves
    pub cleared_left : item ≡ n → (next gone : ℕ) (new : InFlight ℕ)
        → ((xs : Pairs) (x : ℕ) (ys : Pairs) → now ≡ xs ++ (t, x) ∷ ys → (new ≡ in_flight (xs ++ ys) next) × (gone ≡ x)) → Cleared n olds (i + 1) new.pairs × (new.next ≡ next)
    cleared_left same next gone new left =
        let on : (it == n) ≡ true = eq-eqb it n (sym (read was.0 it rest cut) ∙ same) in
        let goes : filter (λ k. not (k == n)) (it ∷ []) ≡ [] = cond-false (not (it == n)) (it ∷ []) [] (ap not on) in
        let is : new ≡ in_flight (was.0 ++ rest) next = (left was.0 it rest cut).0 in (
          (
            was.0,
            ap (λ (f : InFlight ℕ). f.pairs) is ∙ ap (λ (k : ℕ). was.0 ++ drop k olds) one,
            was.2 ∙ sym (passed ∙ ap (λ (l : List ℕ). filter (λ k. not (k == n)) (items_of (take i olds)) ++ l) goes ∙ append-nil (filter (λ k. not (k == n)) (items_of (take i olds)))),
          ),
          ap (λ (f : InFlight ℕ). f.next) is,
        )

-- where no ticket is at an index, none is there
pub none_at : (i : ℕ) (ps : Pairs) (at : Option Ticket) → at ≡ first_ticket (drop i ps) → ((t : Ticket) → at ≡ Some t → ⊥) → i < length ps → ⊥
none_at i ps at here none short = let on = some_ticket i ps short in none on.0 (here ∙ on.1)

-- the ticket behind the one at an index of a list that is cleared up to it
pub next_in : (n i : ℕ) (olds now : Pairs) (t : Ticket) (next : Option Ticket) → first_ticket (drop i olds) ≡ Some t → Cleared n olds i now
    → ((xs : Pairs) (x : ℕ) (ys : Pairs) → now ≡ xs ++ (t, x) ∷ ys → next ≡ first_ticket ys) → next ≡ first_ticket (drop (i + 1) olds)
next_in n i olds now t next e was after =
    let on = at_index i olds t e in
    let one : suc i ≡ i + 1 = omega arith in
    after was.0 on.0 (drop (suc i) olds) (cut n i olds now t 0 e was) ∙ ap (λ (k : ℕ). first_ticket (drop k olds)) one

-- What the calls find and leave of the items.

module _ (i : ℕ) (ps : Pairs) (t : Ticket) (here : first_ticket (drop i ps) ≡ Some t) where
  found : (r x : ℕ) → r ≡ x → drop i ps ≡ (t, x) ∷ drop (suc i) ps → r ≡ get_or (items_of ps) i r
  found r x is e = is ∙ sym (item_at i ps t x r e)

  pub reads_item : (r : ℕ) → ((xs : Pairs) (x : ℕ) (ys : Pairs) → ps ≡ xs ++ (t, x) ∷ ys → r ≡ x) → r ≡ get_or (items_of ps) i r
  reads_item r read = let on = at_index i ps t here in found r on.0 (read (take i ps) on.0 (drop (suc i) ps) on.2) on.1

  pub removes_item : (r next : ℕ) (new : InFlight ℕ) → ((xs : Pairs) (x : ℕ) (ys : Pairs) → ps ≡ xs ++ (t, x) ∷ ys → (new ≡ in_flight (xs ++ ys) next) × (r ≡ x))
      → (r ≡ get_or (items_of ps) i r) × (seen new ≡ queued (remove (items_of ps) i) next)
  removes_item r next new left =
      let on = at_index i ps t here in
      let gone = left (take i ps) on.0 (drop (suc i) ps) on.2 in
      (found r on.0 gone.1 on.1, ap seen gone.0 ∙ ap (λ (ns : List ℕ). queued ns next) (items_removed i ps))

pub fewer : (n : ℕ) (olds news : Pairs) → items_of news ≡ filter (λ k. not (k == n)) (items_of olds) → length news ≤ length olds
fewer n olds news left = omega (arith, length_items olds, length_items news, ap length left, filter-most (λ k. not (k == n)) (items_of olds))
