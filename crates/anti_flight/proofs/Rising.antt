-- Numbers that rise: where a pair leaves, where one comes, and what lies behind a pair.
use Rattle.std.proofs.Common.{ℕ, ◌+◌, ◌<◌, List, [], ◌∷◌, ◌++◌, arith}
use Rattle.std.specs.List.{AllByRecursion}
use Rattle.anti_flight.specs.declared.ticket.Ticket.{Ticket}
use Rattle.anti_flight.specs.Tickets.{Rises}
use Rattle.anti_flight.proofs.Splits.{all_left, all_right, all_both}

module _ {T : Type 0} where
  abbrev Below : Ticket × T → Ticket × T → Type 0
  Below p q = p.0.number < q.0.number

  pub rises_without : (xs : List (Ticket × T)) (p : Ticket × T) (ys : List (Ticket × T)) (next : ℕ) → Rises (xs ++ p ∷ ys) next → Rises (xs ++ ys) next
  rises_without [] p ys next r = r.2
  rises_without (x ∷ xs) p ys next r =
      (r.0, all_both (Below x) xs ys (all_left (Below x) xs (p ∷ ys) r.1) (all_right (Below x) xs (p ∷ ys) r.1).1, rises_without xs p ys next r.2)

  pub below_next : (ps : List (Ticket × T)) (next : ℕ) → Rises ps next → AllByRecursion (λ (p : Ticket × T). p.0.number < next) ps
  below_next [] next r = tt
  below_next (p ∷ ps) next r = (r.0, below_next ps next r.2)

  pub rises_pushed : (ps : List (Ticket × T)) (p : Ticket × T) → Rises ps p.0.number → Rises (ps ++ p ∷ []) (p.0.number + 1)
  rises_pushed [] p r = (omega arith, tt, tt)
  rises_pushed (q ∷ ps) p r = let low = r.0 in (omega arith, all_both (Below q) ps (p ∷ []) r.1 (low, tt), rises_pushed ps p r.2)

  -- a pair's number is below those of the pairs behind it
  pub below_later : (xs : List (Ticket × T)) (p : Ticket × T) (ys : List (Ticket × T)) (q : Ticket × T) (zs : List (Ticket × T)) (next : ℕ) → Rises (xs ++ p ∷ (ys ++ q ∷ zs)) next → p.0.number < q.0.number
  below_later [] p ys q zs next r = (all_right (Below p) ys (q ∷ zs) r.1).0
  below_later (x ∷ xs) p ys q zs next r = below_later xs p ys q zs next r.2
