-- An object's history never passes its units.
use Rattle.std.proofs.Common.{◌≡◌, ℕ, Bool, true, false, cond, ◌+◌, ◌≤◌, List, [], ◌∷◌, ◌++◌, length, refl, arith}
use Rattle.anti_ids.specs.declared.limits.TheConstants.{MOST_UNITS}
use Rattle.anti_kind.specs.Kinds.{facts_of}
use Rattle.anti_kind.specs.declared.entry.Entry.{Entry}
use Rattle.anti_kind.specs.Objects.{Start, store, inbox, held, owed, need, weight, Follows, IsLegal}
use Rattle.anti_kind.specs.Starts.{IsStart}
use Rattle.anti_kind.proofs.Histories.{by_entries, length_held, fits_number, held_more, legal_more}
use Rattle.anti_kind.proofs.Balance.{store_units}
use Rattle.anti_kind.proofs.Deliveries.{inbox_units, start_owes}

-- Held and owed after an entry are what they were before and what its call needed.
pub units : (start : Start) (h : List Entry) (e : Entry) → IsStart start → IsLegal start h → Follows start h e
    → held (h ++ e ∷ []) + owed start (h ++ e ∷ []) ≡ held h + owed start h + need start h e.call
units (store s) h e sane l f = store_units s h e l f sane
units (inbox requests) h e sane l f = inbox_units requests h e l f

nothing_either_way : (b : Bool) → cond {A = ℕ} b 0 0 ≡ 0
nothing_either_way true = refl
nothing_either_way false = refl

start_fits : (start : Start) → IsStart start → held [] + owed start [] ≤ MOST_UNITS
start_fits (store s) sane = omega (arith, nothing_either_way (facts_of s.kind).tried)
start_fits (inbox requests) sane = omega (arith, start_owes requests sane, sane.few)

-- what a legal history holds and owes is within the units
pub within_units : (start : Start) (h : List Entry) → IsStart start → IsLegal start h → held h + owed start h ≤ MOST_UNITS
within_units start h sane l =
    by_entries start (λ k. held k + owed start k ≤ MOST_UNITS) (start_fits start sane) (λ k e legal f was. omega (arith, units start k e sane legal f, fits_number start k e f)) h l

pub held_within : (start : Start) (h : List Entry) → IsStart start → IsLegal start h → held h ≤ MOST_UNITS
held_within start h sane l = omega (arith, within_units start h sane l)

-- so is what an entry weighs
pub weight_within : (start : Start) (h : List Entry) (e : Entry) → IsStart start → IsLegal start h → Follows start h e → weight e.reply ≤ MOST_UNITS
weight_within start h e sane l f = omega (arith, held_more h e, held_within start (h ++ e ∷ []) sane (legal_more start h e l f))

-- and its length
pub length_within : (start : Start) (h : List Entry) → IsStart start → IsLegal start h → length h ≤ MOST_UNITS
length_within start h sane l = omega (arith, within_units start h sane l, length_held h)
