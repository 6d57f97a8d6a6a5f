-- What reads miss, as a map from the places of the writes to those of the reads keeps it, in the order in which it is found.
use Rattle.std.specs.Prelude.{ℕ, ◌≡◌, ◌==◌, Bool, nat_eq, is_some, cond, List, [], ◌∷◌, ◌++◌, length, map}
use Rattle.std.specs.List.{list_any}
use Rattle.std.specs.Map.{lookup}
use Rattle.anti_kind.specs.declared.entry.Entry.{Entry}
use Rattle.anti_order.specs.inner.Writes.{AreWritesOf}
use Rattle.anti_doctor.specs.Missed.{AreMissed, Pair}
use Rattle.anti_doctor.specs.declared.grounds.Grounds.{Grounds}
use Rattle.anti_doctor.specs.inner.Causes.{AreCausesOf, past_in}
use Rattle.anti_doctor.specs.inner.Indexes.{IsIndexOf}

-- an entry of the map as a pair
abbrev pub pair_of : ℕ × ℕ → Pair
pair_of e = record { read = e.1; write = e.0 }

-- whether a write is known to be missed
abbrev pub is_known : ℕ → List (ℕ × ℕ) → Bool
is_known i found = is_some (lookup (nat_eq i) found)

-- with a write that a read misses, and with several
abbrev pub with_finding : ℕ → ℕ → List (ℕ × ℕ) → List (ℕ × ℕ)
with_finding r i found = cond (is_known i found) found (found ++ (i, r) ∷ [])

abbrev pub with_findings : ℕ → List ℕ → List (ℕ × ℕ) → List (ℕ × ℕ)
with_findings r [] found = found
with_findings r (i ∷ is) found = with_findings r is (with_finding r i found)

-- What is found of the reads so far: with what the rest of them miss it is what all of them miss.
pub record IsFoundUpTo (trace : List Entry) (past : ℕ → ℕ → Bool) (all rest : List ℕ) (found : List (ℕ × ℕ)) : Type 0 where
  pub seen : List ℕ
  pub known : (i : ℕ) → is_known i found ≡ list_any (λ j. j == i) seen
  pub goes_on : (later : List Pair) → AreMissed trace past rest seen later → AreMissed trace past all [] (map pair_of found ++ later)

-- what all diagnoses of a trace rest on
pub record AreGrounds (trace : List Entry) (grounds : Grounds) : Type 0 where
  pub writes : AreWritesOf trace grounds.writes
  pub index : IsIndexOf trace (length trace) grounds.index
  pub sets : AreCausesOf trace grounds.sets.items

-- the writes that are causally before the reads, as the grounds tell them
abbrev pub past_by : Grounds → List Entry → ℕ → ℕ → Bool
past_by grounds trace = past_in grounds.sets.items trace
