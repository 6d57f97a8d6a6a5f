-- A trace is a list of entries in the order of their stamps, and of their objects where two stamps are equal.
use Rattle.std.specs.Prelude.{ℕ, ◌==◌, nat_lt, Bool, true, false, ◌&&◌, ◌||◌, cond, List, [], ◌∷◌, IsTrue, All}
use Rattle.std.specs.List.{filter}
use Rattle.anti_kind.specs.declared.actor.Actor.{Actor}
use Rattle.anti_kind.specs.declared.actor.Actor.TheVariants.{Carrier, Process, Newborn}
use Rattle.anti_kind.specs.declared.entry.Entry.{Entry}

-- whether an entry is on an object
abbrev pub is_on : ℕ → Entry → Bool
is_on o e = e.object == o

-- the history of an object in a trace
abbrev pub entries_on : ℕ → List Entry → List Entry
entries_on o t = filter (is_on o) t

abbrev pub same_actor : Actor → Actor → Bool
same_actor (Carrier n) (Carrier m) = n == m
same_actor (Process b) (Process c) = b.object == c.object && b.place == c.place
same_actor Newborn Newborn = true
same_actor _ _ = false

-- whether an entry was made by an actor
abbrev pub is_by : Actor → Entry → Bool
is_by a e = same_actor a e.actor

-- what an actor did in a trace
abbrev pub entries_by : Actor → List Entry → List Entry
entries_by a t = filter (is_by a) t

-- by stamp, and by object where two stamps are equal
abbrev pub comes_before : Entry → Entry → Bool
comes_before d e = nat_lt d.stamp e.stamp || (d.stamp == e.stamp && nat_lt d.object e.object)

-- each entry comes before every later one
abbrev pub IsTrace : List Entry → Type 0
IsTrace [] = Unit {0}
IsTrace (e ∷ t) = All (λ d. IsTrue (comes_before e d)) t × IsTrace t

-- the entry in its place: before the first entry that does not come before it
abbrev pub put : Entry → List Entry → List Entry
put e [] = e ∷ []
put e (d ∷ t) = cond (comes_before d e) (d ∷ put e t) (e ∷ d ∷ t)
