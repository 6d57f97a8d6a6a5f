-- The entries that start processes.
use Rattle.std.specs.Prelude.{Bool, false, ◌&&◌, nat_eq, List, filter}
use Rattle.anti_kind.specs.declared.actor.Actor.{Actor}
use Rattle.anti_kind.specs.declared.actor.Actor.TheVariants as actors
use Rattle.anti_kind.specs.declared.actor.Birth.{Birth}
use Rattle.anti_kind.specs.declared.entry.Entry.{Entry}

-- a process is named by the object and the place of the entry that started it
abbrev pub birth_at : Entry → Birth
birth_at e = record { object = e.object; place = e.place }

abbrev pub is_started_by : Actor → Entry → Bool
is_started_by (actors.Process birth) e = nat_eq birth.object e.object && nat_eq birth.place e.place
is_started_by _ e = false

-- whether an entry is the first of its own process
abbrev pub is_birth : Entry → Bool
is_birth e = is_started_by e.actor e

-- the births of a trace, in its order
abbrev pub births : List Entry → List Entry
births trace = filter is_birth trace
