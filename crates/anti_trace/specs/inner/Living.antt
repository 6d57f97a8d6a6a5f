-- How the processes of a program stand for a trace.
use Rattle.std.specs.Prelude.{◌≡◌, ℕ, ◌<◌, ◌≤◌, Bool, List, [], ◌∷◌, ◌++◌, length, map, slice_index_or, slice_get, slice_set, vec_len, vec_capacity, All, AllPairs, Option, None, Some, IfSome, position}
use Rattle.anti_kind.specs.declared.actor.Actor.{Actor}
use Rattle.anti_kind.specs.declared.actor.Actor.TheVariants.{Process as Acting}
use Rattle.anti_kind.specs.declared.actor.Birth.{Birth}
use Rattle.anti_kind.specs.declared.call.Call.{Call}
use Rattle.anti_kind.specs.declared.entry.Entry.{Entry}
use Rattle.anti_kind.specs.Objects.{Start, Follows, last_stamp}
use Rattle.anti_kind.specs.Fulls.{HasAscending}
use Rattle.anti_kind.specs.Ports.{IsFull}
use Rattle.anti_app.specs.declared.app.App.{App}
use Rattle.anti_app.specs.Objects.{object_count}
use Rattle.anti_object.specs.Starts.{start_of}
use Rattle.anti_proc.specs.declared.process.Process.{Process}
use Rattle.anti_proc.specs.declared.run.Advance.{Advance}
use Rattle.anti_proc.specs.Births.{birth_at, births}
use Rattle.anti_proc.specs.Meaning.{process_after, tree_of}
use Rattle.anti_proc.specs.Tasks.{role_of}
use Rattle.anti_proc.specs.Trees.{Want, Make, Over, ask_of, want_of}
use Rattle.anti_proc.specs.Asked.{IsAskedAt}
use Rattle.anti_proc.specs.inner.Running.{IsAdvanceOf, IsRunOf}
use Rattle.anti_proc.specs.inner.Standing as standing
use Rattle.anti_trace.specs.Traces.{entries_on, entries_by, same_actor}
use Rattle.anti_trace.specs.Legal.{IsLegalTrace}
use Rattle.anti_trace.specs.declared.processes.AtObject.{AtObject}
use Rattle.anti_trace.specs.declared.processes.Processes.{Processes}

-- the lists of the processes, one for each object
abbrev pub lists : Processes → List AtObject
lists all = all.at.items

abbrev pub is_named : Birth → Process → Bool
is_named b p = same_actor (Acting b) (Acting (standing.birth_of p))

-- At some moment of the run the call was ready and did not fit. So it does not fit now, and it never will: what is full stays full.
pub record WasFull (app : App) (trace : List Entry) (object : ℕ) (call : Call) : Type 0 where
  pub start : Start
  pub there : start_of app object ≡ Some start
  pub before : List Entry
  pub later : List Entry
  pub history : entries_on object trace ≡ before ++ later
  pub held_units : ℕ
  pub owed_units : ℕ
  pub need_units : ℕ
  pub was_full : IsFull start before call held_units owed_units need_units
  pub ascends : HasAscending call

-- what a process wants is such a call at the object of this number
abbrev pub IsEnded : App → List Entry → Want → ℕ → Type 0
IsEnded app trace (Make object span call) at = (object ≡ at) × WasFull app trace object call
IsEnded app trace (Over end) at = ⊥

-- A process stands for its entries, of which the first started it. It may have been ended, since its next
-- call did not fit; else it is what is left after these entries.
pub record LivesOn (app : App) (trace : List Entry) (p : Process) (entries : List Entry) : Type 0 where
  pub birth : Entry
  pub later : List Entry
  pub entries_are : entries ≡ birth ∷ later
  pub run : IsRunOf app p
  pub role : role_of app birth ≡ Some (standing.its_role p)
  pub tree : standing.full_of p ≡ None → standing.process_of app p ≡ process_after app entries
  pub clock : standing.clock_of p ≡ last_stamp entries
  pub full : IfSome (standing.full_of p) (IsEnded app trace (want_of (process_after app entries)))

-- where a process was found it lives on, else it has no entry
abbrev pub Lives : App → List Entry → List Process → Option ℕ → List Entry → Type 0
Lives app trace ps None entries = entries ≡ []
Lives app trace ps (Some i) entries = (d : Process) → LivesOn app trace (slice_index_or ps i d) entries

-- the processes that were born at an object, of those of all objects
abbrev pub born_in : Option AtObject → List Process
born_in None = []
born_in (Some here) = here.born.items

abbrev pub born_at : List AtObject → ℕ → List Process
born_at all o = born_in (slice_get all o)

abbrev pub AllLive : App → List AtObject → List Entry → Type 0
AllLive app all trace =
    (b : Birth)
    → Lives app trace (born_at all b.object) (position (is_named b) (born_at all b.object)) (entries_by (Acting b) trace)

-- those of each object are named by the births of its history, in their order
abbrev pub AreBorn : List AtObject → List Entry → Type 0
AreBorn all trace = (o : ℕ) → map standing.birth_of (born_at all o) ≡ map birth_at (births (entries_on o trace))

-- the process makes no further call
abbrev pub HasEnded : App → Process → Type 0
HasEnded app p = ask_of (standing.process_of app p) ≡ None

-- there is room for one process more at an object
abbrev pub has_spare : Option AtObject → Type 0
has_spare None = ⊥
has_spare (Some here) = vec_len here.born < vec_capacity here.born

abbrev pub HasSpare : List AtObject → ℕ → Type 0
HasSpare all o = has_spare (slice_get all o)

-- the processes of one object have changed to these
pub record Changes (before after : List AtObject) (o : ℕ) (here : List Process) : Type 0 where
  pub count : length after ≡ length before
  pub here_are : born_at after o ≡ here
  pub others : (k : ℕ) → (o ≡ k → ⊥) → born_at after k ≡ born_at before k

-- one process of an object has become another, by a change of this kind
pub record Becomes (By : Process → Process → Type 0) (before after : List AtObject) (o i : ℕ) : Type 0 where
  pub old : Process
  pub new : Process
  pub was : slice_get (born_at before o) i ≡ Some old
  pub changes : Changes before after o (slice_set (born_at before o) i new)
  pub by : By old new

-- the process is as it was, but may have more room
pub record MakesRoom (old new : Process) : Type 0 where
  pub tree : (app : App) → standing.process_of app new ≡ standing.process_of app old
  pub run : (app : App) → IsRunOf app old → IsRunOf app new
  pub advance : (app : App) (a : Advance) → standing.advanced app new a ≡ standing.advanced app old a
  pub spans : (app : App) (a : Advance) → IsAdvanceOf app old a → IsAdvanceOf app new a
  pub clock : standing.clock_of new ≡ standing.clock_of old
  pub birth : standing.birth_of new ≡ standing.birth_of old
  pub role : standing.its_role new ≡ standing.its_role old
  pub full : standing.full_of new ≡ standing.full_of old

-- it has taken over what a reply made of it, with the stamp of the entry
pub record TakesOver (stamp : ℕ) (a : Advance) (old new : Process) : Type 0 where
  pub tree : (app : App) → standing.process_of app new ≡ standing.advanced app old a
  pub run : (app : App) → IsAdvanceOf app old a → IsRunOf app new
  pub clock : standing.clock_of new ≡ stamp
  pub birth : standing.birth_of new ≡ standing.birth_of old
  pub role : standing.its_role new ≡ standing.its_role old
  pub full : standing.full_by a ≡ standing.full_of old → standing.full_of new ≡ standing.full_of old

-- it was ended, since its next call did not fit on an object
pub record MetFull (object : ℕ) (old new : Process) : Type 0 where
  pub run : (app : App) → IsRunOf app new
  pub clock : standing.clock_of new ≡ standing.clock_of old
  pub birth : standing.birth_of new ≡ standing.birth_of old
  pub role : standing.its_role new ≡ standing.its_role old
  pub full : standing.full_of new ≡ Some object

-- it may be ended so
pub record MayMeetFull (object : ℕ) (p : Process) : Type 0 where
  pub first : standing.full_of p ≡ None
  pub asks : (app : App) × IsAskedAt object (standing.process_of app p)

-- something is known of a process of an object
abbrev pub IsAt : (Process → Type 0) → List AtObject → ℕ → ℕ → Type 0
IsAt Is all o i = (p : Process) → slice_get (born_at all o) i ≡ Some p → Is p

-- so many objects, at none of which a process was born
pub record NoneBorn (count : ℕ) (all : List AtObject) : Type 0 where
  pub many : length all ≡ count
  pub none : (o : ℕ) → born_at all o ≡ []

-- the history of an entry's object gets it at its end, and the others stay
pub record Extends (before after : List Entry) (e : Entry) : Type 0 where
  pub here : entries_on e.object after ≡ entries_on e.object before ++ e ∷ []
  pub others : (o : ℕ) → (e.object ≡ o → ⊥) → entries_on o after ≡ entries_on o before

-- and it may come next there, as an entry does that is put into a trace
pub record Grows (app : App) (before after : List Entry) (e : Entry) : Type 0 where
  pub extends : Extends before after e
  pub follows : (start : Start) → start_of app e.object ≡ Some start → Follows start (entries_on e.object before) e

-- its actor's entries get it at their end too, and those of the others stay
pub record Gets (app : App) (before after : List Entry) (e : Entry) : Type 0 where
  pub grows : Extends before after e
  pub own : entries_by e.actor after ≡ entries_by e.actor before ++ e ∷ []
  pub others : (a : Actor) → (e.actor ≡ a → ⊥) → entries_by a after ≡ entries_by a before

-- the process that an entry starts
pub record IsNewOf (app : App) (e : Entry) (p : Process) : Type 0 where
  pub run : IsRunOf app p
  pub tree : standing.process_of app p ≡ tree_of app e
  pub clock : standing.clock_of p ≡ e.stamp
  pub birth : standing.birth_of p ≡ birth_at e
  pub role : role_of app e ≡ Some (standing.its_role p)
  pub full : standing.full_of p ≡ None

-- ---- all of them

-- The processes stand for the trace: those of each object are named by the births of its history, and each stands for its entries.
pub record AreProcessesOf (app : App) (all : List AtObject) (trace : List Entry) : Type 0 where
  pub count : length all ≡ object_count app
  pub born : AreBorn all trace
  pub live : AllLive app all trace

-- of some legal trace of some application
pub record AreOfSome (all : List AtObject) : Type 0 where
  pub app : App
  pub trace : List Entry
  pub legal : IsLegalTrace app trace
  pub are : AreProcessesOf app all trace

-- The entry is the next of a legal trace of a sound application, and the processes stand for what comes before it.
pub record IsNextOf (app : App) (all : List AtObject) (e : Entry) : Type 0 where
  pub before : List Entry
  pub after : List Entry
  pub legal : IsLegalTrace app (before ++ e ∷ after)
  pub are : AreProcessesOf app all before

-- where the process of an entry stands among those that were born at its object: nowhere where it is not born yet
abbrev pub IsPlaceOf : List AtObject → Entry → Option ℕ → Type 0
IsPlaceOf all e place = (b : Birth) → e.actor ≡ Acting b → place ≡ position (is_named b) (born_at all b.object)

-- what is known of the process of a birth: it lives on, or has no entry
abbrev pub Shows : App → List Entry → Birth → Option Process → Type 0
Shows app trace b None = entries_by (Acting b) trace ≡ []
Shows app trace b (Some p) = LivesOn app trace p (entries_by (Acting b) trace)

-- processes that were born at one object, in the order of the places of their births
pub record AreInOrder (object : ℕ) (ps : List Process) : Type 0 where
  pub here : All (λ p. (standing.birth_of p).object ≡ object) ps
  pub ascend : AllPairs (λ p q. (standing.birth_of p).place < (standing.birth_of q).place) ps

-- the process lives on as that of its birth
abbrev pub LivesItself : App → List Entry → Process → Type 0
LivesItself app trace p = LivesOn app trace p (entries_by (Acting (standing.birth_of p)) trace)

-- the entry is the next of a legal trace, of which the process of the birth does it
pub record IsNextBy (app : App) (all : List AtObject) (e : Entry) (b : Birth) : Type 0 where
  pub next : IsNextOf app all e
  pub by : e.actor ≡ Acting b

-- so many of the first processes have a place below this one
pub record IsCountBefore (place : ℕ) (ps : List Process) (n : ℕ) : Type 0 where
  pub within : n ≤ length ps
  pub below : (i : ℕ) (d : Process) → i < n → (standing.birth_of (slice_index_or ps i d)).place < place
  pub above : (i : ℕ) (d : Process) → n ≤ i → i < length ps → place ≤ (standing.birth_of (slice_index_or ps i d)).place
