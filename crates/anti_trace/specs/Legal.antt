-- What a run of an application is: a trace that is legal in its parts. These are its order, the history of each object, what each actor
-- did, and the stamps.
use Rattle.std.specs.Prelude.{◌≡◌, ℕ, ◌+◌, ◌<◌, max, Bool, true, false, List, [], ◌∷◌, ◌++◌, All, Some}
use Rattle.anti_kind.specs.declared.actor.Actor.{Actor}
use Rattle.anti_kind.specs.declared.actor.Actor.TheVariants.{Carrier, Process, Newborn}
use Rattle.anti_kind.specs.declared.actor.Birth.{Birth}
use Rattle.anti_kind.specs.declared.call.Call.{Call}
use Rattle.anti_kind.specs.declared.call.Call.TheVariants.{Take, Pull, Repull, Ship, Again, Repost}
use Rattle.anti_kind.specs.declared.entry.Entry.{Entry}
use Rattle.anti_kind.specs.Objects.{Start, IsLegal, last_stamp}
use Rattle.anti_app.specs.declared.app.App.{App}
use Rattle.anti_app.specs.Objects.{object_count}
use Rattle.anti_object.specs.Starts.{start_of}
use Rattle.anti_proc.specs.Births.{birth_at}
use Rattle.anti_proc.specs.Meaning.{tree_of}
use Rattle.anti_proc.specs.Trees.{Tree, Asks, Ends}
use Rattle.anti_trace.specs.Traces.{IsTrace, entries_on, entries_by}

-- whether a process is born by a call
abbrev pub bears : Call → Bool
bears (Take nth) = true
bears (Pull sub) = true
bears (Repull sub version) = true
bears _ = false

-- whether a call is one of the carriers: it ships, ships again, or delivers again
abbrev pub carries : Call → Bool
carries (Ship region version part) = true
carries (Again region version part) = true
carries (Repost number) = true
carries _ = false

-- The entries are just what a process asks for: each is its next call, in the span that it is in, and the reply decides how it goes on.
-- There may be more to come, but nothing comes behind the end.
abbrev pub GoAlong : Tree → List Entry → Type 0
GoAlong tree [] = Unit {0}
GoAlong (Asks ask go) (e ∷ es) = (e.object ≡ ask.object) × (e.span ≡ ask.span) × (e.call ≡ ask.call) × GoAlong (go e.reply) es
GoAlong (Ends end) (e ∷ es) = ⊥

-- the entry by which a process is born, in its first span
pub record IsBirthOf (b : Birth) (e : Entry) : Type 0 where
  pub named : birth_at e ≡ b
  pub call : bears e.call ≡ true
  pub span : e.span ≡ 1

-- What a process did: nothing, or first its birth, and then what the process that this starts asks for.
abbrev pub IsLife : App → Birth → List Entry → Type 0
IsLife app b [] = Unit {0}
IsLife app b (birth ∷ later) = IsBirthOf b birth × GoAlong (tree_of app birth) later

-- what a carrier does, in no span
pub record IsCarried (e : Entry) : Type 0 where
  pub call : carries e.call ≡ true
  pub span : e.span ≡ 0

-- What an actor did. An entry names the process that it begins, so none is by one that is yet to be born.
abbrev pub IsOfActor : App → Actor → List Entry → Type 0
IsOfActor app (Carrier number) entries = All IsCarried entries
IsOfActor app (Process b) entries = IsLife app b entries
IsOfActor app Newborn entries = entries ≡ []

-- The stamp of each entry is one more than the greater of two: the last stamp before it of its actor, and that on its object.
abbrev pub AreStamps : List Entry → Type 0
AreStamps trace =
    (before : List Entry) (e : Entry) (after : List Entry) → trace ≡ before ++ e ∷ after
    → e.stamp ≡ max (last_stamp (entries_by e.actor before)) (last_stamp (entries_on e.object before)) + 1

-- The entries stand in their order, on objects that are there. The history of each object is legal, each actor did what it may, and the
-- stamps are those of the entries before.
pub record IsLegalTrace (app : App) (trace : List Entry) : Type 0 where
  pub order : IsTrace trace
  pub there : All (λ e. e.object < object_count app) trace
  pub histories : (o : ℕ) (start : Start) → start_of app o ≡ Some start → IsLegal start (entries_on o trace)
  pub actors : (a : Actor) → IsOfActor app a (entries_by a trace)
  pub stamps : AreStamps trace
