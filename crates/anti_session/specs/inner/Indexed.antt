-- What an index of a trace knows: the places of the entries of each span, who took each message first, and the places of the entries by
-- their marks.
use Rattle.std.specs.Prelude.{ℕ, ◌≡◌, Bool, cond, List, length, Option, None, Some, option_map}
use Rattle.std.specs.BTreeMap.{BTreeMap, get}
use Rattle.std.specs.List.{find}
use Rattle.anti_kind.specs.declared.actor.Actor.{Actor}
use Rattle.anti_kind.specs.declared.entry.Entry.{Entry}
use Rattle.anti_past.specs.inner.Keys.{is_in}
use Rattle.anti_past.specs.inner.Marks.{KnowsPlaces, pair_cmp}
use Rattle.anti_past.specs.inner.Reading.{AreNoted}
use Rattle.anti_session.specs.Members.{takes}
use Rattle.anti_session.specs.declared.session_index.SessionIndex.{SessionIndex}

-- the actor of the entry that took a message first
abbrev pub taken_first : List Entry → ℕ → ℕ → Option Actor
taken_first trace inbox number = option_map (λ e. e.actor) (find (takes inbox number) trace)

-- who is noted as the taker, where one more entry may be the take: the first stays
abbrev pub first_stays : Bool → Actor → Option Actor → Option Actor
first_stays took actor (Some first) = Some first
first_stays took actor None = cond took (Some actor) None

-- who took each message of a trace first
abbrev pub AreTakersOf : List Entry → BTreeMap (ℕ × ℕ) Actor → Type 0
AreTakersOf trace takers = (inbox number : ℕ) → get pair_cmp takers (inbox, number) ≡ taken_first trace inbox number

pub record IsIndexOf (trace : List Entry) (index : SessionIndex) : Type 0 where
  pub spans : AreNoted is_in trace (length trace) index.spans
  pub takers : AreTakersOf trace index.takers
  pub marks : KnowsPlaces trace index.marks
