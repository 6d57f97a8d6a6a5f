-- Who is the first that is awake, and who is woken, one after another.
use Rattle.std.specs.Prelude.{◌≡◌, ℕ, ◌⊎◌, ◌&&◌, ◌==◌, Bool, true, false, nat_le, Contains, Option, None, Some}
use Rattle.std.specs.BTreeSet.{BTreeSet, keys}
use Rattle.anti_kind.specs.declared.awaited.Awaited.{Awaited}
use Rattle.anti_kind.specs.declared.awaited.Awaited.TheVariants.{Delivery, Handout, Reply, Version, Writing}
use Rattle.anti_kind.specs.declared.awaited.Brought.{Brought}
use Rattle.anti_kind.specs.declared.awaited.Brought.TheVariants as came
use Rattle.anti_agenda.specs.Agendas.{IsAsleep, IsAwake, IsBefore, IsIdle, sleeper}
use Rattle.anti_agenda.specs.declared.agenda.Agenda.{Agenda}
use Rattle.anti_agenda.specs.declared.offer.Offer.{Offer}
use Rattle.anti_agenda.specs.declared.offer.Sleeper.{Sleeper}

-- Those that were awake are. Some of those that were idle or asleep are awake, and nobody else is idle or asleep.
pub record WakesSome (old new : Agenda) : Type 0 where
  pub awake : (offer : Offer) → IsAwake old offer → IsAwake new offer
  pub idle : (offer : Offer) → IsIdle old offer → IsIdle new offer ⊎ IsAwake new offer
  pub asleep : (at : ℕ) (awaited : Awaited) (offer : Offer) → IsAsleep old at awaited offer
      → IsAsleep new at awaited offer ⊎ IsAwake new offer
  pub idle_still : (offer : Offer) → IsIdle new offer → IsIdle old offer
  pub asleep_still : (at : ℕ) (awaited : Awaited) (offer : Offer) → IsAsleep new at awaited offer → IsAsleep old at awaited offer

-- only such as were idle
pub record WakesIdle (old new : Agenda) : Type 0 where
  pub some : WakesSome old new
  pub from : (offer : Offer) → IsAwake new offer → IsAwake old offer ⊎ IsIdle old offer

-- Whether what is brought is what is awaited, or a later version of it. That a shipment may be handed out is not looked at.
abbrev pub brings : Brought → Awaited → Bool
brings came.Delivered Delivery = true
brings (came.Answered to) (Reply number) = to == number
brings came.Written Writing = true
brings (came.Shipped region version) (Version awaited_at awaited) = (region == awaited_at) && nat_le awaited version
brings came.HandedBack (Handout sub) = true
brings what awaited = false

-- only such as slept at the object for what is brought
pub record WakesWaiting (object : ℕ) (brought : Brought) (old new : Agenda) : Type 0 where
  pub some : WakesSome old new
  pub from : (offer : Offer) → IsAwake new offer
      → IsAwake old offer ⊎ ((awaited : Awaited) × (brings brought awaited ≡ true) × IsAsleep old object awaited offer)

-- the first of what it brings, in the order of sleepers
abbrev pub first_brought : Brought → Option Awaited
first_brought came.Nothing = None
first_brought came.Delivered = Some Delivery
first_brought (came.Answered to) = Some (Reply to)
first_brought came.Written = Some Writing
first_brought (came.Shipped region version) = Some (Version region 0)
first_brought came.HandedBack = Some (Handout 0)

-- nobody sleeps at the object for what is brought
abbrev pub NoneWaits : ℕ → Brought → BTreeSet Sleeper → Type 0
NoneWaits object brought asleep =
    (awaited : Awaited) (offer : Offer) → Contains (keys asleep) (sleeper object awaited offer) → brings brought awaited ≡ false

-- one who does; none, where nobody does
abbrev pub IsOneWaiting : ℕ → Brought → BTreeSet Sleeper → Option Sleeper → Type 0
IsOneWaiting object brought asleep None = NoneWaits object brought asleep
IsOneWaiting object brought asleep (Some one) =
    Contains (keys asleep) one × (one.object ≡ object) × (brings brought one.awaited ≡ true)

-- the first of all; none, where there is nobody
abbrev pub IsFirstOf : BTreeSet Offer → Option Offer → Type 0
IsFirstOf all None = (offer : Offer) → Contains (keys all) offer → ⊥
IsFirstOf all (Some first) = Contains (keys all) first × ((other : Offer) → Contains (keys all) other → (other ≡ first) ⊎ IsBefore first other)
