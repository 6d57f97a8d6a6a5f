-- What an agenda names, and what each call makes of it.
use Rattle.std.specs.Prelude.{◌≡◌, ℕ, ◌<◌, ◌⊎◌, ◌↔◌, true, false, length, Contains, Option, None, Some}
use Rattle.std.specs.BTreeSet.{keys}
use Rattle.anti_kind.specs.declared.awaited.Awaited.{Awaited}
use Rattle.anti_kind.specs.declared.awaited.Brought.{Brought}
use Rattle.anti_kind.specs.Waiting.{reaches}
use Rattle.anti_agenda.specs.declared.agenda.Agenda.{Agenda}
use Rattle.anti_agenda.specs.declared.offer.Offer.{Offer}
use Rattle.anti_agenda.specs.declared.offer.Offer.TheVariants.{Go, Take, Pull, Ship, Again}
use Rattle.anti_agenda.specs.declared.offer.Sleeper.{Sleeper}

-- ---- who is named

abbrev pub IsAwake : Agenda → Offer → Type 0
IsAwake agenda offer = Contains (keys agenda.awake) offer

abbrev pub sleeper : ℕ → Awaited → Offer → Sleeper
sleeper object awaited offer = record { object = object; awaited = awaited; offer = offer }

abbrev pub IsAsleep : Agenda → ℕ → Awaited → Offer → Type 0
IsAsleep agenda object awaited offer = Contains (keys agenda.asleep) (sleeper object awaited offer)

abbrev pub IsIdle : Agenda → Offer → Type 0
IsIdle agenda offer = Contains agenda.idle.items offer

-- all stay who they are, in the order in which they stand
pub record IsUnchanged (old new : Agenda) : Type 0 where
  pub awake : keys new.awake ≡ keys old.awake
  pub asleep : keys new.asleep ≡ keys old.asleep
  pub idle : new.idle.items ≡ old.idle.items

-- nobody is
pub record IsEmpty (agenda : Agenda) : Type 0 where
  pub awake : (offer : Offer) → IsAwake agenda offer → ⊥
  pub asleep : (object : ℕ) (awaited : Awaited) (offer : Offer) → IsAsleep agenda object awaited offer → ⊥
  pub idle : (offer : Offer) → IsIdle agenda offer → ⊥

-- ---- in which order offers are tried

-- by their first numbers, and where these are the same by their second
abbrev pub IsBelow : ℕ → ℕ → ℕ → ℕ → Type 0
IsBelow a b x y = (a < x) ⊎ ((a ≡ x) × (b < y))

abbrev pub IsBefore : Offer → Offer → Type 0
IsBefore (Go a b) (Go x y) = IsBelow a b x y
IsBefore (Go a b) offer = Unit {0}
IsBefore (Take a) (Go x y) = ⊥
IsBefore (Take a) (Take x) = a < x
IsBefore (Take a) offer = Unit {0}
IsBefore (Pull a) (Pull x) = a < x
IsBefore (Pull a) (Ship x y) = Unit {0}
IsBefore (Pull a) (Again x y) = Unit {0}
IsBefore (Pull a) offer = ⊥
IsBefore (Ship a b) (Ship x y) = IsBelow a b x y
IsBefore (Ship a b) (Again x y) = Unit {0}
IsBefore (Ship a b) offer = ⊥
IsBefore (Again a b) (Again x y) = IsBelow a b x y
IsBefore (Again a b) offer = ⊥

-- the first that is awake; none, where nobody is
abbrev pub IsFirst : Agenda → Option Offer → Type 0
IsFirst agenda None = (offer : Offer) → IsAwake agenda offer → ⊥
IsFirst agenda (Some first) = IsAwake agenda first × ((other : Offer) → IsAwake agenda other → (other ≡ first) ⊎ IsBefore first other)

-- ---- what the calls change

-- who is asleep and who is idle stays so
pub record SameRest (old new : Agenda) : Type 0 where
  pub asleep : (object : ℕ) (awaited : Awaited) (offer : Offer) → IsAsleep new object awaited offer ↔ IsAsleep old object awaited offer
  pub idle : (offer : Offer) → IsIdle new offer ↔ IsIdle old offer

-- the offer is awake, with those that were
pub record IsWoken (offer : Offer) (old new : Agenda) : Type 0 where
  pub awake : (other : Offer) → IsAwake new other ↔ ((other ≡ offer) ⊎ IsAwake old other)
  pub rest : SameRest old new

-- The offer is not awake, and all others are that were. So fewer are, if it was.
pub record HasLeft (offer : Offer) (old new : Agenda) : Type 0 where
  pub awake : (other : Offer) → IsAwake new other ↔ (IsAwake old other × (other ≡ offer → ⊥))
  pub fewer : IsAwake old offer → length (keys new.awake) < length (keys old.awake)

pub record IsGone (offer : Offer) (old new : Agenda) : Type 0 where
  pub left : HasLeft offer old new
  pub rest : SameRest old new

pub record IsPutToSleep (offer : Offer) (object : ℕ) (awaited : Awaited) (old new : Agenda) : Type 0 where
  pub left : HasLeft offer old new
  pub asleep : (at : ℕ) (what : Awaited) (other : Offer)
      → IsAsleep new at what other ↔ ((sleeper at what other ≡ sleeper object awaited offer) ⊎ IsAsleep old at what other)
  pub idle : (other : Offer) → IsIdle new other ↔ IsIdle old other

pub record IsIdled (offer : Offer) (old new : Agenda) : Type 0 where
  pub left : HasLeft offer old new
  pub asleep : (object : ℕ) (awaited : Awaited) (other : Offer) → IsAsleep new object awaited other ↔ IsAsleep old object awaited other
  pub idle : (other : Offer) → IsIdle new other ↔ ((other ≡ offer) ⊎ IsIdle old other)

-- Nobody is idle any more, and nobody sleeps at the object for what was brought; they are awake, with those that were. Nobody else is.
pub record IsStirred (object : ℕ) (brought : Brought) (old new : Agenda) : Type 0 where
  pub awake : (offer : Offer) → IsAwake old offer → IsAwake new offer
  pub idle : (offer : Offer) → IsIdle old offer → IsAwake new offer
  pub none_idle : (offer : Offer) → IsIdle new offer → ⊥
  pub asleep : (at : ℕ) (awaited : Awaited) (offer : Offer) → IsAsleep old at awaited offer
      → IsAsleep new at awaited offer ⊎ IsAwake new offer
  pub left : (awaited : Awaited) (offer : Offer) → IsAsleep new object awaited offer → reaches brought awaited ≡ false
  pub still : (at : ℕ) (awaited : Awaited) (offer : Offer) → IsAsleep new at awaited offer → IsAsleep old at awaited offer
  pub from : (offer : Offer) → IsAwake new offer
      → IsAwake old offer
      ⊎ (IsIdle old offer ⊎ ((awaited : Awaited) × (reaches brought awaited ≡ true) × IsAsleep old object awaited offer))
