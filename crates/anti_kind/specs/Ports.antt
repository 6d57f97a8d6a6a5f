-- A port: some objects, and what a call on one of them does and answers.
use Rattle.std.specs.Prelude.{◌≡◌, ℕ, ◌+◌, ◌-◌, ◌^◌, ◌<◌, ◌≤◌, max, true, false, List, [], ◌∷◌, ◌++◌, Option, None, Some}
use Rattle.anti_ids.specs.declared.limits.TheConstants.{MOST_UNITS}
use Rattle.anti_ids.specs.Counts.{Rose}
use Rattle.anti_kind.specs.declared.asking.Asking.{Asking}
use Rattle.anti_kind.specs.declared.call.Call.{Call}
use Rattle.anti_kind.specs.declared.entry.Entry.{Entry}
use Rattle.anti_kind.specs.declared.port.Answer.{Answer}
use Rattle.anti_kind.specs.declared.port.Answer.TheVariants.{Made, Refused, NoMemory}
use Rattle.anti_kind.specs.declared.refusal.Refusal.{Refusal}
use Rattle.anti_kind.specs.declared.refusal.Refusal.TheVariants.{NotYet, Full, Spent}
use Rattle.anti_kind.specs.Objects.{Start, ready, need, held, owed, fits, last_stamp, Follows, IsLegal}
use Rattle.anti_kind.specs.Entries.{entry_of}

-- What a caller knows of an object: the history that was seen, the entries of the port's own calls, and a number that tells that a
-- call came to the object.
pub record View : Type 0 where
  pub seen : List Entry
  pub made : List Entry
  pub visits : ℕ

-- the first list is the front of the second
abbrev pub IsFront : List Entry → List Entry → Type 0
IsFront front whole = (rest : List Entry) × (whole ≡ front ++ rest)

-- The entry was made behind the history h.
pub record IsMade (start : Start) (clock : ℕ) (old new : View) (h : List Entry) (e : Entry) : Type 0 where
  pub front : IsFront old.seen h
  pub follows : Follows start h e
  pub stamp : e.stamp ≡ max clock (last_stamp h) + 1
  pub seen : new.seen ≡ h ++ e ∷ []
  pub made : new.made ≡ old.made ++ e ∷ []
  pub visits : Rose old.visits new.visits

-- Nothing was made, and the object was asked.
pub record IsRefused (old new : View) : Type 0 where
  pub front : IsFront old.seen new.seen
  pub made : new.made ≡ old.made
  pub visits : Rose old.visits new.visits

-- the call is ready, and the three numbers pass the units of an object
pub record IsFull (start : Start) (h : List Entry) (c : Call) (held_units owed_units need_units : ℕ) : Type 0 where
  pub is_ready : ready start h c ≡ true
  pub held_is : held_units ≡ held h
  pub owed_is : owed_units ≡ owed start h
  pub need_is : need_units ≡ need start h c
  pub past : MOST_UNITS < held_units + owed_units + need_units

-- the call is ready and fits, and the greater of the two clocks is the last there is
pub record IsSpent (start : Start) (h : List Entry) (q : Asking) (clock : ℕ) : Type 0 where
  pub is_ready : ready start h q.call ≡ true
  pub fits : fits start h q.call ≡ true
  pub clock_is : clock ≡ max q.clock (last_stamp h)
  pub last : clock ≡ 2 ^ 64 - 1

-- What is asked can't be done, and the refusal has its cause in the history.
abbrev pub IsRefusal : Start → List Entry → Asking → Refusal → Type 0
IsRefusal start h q NotYet = ready start h q.call ≡ false
IsRefusal start h q (Full a b n) = IsFull start h q.call a b n
IsRefusal start h q (Spent clock) = IsSpent start h q clock

-- It can: the call is ready and fits, and there is a stamp after the two clocks.
pub record Goes (start : Start) (h : List Entry) (q : Asking) : Type 0 where
  pub is_ready : ready start h q.call ≡ true
  pub fits : fits start h q.call ≡ true
  pub stamp : max q.clock (last_stamp h) < 2 ^ 64 - 1

-- There was no memory for what goes: nothing was made.
pub record IsWanting (start : Start) (q : Asking) (old new : View) : Type 0 where
  pub front : IsFront old.seen new.seen
  pub made : new.made ≡ old.made
  pub visits : old.visits ≤ new.visits
  pub goes : Goes start new.seen q

-- Each answer has its cause in the history that was seen with it.
abbrev pub Answers : Start → Asking → View → View → Answer → Type 0
Answers start q old new (Made place stamp reply) = (h : List Entry) × ((seat : ℕ) × IsMade start q.clock old new h (entry_of q seat place stamp reply))
Answers start q old new (Refused refusal) = IsRefused old new × IsRefusal start new.seen q refusal
Answers start q old new NoMemory = IsWanting start q old new

-- The answer of a port to a call. An object that the port has not answers that the call is not ready. An object's history is legal
-- before the call and after it.
abbrev pub Answered : Option Start → Asking → View → View → Answer → Type 0
Answered None q old new answer = (answer ≡ Refused NotYet) × (new ≡ old)
Answered (Some start) q old new answer = Answers start q old new answer × IsLegal start old.seen × IsLegal start new.seen

-- A port over two others: an object is that of the first which has one of this number.
abbrev pub first_start : Option Start → Option Start → Option Start
first_start (Some start) other = Some start
first_start None other = other

abbrev pub first_view : Option Start → View → View → View
first_view (Some start) first second = first
first_view None first second = second
