-- What a call of this crate does: to the objects of its port, and to its caller.
use Rattle.std.specs.Prelude.{◌≡◌, ◌⊎◌, ℕ, ◌≤◌, [], ◌∷◌, ◌++◌, Option, Result, Ok, Err}
use Rattle.anti_kind.specs.declared.asking.Asking.{Asking}
use Rattle.anti_kind.specs.declared.call.Call.{Call}
use Rattle.anti_kind.specs.declared.entry.Entry.{Entry}
use Rattle.anti_kind.specs.declared.port.Port.{Ghosts}
use Rattle.anti_kind.specs.declared.port.Answer.{Answer}
use Rattle.anti_kind.specs.declared.port.Answer.TheVariants as answers
use Rattle.anti_kind.specs.Objects.{Start}
use Rattle.anti_kind.specs.Ports.{View, Answered}
use Rattle.anti_shim.specs.declared.caller.Caller.{Caller}
use Rattle.anti_shim.specs.declared.caller.Made.{Made}
use Rattle.anti_shim.specs.declared.fault.ShimFault.{ShimFault}
use Rattle.anti_shim.specs.declared.fault.ShimFault.TheVariants.{Refused, NoMemory}

-- A port and a caller before a call and after it: what each object starts as, what is seen of each
-- object before and after, and the caller before and after.
pub record Step : Type 0 where
  pub starts : ℕ → Option Start
  pub old : ℕ → View
  pub new : ℕ → View
  pub before : Caller
  pub after : Caller

abbrev pub between : {P Rest : Type 0} → Ghosts P Rest → P → P → Caller → Caller → Step
between port old new before after = record {
  starts = port.start old;
  old = port.view old;
  new = port.view new;
  before = before;
  after = after;
}

-- nothing was asked
pub record IsIdle (step : Step) : Type 0 where
  pub views : (o : ℕ) → step.new o ≡ step.old o
  pub caller : step.after ≡ step.before

-- One call.

-- what a caller asks of an object
abbrev pub asking : Caller → ℕ → Call → Asking
asking who object call =
    record { object = object; actor = who.actor; span = who.span; clock = who.clock; call = call }

-- What a caller gets of a port's answer: what was made, or the fault that a refusal is.
abbrev pub outcome_of : Answer → Result Made ShimFault
outcome_of (answers.Made place stamp reply) =
    Ok (record { place = place; stamp = stamp; reply = reply })
outcome_of (answers.Refused refusal) = Err (Refused refusal)
outcome_of answers.NoMemory = Err NoMemory

-- The caller after a call: the stamp of the entry that was made is its last stamp.
abbrev pub caller_after : Result Made ShimFault → Caller → Caller
caller_after (Ok made) who = record who { clock = made.stamp }
caller_after (Err fault) who = who

-- the port's answer to what was asked of an object, by what is seen of it before and after
abbrev pub IsAnswered : Step → Asking → Answer → Type 0
IsAnswered step q answer =
    Answered (step.starts q.object) q (step.old q.object) (step.new q.object) answer

-- The port was asked this of the object, and nothing else.
pub record IsAsked (step : Step) (object : ℕ) (call : Call) (outcome : Result Made ShimFault)
    : Type 0 where
  pub answer : Answer
  pub answered : IsAnswered step (asking step.before object call) answer
  pub outcome_is : outcome ≡ outcome_of answer
  pub others : (o : ℕ) → (o ≡ object → ⊥) → step.new o ≡ step.old o
  pub caller : step.after ≡ caller_after outcome step.before

-- The port was asked this; or there was no memory to ask.
abbrev pub MayAsk : Step → ℕ → Call → Result Made ShimFault → Type 0
MayAsk step object call outcome =
    IsAsked step object call outcome ⊎ (IsIdle step × (outcome ≡ Err NoMemory))

-- Some calls, at most one on each object.

-- the entry that was added at an object
abbrev pub IsAdded : Step → ℕ → Entry → Type 0
IsAdded step o e = (step.new o).made ≡ (step.old o).made ++ e ∷ []

-- The caller after them: its last stamp is the greatest of what it was and the stamps of the
-- entries that were added.
pub record CallerAfter (step : Step) : Type 0 where
  pub actor : step.after.actor ≡ step.before.actor
  pub span : step.after.span ≡ step.before.span
  pub since : step.before.clock ≤ step.after.clock
  pub stamps : (o : ℕ) (e : Entry) → IsAdded step o e → e.stamp ≤ step.after.clock
  pub reached :
      (step.after.clock ≡ step.before.clock)
      ⊎ ((o : ℕ) × (e : Entry) × IsAdded step o e × (step.after.clock ≡ e.stamp))
