-- What is true of each call, whatever its words ask for: what was done, which fault comes why, and what each leaves behind.
use Rattle.std.specs.Prelude.{ℕ, ◌≡◌, List, Option, None, Some, IfSome, is_some, false}
use Rattle.anti_ids.specs.Counts.{Rose}
use Rattle.anti_edge.specs.Outside.{AddsFront, with_bytes}
use Rattle.anti_command.specs.Causes.{HasCause}
use Rattle.anti_command.specs.Commands.{CanBeDone, IsDoneAnd, keeps_run, reads_source}
use Rattle.anti_command.specs.Faults.{status_of, writes}
use Rattle.anti_command.specs.Lines.{line_of}
use Rattle.anti_command.specs.declared.command.Command.{Command}
use Rattle.anti_command.specs.declared.fault.TopFault.TheVariants.{Usage, WriteFault, NoMemory}
use Rattle.anti_command.specs.declared.outcome.Outcome.{Outcome}

-- A source or a sink, before a call and after it: the bytes that it tells, which are left in it or were written to it, and its count of
-- faults.
pub record Seen (Stream : Type 0) : Type 0 where
  pub tells : Stream → Option (List ℕ)
  pub faults : Stream → ℕ
  pub old : Stream
  pub new : Stream

abbrev pub before : {Stream : Type 0} → Seen Stream → Option (List ℕ)
before seen = seen.tells seen.old

abbrev pub after : {Stream : Type 0} → Seen Stream → Option (List ℕ)
after seen = seen.tells seen.new

-- its count of faults rose in the call
abbrev pub HasFailed : {Stream : Type 0} → Seen Stream → Type 0
HasFailed seen = Rose (seen.faults seen.old) (seen.faults seen.new)

-- the call did nothing to it
abbrev pub IsLeftAlone : {Stream : Type 0} → Seen Stream → Type 0
IsLeftAlone seen = seen.new ≡ seen.old

-- What came of a call, for what was asked.
pub record IsOutcomeOf {S K E : Type 0} (asked : Option Command) (source : Seen S) (sink : Seen K) (lines : Seen E) (result : Outcome) : Type 0 where
  -- With status 0 what is asked was done, and just its text was written.
  pub headline : result.status ≡ 0 → IsDoneAnd asked (before source) result.kept (λ text. after sink ≡ with_bytes text (before sink))
  -- The status is the fault's, and each fault has its cause.
  pub status : result.status ≡ status_of result.fault
  pub cause : IfSome result.fault (HasCause asked (before source) (after source) (HasFailed source) (HasFailed sink))
  pub usage : asked ≡ None → result.fault ≡ Some Usage
  -- What can be done is done, unless a count rose or memory ran out.
  pub complete : CanBeDone asked (before source) → ¬ HasFailed source → ¬ HasFailed sink → IfSome result.fault (λ fault. fault ≡ NoMemory)
  -- A write fault leaves a front of the text. Any other leaves the sink alone.
  pub begun : result.fault ≡ Some WriteFault → IsDoneAnd asked (before source) result.kept (λ text. AddsFront text (before sink) (after sink))
  pub kept : is_some result.kept ≡ keeps_run asked result.fault
  pub out : writes result.fault ≡ false → IsLeftAlone sink
  pub src : reads_source asked ≡ false → IsLeftAlone source
  -- The line of the fault is told.
  pub silent : result.fault ≡ None → IsLeftAlone lines
  pub line : IfSome result.fault (λ fault. AddsFront (line_of fault) (before lines) (after lines))
  pub whole : IfSome result.fault (λ fault. ¬ HasFailed lines → after lines ≡ with_bytes (line_of fault) (before lines))
