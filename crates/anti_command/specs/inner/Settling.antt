-- What is made before the first byte is written, and what becomes of it.
use Rattle.std.specs.Prelude.{ℕ, ◌≡◌, ◌⊎◌, Option, None, Some, IfOk, IfErr, IfSome, Err, Result, is_some, false}
use Rattle.anti_ids.specs.List.{Listed}
use Rattle.anti_edge.specs.Outside.{AddsFront, with_bytes}
use Rattle.anti_command.specs.Outcomes.{HasFailed, IsLeftAlone, Seen, after, before}
use Rattle.anti_command.specs.Causes.{HasCause}
use Rattle.anti_command.specs.Commands.{IsDone, plays, reads_source}
use Rattle.anti_command.specs.Faults.{status_of, writes}
use Rattle.anti_command.specs.Lines.{line_of}
use Rattle.anti_command.specs.declared.command.Command.{Command}
use Rattle.anti_command.specs.declared.fault.TopFault.{TopFault}
use Rattle.anti_command.specs.declared.fault.TopFault.TheVariants.{Usage, WriteFault}
use Rattle.anti_command.specs.declared.outcome.Outcome.{Outcome}
use Rattle.anti_command.specs.declared.outcome.RunKept.{RunKept}

-- the run, where one was played, and the text to be written
abbrev pub Prepared : Type 0
Prepared = Option RunKept × Listed ℕ

-- All that is asked was made, up to the first byte to be written, or there is a cause why not.
pub record IsPrepared {S : Type 0} (asked : Option Command) (source : Seen S) (prepared : Result Prepared TopFault) : Type 0 where
  pub done : IfOk prepared (λ p. IsDone asked (before source) p.0 p.1.items)
  pub plays : IfOk prepared (λ p. is_some p.0 ≡ plays asked)
  pub cause : IfErr prepared (HasCause asked (before source) (after source) (HasFailed source) ⊥)
  pub unwritten : IfErr prepared (λ fault. writes (Some fault) ≡ false)
  pub usage : asked ≡ None → prepared ≡ Err Usage
  pub src : reads_source asked ≡ false → IsLeftAlone source

-- all of the text was written, or some front of it
abbrev pub IsWritten : {K : Type 0} → Prepared → Seen K → Outcome → Type 0
IsWritten p sink result =
    ((result.fault ≡ None) × (after sink ≡ with_bytes p.1.items (before sink)))
    ⊎ ((result.fault ≡ Some WriteFault) × (HasFailed sink × AddsFront p.1.items (before sink) (after sink)))

-- nothing was written, for this fault
pub record IsBarred {K : Type 0} (fault : TopFault) (sink : Seen K) (result : Outcome) : Type 0 where
  pub fault_is : result.fault ≡ Some fault
  pub kept : result.kept ≡ None
  pub out : IsLeftAlone sink

-- It was written, or nothing was, and the fault is told.
pub record IsSettled {K E : Type 0} (prepared : Result Prepared TopFault) (sink : Seen K) (lines : Seen E) (result : Outcome) : Type 0 where
  pub status : result.status ≡ status_of result.fault
  pub kept : IfOk prepared (λ p. result.kept ≡ p.0)
  pub written : IfOk prepared (λ p. IsWritten p sink result)
  pub barred : IfErr prepared (λ fault. IsBarred fault sink result)
  pub silent : result.fault ≡ None → IsLeftAlone lines
  pub line : IfSome result.fault (λ fault. AddsFront (line_of fault) (before lines) (after lines))
  pub whole : IfSome result.fault (λ fault. ¬ HasFailed lines → after lines ≡ with_bytes (line_of fault) (before lines))
