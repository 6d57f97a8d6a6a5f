-- What was prepared and then settled answers what was asked.
use Rattle.std.proofs.Common.{ℕ, ◌≡◌, ◌<◌, inl, inr, ◌&&◌, Bool, true, false, List, length, refl, sym, ap, ◌∙◌, subst, arith}
use Rattle.std.specs.Prelude.{Option, None, Some, IfErr, IfOk, IfSome, Result, Ok, Err, is_some}
use Rattle.anti_ids.specs.declared.limits.TheConstants.{LONGEST_DOCUMENT}
use Rattle.anti_kind.specs.declared.entry.Entry.{Entry}
use Rattle.anti_app.specs.declared.app.App.{App}
use Rattle.anti_app.specs.declared.app.AppFault.{AppFault}
use Rattle.anti_report.specs.Report.{IsPrinted}
use Rattle.anti_text.specs.Record.{text_of}
use Rattle.anti_command.specs.Outcomes.{HasFailed, IsOutcomeOf, Seen, after, before}
use Rattle.anti_command.specs.Causes.{HasCause, IsRefused, OfSource}
use Rattle.anti_command.specs.Commands.{CanBeDone, IsDone, IsFrom, IsMade, TellsApp, keeps_run, plays, reads_source}
use Rattle.anti_command.specs.Faults.{status_of, writes}
use Rattle.anti_command.specs.Rows.{Document, Run, Workers}
use Rattle.anti_command.specs.declared.command.Command.{Command}
use Rattle.anti_command.specs.declared.command.Command.TheVariants as commands
use Rattle.anti_command.specs.declared.fault.TopFault.{TopFault}
use Rattle.anti_command.specs.declared.fault.TopFault.TheVariants.{Usage, ReadFault, WriteFault, TooLong, NotToml, BadApp, BadChoice, NoMemory}
use Rattle.anti_command.specs.declared.outcome.Outcome.{Outcome}
use Rattle.anti_command.specs.declared.outcome.RunKept.{RunKept}
use Rattle.anti_command.specs.inner.Settling.{IsPrepared, IsSettled, IsWritten, Prepared}

-- ---- faults

-- no fault has the status of none
status_some : (fault : TopFault) → status_of (Some fault) ≡ 0 → ⊥
status_some Usage none = absurd (cc)
status_some ReadFault none = absurd (cc)
status_some WriteFault none = absurd (cc)
status_some TooLong none = absurd (cc)
status_some NotToml none = absurd (cc)
status_some (BadApp rule place) none = absurd (cc)
status_some (BadChoice number) none = absurd (cc)
status_some NoMemory none = absurd (cc)

module _ (asked : Option Command) (left rest : Option (List ℕ)) (read wrote : Type 0) where
  -- what came before the first byte was written has its cause still
  cause_then : (fault : TopFault) → HasCause asked left rest read ⊥ fault → HasCause asked left rest read wrote fault
  cause_then Usage cause = cause
  cause_then ReadFault cause = cause
  cause_then WriteFault cause = absurd cause
  cause_then TooLong cause = cause
  cause_then NotToml cause = cause
  cause_then (BadApp rule place) cause = cause
  cause_then (BadChoice number) cause = cause
  cause_then NoMemory cause = cause

-- ---- what can be done

-- what reads a document can be done where it states an application
tells : (asked : Option Command) (left : Option (List ℕ)) → CanBeDone asked left → reads_source asked ≡ true → TellsApp left
tells None left can reads = absurd can
tells (Some commands.Step) left can reads = can
tells (Some commands.Json) left can reads = can
tells (Some commands.Run) left can reads = can
tells (Some commands.Session) left can reads = can
tells (Some commands.Doctor) left can reads = can
tells (Some commands.Place) left can reads = can
tells (Some commands.Review) left can reads = can
tells (Some commands.Counterexample) left can reads = can
tells (Some (commands.Load requests)) left can reads = absurd (cc)

module _ (asked : Option Command) (left rest : Option (List ℕ)) (read : Type 0) (can : CanBeDone asked left) (sound : ¬ read) where
  -- a document that states an application is refused for nothing
  not_refused : (fault : AppFault) → OfSource asked left (IsRefused fault) → ⊥
  not_refused fault of =
      let there : TellsApp left = tells asked left can of.0 in
      let why : IsRefused fault there.bytes = subst (λ (o : Option (List ℕ)). IfSome o (IsRefused fault)) there.told of.1 in
      let both : Ok there.app ≡ Err fault = sym there.states ∙ why.1 in
      absurd (cc)

  not_long : OfSource asked left (λ bytes. LONGEST_DOCUMENT < length bytes) → ⊥
  not_long of =
      let there : TellsApp left = tells asked left can of.0 in
      let long : LONGEST_DOCUMENT < length there.bytes = subst (λ (o : Option (List ℕ)). IfSome o (λ bytes. LONGEST_DOCUMENT < length bytes)) there.told of.1 in
      omega (arith, long, there.short)

  only_memory : (fault : TopFault) → HasCause asked left rest read ⊥ fault → fault ≡ NoMemory
  only_memory Usage cause = absurd (subst (λ (a : Option Command). CanBeDone a left) cause can)
  only_memory ReadFault cause = absurd (sound cause.1)
  only_memory WriteFault cause = absurd cause
  only_memory TooLong cause = absurd (not_long cause)
  only_memory NotToml cause = absurd (not_refused _ cause)
  only_memory (BadApp rule place) cause = absurd (not_refused _ cause)
  only_memory (BadChoice number) cause = absurd (not_refused _ cause)
  only_memory NoMemory cause = refl

-- ---- the answer

module _ {S K E : Type 0} (asked : Option Command) (src : Seen S) (out : Seen K) (err : Seen E) (result : Outcome) where
  barred : (fault : TopFault) → IsPrepared asked src (Err fault) → IsSettled (Err fault) out err result → IsOutcomeOf asked src out err result
  barred fault pre set =
      let is : result.fault ≡ Some fault = set.barred.fault_is in
      let none : writes result.fault ≡ false = ap writes is ∙ pre.unwritten in
      record {
        headline = λ zero. absurd (status_some fault (sym (ap status_of is) ∙ sym set.status ∙ zero));
        status = set.status;
        cause = subst (λ (f : Option TopFault). IfSome f (HasCause asked (before src) (after src) (HasFailed src) (HasFailed out))) (sym is)
            (cause_then asked (before src) (after src) (HasFailed src) (HasFailed out) fault pre.cause);
        usage = λ unasked. let both : Err fault ≡ Err Usage = pre.usage unasked in is ∙ cc;
        complete = λ can read wrote.
            subst (λ (f : Option TopFault). IfSome f (λ fault. fault ≡ NoMemory)) (sym is) (only_memory asked (before src) (after src) (HasFailed src) can read fault pre.cause);
        begun = λ written. (let both : writes (Some WriteFault) ≡ false = sym (ap writes written) ∙ none in absurd (cc));
        kept = ap is_some set.barred.kept ∙ sym (ap (λ (b : Bool). b && plays asked) none);
        out = λ unwritten. set.barred.out;
        src = pre.src;
        silent = set.silent;
        line = set.line;
        whole = set.whole;
      }

  -- what was asked is done, with the run that is kept
  done_is : (p : Prepared) → IsPrepared asked src (Ok p) → IsSettled (Ok p) out err result → IsDone asked (before src) result.kept p.1.items
  done_is p pre set = subst (λ (kept : Option RunKept). IsDone asked (before src) kept p.1.items) (sym set.kept) pre.done

  kept_is : (p : Prepared) → IsPrepared asked src (Ok p) → IsSettled (Ok p) out err result → writes result.fault ≡ true → is_some result.kept ≡ keeps_run asked result.fault
  kept_is p pre set some = ap is_some set.kept ∙ pre.plays ∙ sym (ap (λ (b : Bool). b && plays asked) some)

  never_unasked : (p : Prepared) → IsPrepared asked src (Ok p) → asked ≡ None → result.fault ≡ Some Usage
  never_unasked p pre unasked = (let both : Ok p ≡ Err Usage = pre.usage unasked in absurd (cc))

  written : (p : Prepared) → IsPrepared asked src (Ok p) → IsSettled (Ok p) out err result → IsWritten p out result → IsOutcomeOf asked src out err result
  written p pre set (inl all) =
      let is : result.fault ≡ None = all.0 in
      let some : writes result.fault ≡ true = ap writes is in
      record {
        headline = λ zero. record { text = p.1.items; done = done_is p pre set; so = all.1 };
        status = set.status;
        cause = subst (λ (f : Option TopFault). IfSome f (HasCause asked (before src) (after src) (HasFailed src) (HasFailed out))) (sym is) tt;
        usage = never_unasked p pre;
        complete = λ can read wrote. subst (λ (f : Option TopFault). IfSome f (λ fault. fault ≡ NoMemory)) (sym is) tt;
        begun = λ failed. (let both : None ≡ Some WriteFault = sym is ∙ failed in absurd (cc));
        kept = kept_is p pre set some;
        out = λ unwritten. (let both : true ≡ false = sym some ∙ unwritten in absurd (cc));
        src = pre.src;
        silent = set.silent;
        line = set.line;
        whole = set.whole;
      }
  written p pre set (inr front) =
      let is : result.fault ≡ Some WriteFault = front.0 in
      let some : writes result.fault ≡ true = ap writes is in
      record {
        headline = λ zero. absurd (status_some WriteFault (sym (ap status_of is) ∙ sym set.status ∙ zero));
        status = set.status;
        cause = subst (λ (f : Option TopFault). IfSome f (HasCause asked (before src) (after src) (HasFailed src) (HasFailed out))) (sym is) front.1.0;
        usage = never_unasked p pre;
        complete = λ can read wrote. absurd (wrote front.1.0);
        begun = λ failed. record { text = p.1.items; done = done_is p pre set; so = front.1.1 };
        kept = kept_is p pre set some;
        out = λ unwritten. (let both : true ≡ false = sym some ∙ unwritten in absurd (cc));
        src = pre.src;
        silent = set.silent;
        line = set.line;
        whole = set.whole;
      }

  pub answers : (prepared : Result Prepared TopFault) → IsPrepared asked src prepared → IsSettled prepared out err result → IsOutcomeOf asked src out err result
  answers (Ok p) pre set = written p pre set set.written
  answers (Err fault) pre set = barred fault pre set

pub answers_as : {S K E : Type 0} (a b : Option Command) → a ≡ b → (source : Seen S) (sink : Seen K) (lines : Seen E) (result : Outcome) → IsOutcomeOf a source sink lines result
    → IsOutcomeOf b source sink lines result
answers_as a b same source sink lines result answer = subst (λ (asked : Option Command). IsOutcomeOf asked source sink lines result) same answer

-- ---- a run by workers

some_kept : (Prints : App → List Entry → List ℕ → List ℕ → Type 0) (IsGiven : App → Type 0) (kept : Option RunKept) (text : List ℕ)
    → IsMade (Run Workers Prints) IsGiven kept text → is_some kept ≡ true
some_kept Prints IsGiven None text made = absurd made
some_kept Prints IsGiven (Some run) text made = refl

abbrev AsRecord : App → List Entry → List ℕ → List ℕ → Type 0
AsRecord app = IsPrinted (text_of app) app

module _ {S : Type 0} (source : Seen S) where
  plays_run : (prepared : Result Prepared TopFault) → IfOk prepared (λ p. IsMade (Run Workers AsRecord) (IsFrom Document (before source)) p.0 p.1.items)
      → IfOk prepared (λ p. is_some p.0 ≡ true)
  plays_run (Ok p) made = some_kept AsRecord (IsFrom Document (before source)) p.0 p.1.items made
  plays_run (Err fault) made = tt

  pub prepared_run : (prepared : Result Prepared TopFault) → IfOk prepared (λ p. IsMade (Run Workers AsRecord) (IsFrom Document (before source)) p.0 p.1.items)
      → IfErr prepared (HasCause (Some commands.Run) (before source) (after source) (HasFailed source) ⊥) → IfErr prepared (λ fault. writes (Some fault) ≡ false)
      → IsPrepared (Some commands.Run) source prepared
  prepared_run prepared made cause unwritten = record {
    done = made;
    plays = plays_run prepared made;
    cause = cause;
    unwritten = unwritten;
    usage = λ none. absurd (cc);
    src = λ none. absurd (cc);
  }
