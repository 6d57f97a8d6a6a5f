-- A walk that has come to the entry at a place of a legal trace.
use Rattle.std.proofs.Common.{◌≡◌, ℕ, true, false, nat_eq, List, take, refl, sym, ap, ◌∙◌, inl, inr}
use Rattle.std.proofs.lemmas.Bool.{and_from, eq-eqb}
use Rattle.anti_kind.specs.declared.actor.Actor.{Actor}
use Rattle.anti_kind.specs.declared.call.Call.{Call}
use Rattle.anti_kind.specs.declared.call.Call.TheVariants as calls
use Rattle.anti_kind.specs.declared.entry.Entry.{Entry}
use Rattle.anti_app.specs.declared.app.App.{App}
use Rattle.anti_proc.specs.Births.{is_birth, is_started_by}
use Rattle.anti_trace.specs.Legal.{IsLegalTrace}
use Rattle.anti_trace.specs.declared.processes.AtObject.{AtObject}
use Rattle.anti_trace.specs.inner.Living.{AreOfSome, AreProcessesOf}
use Rattle.law_causal.specs.Causal.{is_process}
use Rattle.law_causal.specs.Words.{hands_all, reads}
use Rattle.law_causal.proofs.Processes.{IsAsked, IsBorn, hands_asked, of_process}
use Rattle.anti_past.specs.inner.Walking.{IsAskedNext, IsNextAt}
use Rattle.anti_past.proofs.Fronts.{legal_before}

-- the processes are those of a trace
pub of_front : (app : App) (trace : List Entry) → IsLegalTrace app trace → (j : ℕ) (all : List AtObject)
    → AreProcessesOf app all (take j trace) → AreOfSome all
of_front app trace legal j all are = record { app = app; trace = take j trace; legal = legal_before app trace j legal; are = are }

module _ (app : App) (trace : List Entry) (j : ℕ) (all : List AtObject) (e : Entry) (next : IsNextAt app trace j all e) where
  asked_next : IsAsked app trace j e → IsAskedNext app trace j all e
  asked_next a = record { next = next; ask = a.ask; asked = a.asked }

  -- An entry of a process that is not its birth is what the process asks for.
  pub no_birth_asked : (is_process e.actor ≡ true) × (is_birth e ≡ false) → IsAskedNext app trace j all e
  no_birth_asked its =
      elim (of_process app trace next.legal j e next.there its.0) [
        | inl born ↦ absurd (let both : true ≡ false = sym (is_first born) ∙ its.1 in cc)
        | inr asked ↦ asked_next asked
      ]
    where
      is_first : IsBorn trace j e → is_birth e ≡ true
      is_first born =
          ap (λ (a : Actor). is_started_by a e) born.named
          ∙ and_from (nat_eq e.object e.object) (nat_eq e.place e.place) (eq-eqb e.object e.object refl) (eq-eqb e.place e.place refl)

  -- So is an entry at which all is to be carried.
  pub checked_asked : hands_all e.call ≡ true → IsAskedNext app trace j all e
  checked_asked on = asked_next (hands_asked app trace next.legal j e next.there on)

-- Of these are the reads.
pub read_hands : (call : Call) → reads call ≡ true → hands_all call ≡ true
read_hands (calls.Read region key) is = refl
read_hands (calls.Scan region prefix) is = refl
read_hands (calls.Poll region key) is = refl
read_hands call is = absurd (cc)
