-- What the process of an entry carries, where the walk along the trace has come to the entry.
use Rattle.std.proofs.Common.{◌≡◌, ℕ, suc, ◌++◌, true, List, [], ◌∷◌, refl, sym, ap, ◌∙◌, subst}
use Rattle.std.specs.Prelude.{Some, None, option_map, take, drop}
use Rattle.std.specs.Option.{option_map_or}
use Rattle.anti_ids.specs.declared.id.WriteId.{WriteId}
use Rattle.anti_kind.specs.declared.actor.Actor.{Actor}
use Rattle.anti_kind.specs.declared.actor.Actor.TheVariants.{Carrier, Process as Acting, Newborn}
use Rattle.anti_kind.specs.declared.actor.Birth.{Birth}
use Rattle.anti_kind.specs.declared.entry.Entry.{Entry}
use Rattle.anti_app.specs.declared.app.App.{App}
use Rattle.anti_proc.specs.declared.process.Process.{Process}
use Rattle.anti_proc.specs.inner.Standing.{full_of, process_of}
use Rattle.anti_proc.specs.Meaning.{process_after}
use Rattle.anti_proc.specs.Trees.{Ask, ask_of}
use Rattle.anti_trace.specs.Traces.{entries_by}
use Rattle.anti_trace.specs.Legal.{IsLegalTrace}
use Rattle.anti_trace.specs.declared.processes.AtObject.{AtObject}
use Rattle.anti_trace.specs.inner.Living.{LivesOn, Shows}
use Rattle.anti_trace.proofs.Followed.{next_going}
use Rattle.law_causal.specs.Carried.{carried_at}
use Rattle.law_causal.specs.Causal.{is_process}
use Rattle.law_causal.proofs.Lists.{cut_at}
use Rattle.law_causal.proofs.Processes.{asking}
use Rattle.anti_past.specs.inner.Walking.{IsAskedNext}

born_by : (a : Actor) → is_process a ≡ true → (b : Birth) × (a ≡ Acting b)
born_by (Acting b) is = (b, refl)
born_by (Carrier number) is = absurd (cc)
born_by Newborn is = absurd (cc)

module _ (app : App) (trace : List Entry) (j : ℕ) (all : List AtObject) (e : Entry) (n : IsAskedNext app trace j all e) where
  carried_is : carried_at app trace j e ≡ n.ask.carried
  carried_is = ap (λ found. option_map_or (λ (ask : Ask). ask.carried) found []) n.asked

  -- only a process asks for something
  pub by_process : (b : Birth) × (e.actor ≡ Acting b)
  by_process = born_by e.actor (asking app trace n.next.legal j e n.next.there n.ask n.asked).0.process

  module _ (b : Birth) (by : e.actor ≡ Acting b) where
    asked_by : ask_of (process_after app (entries_by (Acting b) (take j trace))) ≡ Some n.ask
    asked_by = ap (λ (a : Actor). ask_of (process_after app (entries_by a (take j trace)))) (sym by) ∙ n.asked

    -- so it was born
    pub was_born : Shows app (take j trace) b None → ⊥
    was_born none =
        let both : None ≡ Some n.ask = sym (ap (λ es. ask_of (process_after app es)) none) ∙ asked_by in
        absurd (cc)

    -- and it asks for the entry, with what it carries
    pub its_ask : (p : Process) → LivesOn app (take j trace) p (entries_by (Acting b) (take j trace)) → ask_of (process_of app p) ≡ Some n.ask
    its_ask p on =
        let legal : IsLegalTrace app (take j trace ++ e ∷ drop (suc j) trace) = subst (IsLegalTrace app) (cut_at trace j e n.next.there) n.next.legal in
        let going : full_of p ≡ None = next_going app n.next.sound (take j trace) e (drop (suc j) trace) legal b by p on in
        ap ask_of (on.tree going) ∙ asked_by

    pub still_asks : (p : Process) → LivesOn app (take j trace) p (entries_by (Acting b) (take j trace)) → ask_of (process_of app p) ≡ None → ⊥
    still_asks p on none = let both : None ≡ Some n.ask = sym none ∙ its_ask p on in absurd (cc)

    pub carries : (p : Process) (ids : List WriteId) → LivesOn app (take j trace) p (entries_by (Acting b) (take j trace))
        → option_map (λ (ask : Ask). ask.carried) (ask_of (process_of app p)) ≡ Some ids → Some ids ≡ Some (carried_at app trace j e)
    carries p ids on its =
        sym its ∙ ap (option_map (λ (ask : Ask). ask.carried)) (its_ask p on) ∙ ap Some (sym carried_is)
