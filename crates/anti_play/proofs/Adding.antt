-- An entry by which no process is born adds no offer.
use Rattle.std.proofs.Common.{◌≡◌, ℕ, ◌<◌, inl, inr, Bool, false, cond, List, [], ◌∷◌, ◌++◌, length, sym, ap, ◌∙◌, subst, append-nil}
use Rattle.std.specs.Prelude.{IsSome, slice_get}
use Rattle.std.proofs.lemmas.List.Elements.{filter-append}
use Rattle.anti_kind.specs.declared.actor.Actor.TheVariants.{Carrier, Process as Acting}
use Rattle.anti_kind.specs.declared.actor.Birth.{Birth}
use Rattle.anti_kind.specs.declared.entry.Entry.{Entry}
use Rattle.anti_app.specs.declared.app.App.{App}
use Rattle.anti_proc.specs.Births.{birth_at, births, is_birth}
use Rattle.anti_trace.specs.Traces.{entries_by, entries_on}
use Rattle.anti_trace.specs.Legal.{IsLegalTrace}
use Rattle.anti_trace.specs.inner.Living.{Gets}
use Rattle.anti_trace.proofs.AreBorn.{no_birth}
use Rattle.anti_trace.proofs.Living.{decide}
use Rattle.anti_trace.proofs.OfLegal.{unborn_of_legal}
use Rattle.anti_agenda.specs.declared.offer.Offer.{Offer}
use Rattle.anti_agenda.specs.declared.offer.Offer.TheVariants.{Go, Take, Pull, Ship, Again}
use Rattle.anti_play.specs.inner.Attending.{IsOffer}

-- ---- offers of the trace behind an entry

module _ (app : App) (trace after : List Entry) (e : Entry) (gets : Gets app trace after e) (off : is_birth e ≡ false) where
  births_same : (o : ℕ) → births (entries_on o after) ≡ births (entries_on o trace)
  births_same o =
      elim (decide e.object o) as (λ _. births (entries_on o after) ≡ births (entries_on o trace)) [
        | inl here ↦ subst (λ (k : ℕ). births (entries_on k after) ≡ births (entries_on k trace)) here
            (ap (λ (h : List Entry). births h) gets.grows.here
            ∙ filter-append is_birth (entries_on e.object trace) (e ∷ [])
            ∙ ap (λ (b : Bool). births (entries_on e.object trace) ++ cond b (e ∷ []) []) off
            ∙ append-nil (births (entries_on e.object trace)))
        | inr other ↦ ap (λ (h : List Entry). births h) (gets.grows.others o other)
      ]

  -- each is one of the trace before
  pub adds_none : (offer : Offer) → IsOffer app after offer → IsOffer app trace offer
  adds_none (Go o at) is = (is.0, subst (λ (bs : List Entry). IsSome (slice_get bs at)) (births_same o) is.1)
  adds_none (Take service) is = is
  adds_none (Pull sub) is = is
  adds_none (Ship store replica) is = is
  adds_none (Again store replica) is = is

-- ---- entries by which no process is born

-- those of the carrier
pub carried_no_birth : (e : Entry) (number : ℕ) → e.actor ≡ Carrier number → is_birth e ≡ false
carried_no_birth e number at = no_birth e (λ is. (let both : Carrier number ≡ Acting (birth_at e) = sym at ∙ is in absurd (cc)))

-- and those of a process that was born before
pub went_no_birth : (app : App) (trace : List Entry) → IsLegalTrace app trace → (e : Entry) (b : Birth) → e.actor ≡ Acting b → (entries_by (Acting b) trace ≡ [] → ⊥)
    → length (entries_on e.object trace) < e.place → is_birth e ≡ false
went_no_birth app trace run e b at born above =
    no_birth e (λ is.
    let same : b ≡ birth_at e = let both : Acting b ≡ Acting (birth_at e) = sym at ∙ is in cc in
    born (unborn_of_legal app trace run b (subst (λ (x : Birth). length (entries_on x.object trace) < x.place) (sym same) above)))
