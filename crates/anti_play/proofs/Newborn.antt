-- A process that is born: behind its birth there is one offer more, its own next call.
use Rattle.std.proofs.Common.{◌≡◌, ℕ, ◌+◌, ◌<◌, ◌≤◌, ◌⊎◌, inl, inr, Bool, true, cond, List, [], ◌∷◌, ◌++◌, length, refl, sym, ap, ◌∙◌, subst, arith}
use Rattle.std.specs.Prelude.{All, IsSome, IsTrue, Option, Some, option_and_then, slice_get}
use Rattle.std.proofs.lemmas.Bool.{cases_lt, eqb-true}
use Rattle.std.proofs.lemmas.List.{length_push}
use Rattle.std.proofs.lemmas.List.Elements.{All-filter, filter-append, filter_passes}
use Rattle.std.proofs.lemmas.Option.{get_or_from_slice_get, slice_get_within}
use Rattle.anti_kind.specs.declared.actor.Actor.TheVariants.{Process as Acting}
use Rattle.anti_kind.specs.declared.actor.Birth.{Birth}
use Rattle.anti_kind.specs.declared.asking.Asking.{Asking}
use Rattle.anti_kind.specs.declared.awaited.Awaited.{Awaited}
use Rattle.anti_kind.specs.declared.awaited.Brought.{Brought}
use Rattle.anti_kind.specs.declared.call.Call.{Call}
use Rattle.anti_kind.specs.declared.entry.Entry.{Entry}
use Rattle.anti_kind.specs.Waiting.{brought}
use Rattle.anti_kind.proofs.Deliveries.{slice_get_left}
use Rattle.anti_app.specs.declared.app.App.{App}
use Rattle.anti_app.specs.Objects.{object_count}
use Rattle.anti_app.specs.Sound.{is_sound}
use Rattle.anti_proc.specs.Births.{birth_at, births, is_birth}
use Rattle.anti_trace.specs.Traces.{entries_on, is_on, put}
use Rattle.anti_trace.specs.Legal.{IsLegalTrace, bears}
use Rattle.anti_trace.specs.inner.Living.{Gets}
use Rattle.anti_trace.proofs.AreBorn.{is_birth_itself}
use Rattle.anti_trace.proofs.InOrder.{placed_on}
use Rattle.anti_trace.proofs.Living.{decide}
use Rattle.anti_agenda.specs.Agendas.{IsStirred, IsWoken}
use Rattle.anti_agenda.specs.declared.agenda.Agenda.{Agenda}
use Rattle.anti_agenda.specs.declared.offer.Offer.{Offer}
use Rattle.anti_agenda.specs.declared.offer.Offer.TheVariants.{Go, Take, Pull, Ship, Again}
use Rattle.anti_play.specs.Schedule.{bearing, made_at}
use Rattle.anti_play.specs.inner.Attending.{Attends, CallWaits, IsOffer, IsRoute, OfferWaits, asked_by_offer, birth_in, entry_by_offer}
use Rattle.anti_play.proofs.Attempting.{stirred_by}
use Rattle.anti_play.proofs.Finished.{Further}
use Rattle.anti_play.proofs.MadeAt.{made_of}
use Rattle.anti_play.proofs.Minding.{attends_birth}
use Rattle.anti_play.proofs.Offers.{born_there, born_within}
use Rattle.anti_play.proofs.Stepped.{Stepped, stepped}

-- ---- the offer that a birth adds

module _ (app : App) (trace after : List Entry) (e : Entry) (run : IsLegalTrace app trace) (gets : Gets app trace after e) (own : e.actor ≡ Acting (birth_at e)) where
  -- its own next call, behind the births of its object before
  abbrev born_before : List Entry
  born_before = births (entries_on e.object trace)

  abbrev pub newborn : Offer
  newborn = Go e.object (length born_before)

  births_are : births (entries_on e.object after) ≡ born_before ++ e ∷ []
  births_are =
      ap (λ (h : List Entry). births h) gets.grows.here ∙ filter-append is_birth (entries_on e.object trace) (e ∷ [])
      ∙ ap (λ (b : Bool). born_before ++ cond b (e ∷ []) []) (is_birth_itself e own)

  one_longer : length (births (entries_on e.object after)) ≡ length born_before + 1
  one_longer = ap length births_are ∙ length_push born_before e

  pub newborn_there : e.object < object_count app → IsOffer app after newborn
  newborn_there known = let more = one_longer in (known, born_there app after e.object (length born_before) (omega (arith, more)))

  -- a birth at its object
  at_object : (at : ℕ) → e.object < object_count app → IsSome (birth_in after e.object at) → (Go e.object at ≡ newborn) ⊎ IsOffer app trace (Go e.object at)
  at_object at known some =
      elim (cases_lt at (length born_before)) as (λ _. (Go e.object at ≡ newborn) ⊎ IsOffer app trace (Go e.object at)) [
        | inl before ↦
            let same : birth_in after e.object at ≡ birth_in trace e.object at =
            ap (λ (bs : List Entry). slice_get bs at) births_are ∙ slice_get_left born_before (e ∷ []) at before in
            inr (known, subst (λ (o : Option Entry). IsSome o) same some)
        | inr behind ↦
            let low : at < length (births (entries_on e.object after)) = born_within app after e.object at some in
            let more = one_longer in
            let last : at ≡ length born_before = omega arith in
            inl (ap (Go e.object) last)
      ]

  -- no other
  pub one_more : (offer : Offer) → IsOffer app after offer → (offer ≡ newborn) ⊎ IsOffer app trace offer
  one_more (Go o at) is =
      elim (decide e.object o) as (λ _. (Go o at ≡ newborn) ⊎ IsOffer app trace (Go o at)) [
        | inl here ↦
            subst (λ (k : ℕ). (Go k at ≡ newborn) ⊎ IsOffer app trace (Go k at)) here
            (at_object at (subst (λ (k : ℕ). k < object_count app) (sym here) is.0) (subst (λ (k : ℕ). IsSome (birth_in after k at)) (sym here) is.1))
        | inr other ↦ inr (is.0, subst (λ (h : List Entry). IsSome (slice_get (births h) at)) (gets.grows.others o other) is.1)
      ]
  one_more (Take service) is = inr is
  one_more (Pull sub) is = inr is
  one_more (Ship store replica) is = inr is
  one_more (Again store replica) is = inr is

  -- The births before have other names, since it stands behind all entries of its object.
  module _ (place : e.place ≡ length (entries_on e.object trace) + 1) where
    placed_within : (o : ℕ) → All (λ x. x.place ≤ length (entries_on o trace)) (births (entries_on o trace))
    placed_within o = All-filter is_birth (λ (x : Entry). x.place ≤ length (entries_on o trace)) (entries_on o trace)
        (λ i d lt. let its = placed_on app trace run o i d lt in omega arith)

    born_here : (o : ℕ) → All (λ x. x.object ≡ o) (births (entries_on o trace))
    born_here o = All-filter is_birth (λ (x : Entry). x.object ≡ o) (entries_on o trace)
        (λ i d lt. eqb-true _ o (filter_passes (is_on o) trace i d lt))

    other_name : (o at : ℕ) (b : Entry) → birth_in trace o at ≡ Some b → birth_at e ≡ birth_at b → ⊥
    other_name o at b there same =
        let bs : List Entry = births (entries_on o trace) in
        let low : at < length bs = slice_get_within bs at b there in
        let here : b.object ≡ o = subst (λ (x : Entry). x.object ≡ o) (get_or_from_slice_get bs at b b there) (born_here o at b low) in
        let within : b.place ≤ length (entries_on o trace) =
        subst (λ (x : Entry). x.place ≤ length (entries_on o trace)) (get_or_from_slice_get bs at b b there) (placed_within o at b low) in
        let object : e.object ≡ b.object = ap (λ (n : Birth). n.object) same in
        let its : e.place ≡ b.place = ap (λ (n : Birth). n.place) same in
        let count : length (entries_on e.object trace) ≡ length (entries_on o trace) = ap (λ (k : ℕ). length (entries_on k trace)) (object ∙ here) in
        omega arith

    pub own_birth : (o at : ℕ) (b : Entry) → birth_in trace o at ≡ Some b → e.actor ≡ Acting (birth_at b) → entry_by_offer app trace (Go o at) ≡ Some e
    own_birth o at b there by = absurd (other_name o at b there (let both : Acting (birth_at e) ≡ Acting (birth_at b) = sym own ∙ by in cc))

-- ---- an offer that asks for a call by which a process is born

-- the entry is that of the call
pub asked_makes : (app : App) (trace : List Entry) (offer : Offer) (q : Asking) → (IsRoute offer → ⊥) → asked_by_offer app trace offer ≡ Some q
    → entry_by_offer app trace offer ≡ made_at app trace q
asked_makes app trace (Go o at) q route is = ap (option_and_then (made_at app trace)) is
asked_makes app trace (Take service) q route is = ap (option_and_then (made_at app trace)) is
asked_makes app trace (Pull sub) q route is = ap (option_and_then (made_at app trace)) is
asked_makes app trace (Ship store replica) q route is = absurd (route tt)
asked_makes app trace (Again store replica) q route is = absurd (route tt)

-- it waits where the call does
pub asked_waits : (app : App) (trace : List Entry) (offer : Offer) (q : Asking) (object : ℕ) (awaited : Awaited) → (IsRoute offer → ⊥)
    → asked_by_offer app trace offer ≡ Some q → CallWaits app trace object awaited q → OfferWaits app trace object awaited offer
asked_waits app trace (Go o at) q object awaited route is w = (q, is, w)
asked_waits app trace (Take service) q object awaited route is w = (q, is, w)
asked_waits app trace (Pull sub) q object awaited route is w = (q, is, w)
asked_waits app trace (Ship store replica) q object awaited route is w = absurd (route tt)
asked_waits app trace (Again store replica) q object awaited route is w = absurd (route tt)

module _ (app : App) (sound : IsTrue (is_sound app)) (trace : List Entry) (run : IsLegalTrace app trace) (object : ℕ) (call : Call) (bearing_is : bears call ≡ true) where
  module _ (e : Entry) (m : made_at app trace (bearing trace object call) ≡ Some e) where
    it : Stepped app trace (bearing trace object call) e
    it = stepped app trace (bearing trace object call) e sound run (bearing_is, refl) refl (made_of app trace (bearing trace object call) e m)

    itself : e.actor ≡ Acting (birth_at e)
    itself = it.actor

    known : e.object < object_count app
    known = let at : e.object ≡ object = it.object in let low : object < object_count app = it.known in omega arith

    behind : e.place ≡ length (entries_on e.object trace) + 1
    behind = it.place ∙ ap (λ (k : ℕ). length (entries_on k trace) + 1) (sym it.object)

    pub birth_further : Further app trace e
    birth_further = record { run = it.run; gets = it.gets; known = known }

    -- The agenda attends to the trace behind it, once it was told what the call brings, and the newborn was woken.
    pub birth_attends : (old between new : Agenda) (what : Brought) → what ≡ brought call → IsStirred object what old between
        → (at : ℕ) → at ≡ length (births (entries_on object trace)) → IsWoken (Go object at) between new → Attends app trace old → Attends app (put e trace) new
    birth_attends old between new what told stirred at count woken a =
        attends_birth app sound trace (put e trace) e run it.run it.gets (own_birth app trace (put e trace) e run it.gets itself behind) old between new
        (stirred_by e object call what old between it.object it.call told stirred)
        (newborn app trace (put e trace) e run it.gets itself) (newborn_there app trace (put e trace) e run it.gets itself known)
        (subst (λ (o : Offer). IsWoken o between new) newborn_is woken) (one_more app trace (put e trace) e run it.gets itself) a
      where
        newborn_is : Go object at ≡ Go e.object (length (births (entries_on e.object trace)))
        newborn_is = ap (Go object) count ∙ ap (λ (o : ℕ). Go o (length (births (entries_on o trace)))) (sym it.object)
