-- The process of an offer: which one it is, what it asks for, and what the agenda is behind its entry.
use Rattle.std.proofs.Common.{◌≡◌, ℕ, ◌+◌, ◌<◌, Bool, true, false, List, [], length, refl, sym, ap, ◌∙◌, subst, arith}
use Rattle.std.specs.Prelude.{IsErr, IsSome, IsTrue, Option, None, Some, Result, Ok, option_and_then, slice_get}
use Rattle.anti_ids.specs.declared.memory.NoMemory.{NoMemory}
use Rattle.anti_kind.specs.declared.actor.Actor.TheVariants.{Process as Acting}
use Rattle.anti_kind.specs.declared.actor.Birth.{Birth}
use Rattle.anti_kind.specs.declared.asking.Asking.{Asking}
use Rattle.anti_kind.specs.declared.awaited.Awaited.{Awaited}
use Rattle.anti_kind.specs.declared.awaited.Brought.{Brought}
use Rattle.anti_kind.specs.declared.call.Call.{Call}
use Rattle.anti_kind.specs.declared.entry.Entry.{Entry}
use Rattle.anti_kind.specs.Waiting.{brought}
use Rattle.anti_app.specs.declared.app.App.{App}
use Rattle.anti_app.specs.declared.app.Choice.TheVariants as choices
use Rattle.anti_app.specs.Objects.{object_count}
use Rattle.anti_app.specs.Sound.{is_sound}
use Rattle.anti_trace.specs.Traces.{entries_by, entries_on, put}
use Rattle.anti_trace.specs.inner.Living.{HasEnded, born_at, lists}
use Rattle.anti_proc.specs.Births.{births, is_birth}
use Rattle.anti_proc.specs.Trees.{Make, want_of}
use Rattle.anti_proc.specs.declared.process.Process.{Process}
use Rattle.anti_proc.specs.inner.Standing.{birth_of, full_of, process_of}
use Rattle.anti_agenda.specs.Agendas.{IsAwake, IsGone, IsIdled, IsPutToSleep, IsStirred}
use Rattle.anti_agenda.specs.declared.agenda.Agenda.{Agenda}
use Rattle.anti_agenda.specs.declared.offer.Offer.{Offer}
use Rattle.anti_agenda.specs.declared.offer.Offer.TheVariants.{Go}
use Rattle.anti_play.specs.declared.world.World.{World}
use Rattle.anti_play.specs.Schedule.{asked_by, asking_at, chosen, made_at, next_call}
use Rattle.anti_play.specs.inner.Attending.{Attends, CallWaits, IsOffer, IsPast, OfferWaits, Turned, asked_by_offer, birth_in, entry_by_offer, with_entry}
use Rattle.anti_play.specs.inner.Finishing.{WentOn}
use Rattle.anti_play.specs.inner.Standing.{Chose, WorldStands}
use Rattle.anti_play.proofs.Adding.{adds_none, went_no_birth}
use Rattle.anti_play.proofs.Attempting.{attends_made, attends_none, own_go, stirred_by, turned_lost, went_further}
use Rattle.anti_play.proofs.Chose.{chose_none}
use Rattle.anti_play.proofs.Finished.{chosen_further}
use Rattle.anti_play.proofs.GoFirst.{born_length}
use Rattle.anti_play.proofs.GoOn.{IsFound, goes_asked, on_p}
use Rattle.anti_play.proofs.Minding.{attends_idle, attends_over, attends_rest, attends_sleep, past_none, waits_none}
use Rattle.anti_play.proofs.Offers.{born_within}
use Rattle.anti_play.proofs.Passing.{is_found, its_next, over_past}
use Rattle.anti_play.proofs.Stepped.{Stepped, step}
use Rattle.anti_play.proofs.Tried.{MadeOne, chose_false, chose_of, chose_true}

-- ---- which one it is

-- it stands among those that were born at its object
pub offer_within : (app : App) (w : World) (trace : List Entry) (offer : Offer) (object at : ℕ) → WorldStands app w trace → offer ≡ Go object at → IsOffer app trace offer
    → (object < length (lists w.processes)) × (at < length (born_at (lists w.processes) object))
offer_within app w trace offer object at s is offered =
    let here : (object < object_count app) × IsSome (birth_in trace object at) = subst (IsOffer app trace) is offered in
    let count : length (lists w.processes) ≡ object_count app = s.processes.count in
    let many : length (born_at (lists w.processes) object) ≡ length (births (entries_on object trace)) = born_length app w trace object s in
    (omega (arith, here.0), omega (arith, born_within app trace object at here.1))

-- the process that stands there
pub record Offered (app : App) (w : World) (trace : List Entry) (offer : Offer) (b : Birth) (at : ℕ) (p : Process) : Type 0 where
  pub object : ℕ
  pub is : offer ≡ Go object at
  pub there : slice_get (born_at (lists w.processes) object) at ≡ Some p
  pub found : IsFound w b at p
  pub asks : asked_by_offer app trace (Go object at) ≡ next_call app trace b

pub offered : (app : App) (w : World) (trace : List Entry) (offer : Offer) (object at : ℕ) (p : Process) (b : Birth) → WorldStands app w trace → offer ≡ Go object at
    → slice_get (born_at (lists w.processes) object) at ≡ Some p → b ≡ birth_of p → Offered app w trace offer b at p
offered app w trace offer object at p b s is there named =
    subst (λ (x : Birth). Offered app w trace offer x at p) (sym named)
    (record { object = object; is = is; there = there; found = is_found app w trace s object at p there; asks = its_next app w trace s object at p there })

module _ (app : App) (sound : IsTrue (is_sound app)) (w : World) (trace : List Entry) (s : WorldStands app w trace) (offer : Offer) (b : Birth) (at : ℕ) (p : Process)
    (g : Offered app w trace offer b at p) where
  -- the entry that the process makes
  abbrev gone : Option Entry
  gone = chosen app trace (choices.Go b.object b.place)

  makes : entry_by_offer app trace offer ≡ gone
  makes = ap (entry_by_offer app trace) g.is ∙ ap (option_and_then (made_at app trace)) g.asks

  -- ---- it has ended

  going_past : HasEnded app p → IsPast app trace offer
  going_past over = subst (IsPast app trace) (sym g.is) (over_past app w trace s sound g.object at p g.there over)

  pub over_turned : HasEnded app p → Turned app trace (entry_by_offer app trace offer) (Ok false) w
  over_turned over = chose_none app w trace (entry_by_offer app trace offer) (past_none app sound trace s.run offer (going_past over)) s

  pub over_attends : HasEnded app p → (old new : Agenda) → Attends app trace old → IsGone offer old new → Attends app (with_entry (entry_by_offer app trace offer) trace) new
  over_attends over old new a went =
      let past : IsPast app trace offer = going_past over in
      attends_none app trace (entry_by_offer app trace offer) new (past_none app sound trace s.run offer past) (attends_rest app trace offer old new a went past)

  -- ---- it asks for a call

  module _ (object span : ℕ) (call : Call) (going : full_of p ≡ None) (wants : want_of (process_of app p) ≡ Make object span call) where
    abbrev it : Asking
    it = asking_at trace object (Acting b) span call

    next_is : next_call app trace b ≡ Some it
    next_is = ap (asked_by trace b) (goes_asked app w trace b at p s g.found object span call going wants)

    -- which waits
    going_waits : (awaited : Awaited) → CallWaits app trace object awaited it → OfferWaits app trace object awaited offer
    going_waits awaited waits = subst (OfferWaits app trace object awaited) (sym g.is) (it, g.asks ∙ next_is, waits)

    pub waits_turned : (awaited : Awaited) → CallWaits app trace object awaited it → Turned app trace (entry_by_offer app trace offer) (Ok false) w
    waits_turned awaited waits =
        chose_none app w trace (entry_by_offer app trace offer) (waits_none app sound trace s.run object awaited offer (going_waits awaited waits)) s

    pub waits_attends : (awaited : Awaited) → CallWaits app trace object awaited it → (old new : Agenda) → Attends app trace old → IsAwake old offer
        → IsPutToSleep offer object awaited old new → Attends app (with_entry (entry_by_offer app trace offer) trace) new
    waits_attends awaited waits old new a was put =
        let w : OfferWaits app trace object awaited offer = going_waits awaited waits in
        attends_none app trace (entry_by_offer app trace offer) new (waits_none app sound trace s.run object awaited offer w)
        (attends_sleep app trace offer old new a was object awaited put w)

    -- ---- its entry

    it_makes : gone ≡ made_at app trace it
    it_makes = ap (option_and_then (made_at app trace)) next_is

    module _ (e : Entry) (is : gone ≡ Some e) where
      st : Stepped app trace it e
      st = step app sound w trace s it (goes_asked app w trace b at p s g.found object span call going wants) refl e (sym it_makes ∙ is)

      born_before : entries_by (Acting b) trace ≡ [] → ⊥
      born_before none =
          let on = on_p app w trace b at p s g.found in
          let some = on.entries_are in
          absurd (cc (none, some))

      no_newborn : is_birth e ≡ false
      no_newborn =
          let place : e.place ≡ length (entries_on object trace) + 1 = st.place in
          let object_is : length (entries_on e.object trace) ≡ length (entries_on object trace) = ap (λ (o : ℕ). length (entries_on o trace)) st.object in
          went_no_birth app trace s.run e b st.actor born_before (omega arith)

      went_on : (n : World) → WorldStands app n (put e trace) → WentOn app trace n
      went_on n after = went_further app trace e n (chosen_further app sound trace s.run (choices.Go b.object b.place) e is) after

      over_entry : (old new : Agenda) → Attends app trace old → (what : Brought) → what ≡ brought call → IsStirred object what old new → Attends app (put e trace) new
      over_entry old new a what is_brought stirred =
          attends_over app sound trace (put e trace) e s.run st.run st.gets (own_go app trace e b st.actor is) old new
          (stirred_by e object call what old new st.object st.call is_brought stirred)
          (adds_none app trace (put e trace) e st.gets no_newborn) a

    -- ---- what came of it

    module _ (n : World) where
      -- none was made
      pub vain_attends : Chose app trace gone (Ok false) n → (old new : Agenda) → Attends app trace old → IsAwake old offer → IsIdled offer old new
          → Attends app (with_entry (entry_by_offer app trace offer) trace) new
      vain_attends came old new a was idled =
          let none : entry_by_offer app trace offer ≡ None = makes ∙ (chose_false app trace gone n came).0 in
          attends_none app trace (entry_by_offer app trace offer) new none (attends_idle app trace offer old new a was idled none)

      -- one was
      pub made_lost : Chose app trace gone (Ok true) n → (r : Result Bool NoMemory) → IsErr r → Turned app trace (entry_by_offer app trace offer) r n
      made_lost came r err =
          let m : MadeOne app trace gone n = chose_true app trace gone n came in
          turned_lost app trace (entry_by_offer app trace offer) r n err (went_on m.entry m.is n m.stands)

      pub made_attends : Chose app trace gone (Ok true) n → (old new : Agenda) → Attends app trace old → (what : Brought) → what ≡ brought call → IsStirred object what old new
          → Attends app (with_entry (entry_by_offer app trace offer) trace) new
      made_attends came old new a what is_brought stirred =
          let m : MadeOne app trace gone n = chose_true app trace gone n came in
          attends_made app trace (entry_by_offer app trace offer) m.entry new (makes ∙ m.is) (over_entry m.entry m.is old new a what is_brought stirred)

  -- of each try
  pub going_is : (r : Result Bool NoMemory) (n : World) → Chose app trace gone r n → Chose app trace (entry_by_offer app trace offer) r n
  going_is r n came = chose_of app trace gone (entry_by_offer app trace offer) r n (sym makes) came
