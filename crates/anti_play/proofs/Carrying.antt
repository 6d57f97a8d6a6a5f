-- An offer that is a call of the carrier: what came of the call came of the offer, and what the agenda is behind its entry.
use Rattle.std.proofs.Common.{◌≡◌, ℕ, true, List, refl, sym, ◌∙◌}
use Rattle.std.specs.Prelude.{Bool, IsErr, IsTrue, Some, Result, Ok}
use Rattle.anti_ids.specs.declared.memory.NoMemory.{NoMemory}
use Rattle.anti_kind.specs.declared.asking.Asking.{Asking}
use Rattle.anti_kind.specs.declared.awaited.Brought.{Brought}
use Rattle.anti_kind.specs.declared.call.Call.{Call}
use Rattle.anti_kind.specs.declared.entry.Entry.{Entry}
use Rattle.anti_kind.specs.Waiting.{brought}
use Rattle.anti_app.specs.declared.app.App.{App}
use Rattle.anti_app.specs.Sound.{is_sound}
use Rattle.anti_trace.specs.Legal.{carries}
use Rattle.anti_trace.specs.Traces.{put}
use Rattle.anti_agenda.specs.Agendas.{IsStirred}
use Rattle.anti_agenda.specs.declared.agenda.Agenda.{Agenda}
use Rattle.anti_agenda.specs.declared.offer.Offer.{Offer}
use Rattle.anti_play.specs.declared.world.World.{World}
use Rattle.anti_play.specs.Schedule.{carrying, made_at}
use Rattle.anti_play.specs.inner.Attending.{Attends, Turned, entry_by_offer, with_entry}
use Rattle.anti_play.specs.inner.Finishing.{WentOn}
use Rattle.anti_play.specs.inner.Standing.{Chose, WorldStands}
use Rattle.anti_play.proofs.Adding.{adds_none, carried_no_birth}
use Rattle.anti_play.proofs.Attempting.{attends_made, own_carrier, stirred_by, turned_lost, went_further}
use Rattle.anti_play.proofs.Finished.{carry_further}
use Rattle.anti_play.proofs.Minding.{attends_over}
use Rattle.anti_play.proofs.Stepped.{Stepped, step}
use Rattle.anti_play.proofs.Tried.{MadeOne, chose_of, chose_true}

module _ (app : App) (sound : IsTrue (is_sound app)) (w : World) (trace : List Entry) (s : WorldStands app w trace) (offer : Offer) (object : ℕ) (call : Call)
    (carried : carries call ≡ true) (makes : entry_by_offer app trace offer ≡ made_at app trace (carrying trace object call)) where
  abbrev it : Asking
  it = carrying trace object call

  module _ (e : Entry) (m : made_at app trace it ≡ Some e) where
    st : Stepped app trace it e
    st = step app sound w trace s it (carried, refl) refl e m

    went_on : (n : World) → WorldStands app n (put e trace) → WentOn app trace n
    went_on n after = went_further app trace e n (carry_further app sound trace s.run object call e carried m) after

    over_entry : (old new : Agenda) → Attends app trace old → (what : Brought) → what ≡ brought call → IsStirred object what old new → Attends app (put e trace) new
    over_entry old new a what is_brought stirred =
        attends_over app sound trace (put e trace) e s.run st.run st.gets (own_carrier app trace e st.actor) old new
        (stirred_by e object call what old new st.object st.call is_brought stirred)
        (adds_none app trace (put e trace) e st.gets (carried_no_birth e 0 st.actor)) a

  -- of each try
  pub carried_is : (r : Result Bool NoMemory) (n : World) → Chose app trace (made_at app trace it) r n → Chose app trace (entry_by_offer app trace offer) r n
  carried_is r n came = chose_of app trace (made_at app trace it) (entry_by_offer app trace offer) r n (sym makes) came

  -- it was made
  module _ (n : World) (came : Chose app trace (made_at app trace it) (Ok true) n) where
    made : MadeOne app trace (made_at app trace it) n
    made = chose_true app trace (made_at app trace it) n came

    pub carried_lost : (r : Result Bool NoMemory) → IsErr r → Turned app trace (entry_by_offer app trace offer) r n
    carried_lost r err = turned_lost app trace (entry_by_offer app trace offer) r n err (went_on made.entry made.is n made.stands)

    pub carried_attends : (old new : Agenda) → Attends app trace old → (what : Brought) → what ≡ brought call → IsStirred object what old new
        → Attends app (with_entry (entry_by_offer app trace offer) trace) new
    carried_attends old new a what is_brought stirred =
        attends_made app trace (entry_by_offer app trace offer) made.entry new (makes ∙ made.is) (over_entry made.entry made.is old new a what is_brought stirred)
