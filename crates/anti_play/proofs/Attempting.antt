-- What an offer that was tried leaves: an entry behind which the agenda attends, or none.
use Rattle.std.proofs.Common.{◌≡◌, ℕ, false, List, [], refl, sym, ap, ◌∙◌, subst, append-nil}
use Rattle.std.specs.Prelude.{Bool, IsErr, Option, None, Some, Result, Ok, Err, option_and_then}
use Rattle.anti_ids.specs.declared.memory.NoMemory.{NoMemory}
use Rattle.anti_kind.specs.declared.actor.Actor.TheVariants.{Carrier, Process as Acting}
use Rattle.anti_kind.specs.declared.actor.Birth.{Birth}
use Rattle.anti_kind.specs.declared.awaited.Brought.{Brought}
use Rattle.anti_kind.specs.declared.call.Call.{Call}
use Rattle.anti_kind.specs.declared.entry.Entry.{Entry}
use Rattle.anti_kind.specs.Waiting.{brought}
use Rattle.anti_app.specs.declared.app.App.{App}
use Rattle.anti_trace.specs.Traces.{entries_on, put}
use Rattle.anti_trace.proofs.Followed.{goes_on as histories_go_on}
use Rattle.anti_proc.specs.Births.{birth_at}
use Rattle.anti_agenda.specs.Agendas.{IsStirred}
use Rattle.anti_agenda.specs.declared.agenda.Agenda.{Agenda}
use Rattle.anti_agenda.specs.declared.offer.Offer.TheVariants.{Go}
use Rattle.anti_play.specs.declared.world.World.{World}
use Rattle.anti_play.specs.Schedule.{made_at, next_call}
use Rattle.anti_play.specs.inner.Attending.{Attends, Turned, birth_in, entry_by_offer, with_entry}
use Rattle.anti_play.specs.inner.Finishing.{WentOn}
use Rattle.anti_play.specs.inner.Standing.{Chose, WorldStands}
use Rattle.anti_play.proofs.Finished.{Further}
use Rattle.anti_play.proofs.Tried.{chose_false, chose_lost}

-- ---- the world goes on

pub went_nowhere : (app : App) (trace : List Entry) (w : World) → WorldStands app w trace → WentOn app trace w
went_nowhere app trace w s = record { after = trace; stands = s; goes_on = λ o. ([], sym (append-nil (entries_on o trace))) }

-- by the entry that was made, whatever became of the agenda
pub went_further : (app : App) (trace : List Entry) (e : Entry) (w : World) → Further app trace e → WorldStands app w (put e trace) → WentOn app trace w
went_further app trace e w further s = record { after = put e trace; stands = s; goes_on = histories_go_on app trace (put e trace) e further.gets }

-- There was no memory. Then the world may stand for a trace that goes on.
pub turned_lost : (app : App) (trace : List Entry) (o : Option Entry) (r : Result Bool NoMemory) (w : World) → IsErr r → WentOn app trace w → Turned app trace o r w
turned_lost app trace o (Ok x) w err went = absurd (cc)
turned_lost app trace o (Err x) w err went = went

-- none to make the entry
pub chosen_lost : (app : App) (trace : List Entry) (o : Option Entry) (x : NoMemory) (r : Result Bool NoMemory) (w : World) → IsErr r → Chose app trace o (Err x) w → Turned app trace o r w
chosen_lost app trace o x r w err came = turned_lost app trace o r w err (went_nowhere app trace w (chose_lost app trace o (Err x) w refl came))

-- none for the agenda, behind a try in vain
pub vain_lost : (app : App) (trace : List Entry) (o : Option Entry) (r : Result Bool NoMemory) (w : World) → IsErr r → Chose app trace o (Ok false) w → Turned app trace o r w
vain_lost app trace o r w err came = turned_lost app trace o r w err (went_nowhere app trace w (chose_false app trace o w came).1)

-- ---- the agenda behind what an offer made

pub attends_none : (app : App) (trace : List Entry) (o : Option Entry) (agenda : Agenda) → o ≡ None → Attends app trace agenda → Attends app (with_entry o trace) agenda
attends_none app trace o agenda is a = subst (λ (p : Option Entry). Attends app (with_entry p trace) agenda) (sym is) a

pub attends_made : (app : App) (trace : List Entry) (o : Option Entry) (e : Entry) (agenda : Agenda) → o ≡ Some e → Attends app (put e trace) agenda → Attends app (with_entry o trace) agenda
attends_made app trace o e agenda is a = subst (λ (p : Option Entry). Attends app (with_entry p trace) agenda) (sym is) a

-- what was told to it is what the entry brings
pub stirred_by : (e : Entry) (object : ℕ) (call : Call) (what : Brought) (old new : Agenda) → e.object ≡ object → e.call ≡ call → what ≡ brought call → IsStirred object what old new
    → IsStirred e.object (brought e.call) old new
stirred_by e object call what old new at made is stirred =
    subst (λ (o : ℕ). IsStirred o (brought e.call) old new) (sym at)
    (subst (λ (x : Brought). IsStirred object x old new) (is ∙ ap brought (sym made)) stirred)

-- ---- who made the entry

-- the process of a birth, by its next call
pub own_go : (app : App) (trace : List Entry) (e : Entry) (b : Birth) → e.actor ≡ Acting b → option_and_then (made_at app trace) (next_call app trace b) ≡ Some e
    → (o at : ℕ) (d : Entry) → birth_in trace o at ≡ Some d → e.actor ≡ Acting (birth_at d) → entry_by_offer app trace (Go o at) ≡ Some e
own_go app trace e b by is o at d there same =
    let names : b ≡ birth_at d = let both : Acting b ≡ Acting (birth_at d) = sym by ∙ same in cc in
    ap (λ (x : Option Entry). option_and_then (made_at app trace) (option_and_then (λ y. next_call app trace (birth_at y)) x)) there
    ∙ ap (λ (x : Birth). option_and_then (made_at app trace) (next_call app trace x)) (sym names) ∙ is

-- the carrier, which is no process
pub own_carrier : (app : App) (trace : List Entry) (e : Entry) → e.actor ≡ Carrier 0
    → (o at : ℕ) (d : Entry) → birth_in trace o at ≡ Some d → e.actor ≡ Acting (birth_at d) → entry_by_offer app trace (Go o at) ≡ Some e
own_carrier app trace e by o at d there same = absurd (let both : Carrier 0 ≡ Acting (birth_at d) = sym by ∙ same in cc)
