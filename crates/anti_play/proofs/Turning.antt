-- The first offer that is awake makes what is made first; where none is awake nothing is left to make.
use Rattle.std.proofs.Common.{◌≡◌, ◌⊎◌, inl, inr, List, Bool, true, false, sym, ◌∙◌, subst}
use Rattle.std.specs.Prelude.{IsTrue, Option, None, Some, Ok}
use Rattle.std.proofs.lemmas.List.Elements.{All-contains}
use Rattle.anti_kind.specs.declared.entry.Entry.{Entry}
use Rattle.anti_app.specs.declared.app.App.{App}
use Rattle.anti_app.specs.Sound.{is_sound}
use Rattle.anti_trace.specs.Legal.{IsLegalTrace}
use Rattle.anti_agenda.specs.Agendas.{IsAwake, IsBefore, IsFirst}
use Rattle.anti_agenda.specs.declared.agenda.Agenda.{Agenda}
use Rattle.anti_agenda.specs.declared.offer.Offer.{Offer}
use Rattle.anti_play.specs.declared.world.World.{World}
use Rattle.anti_play.specs.Schedule.{first_made}
use Rattle.anti_play.specs.inner.Attending.{Attends, IsAttended, IsOffer, entry_by_offer, with_entry}
use Rattle.anti_play.specs.inner.Standing.{Chose, WorldStands}
use Rattle.anti_play.proofs.Attempting.{attends_none}
use Rattle.anti_play.proofs.FirstAwake.{first_awake, none_awake}
use Rattle.anti_play.proofs.Minding.{rest_none}
use Rattle.anti_play.proofs.Offers.{all_are, all_offers, ascending, first_offered, offer_in, one_way}
use Rattle.anti_play.proofs.Chose.{chose_none}
use Rattle.anti_play.proofs.Reached.{Reached, one_trace, reached_first, reached_more}
use Rattle.anti_play.proofs.Tried.{MadeOne, chose_false, chose_of, chose_true}

-- the world stands for the trace, and the agenda attends to it
pub record StillStands (app : App) (w : World) (agenda : Agenda) (trace : List Entry) : Type 0 where
  pub stands : WorldStands app w trace
  pub attends : Attends app trace agenda

pub is_attended : (app : App) (w : World) (agenda : Agenda) (trace : List Entry) → StillStands app w agenda trace → IsAttended app w agenda
is_attended app w agenda trace still = record { trace = trace; stands = still.stands; attends = still.attends }

module _ (app : App) (sound : IsTrue (is_sound app)) (trace : List Entry) (run : IsLegalTrace app trace) (agenda : Agenda) (attends : Attends app trace agenda) where
  -- an offer of the trace makes no entry, or it is awake
  rests_or_wakes : (offer : Offer) → IsOffer app trace offer → (entry_by_offer app trace offer ≡ None) ⊎ IsAwake agenda offer
  rests_or_wakes offer is = elim (attends.each offer is) [
    | inl awake ↦ inr awake
    | inr rest ↦ inl (rest_none app sound trace run agenda offer rest)
  ]

  module _ (first : Offer) (is_first : IsFirst agenda (Some first)) where
    first_made_is : (e : Entry) → entry_by_offer app trace first ≡ Some e → first_made app trace ≡ Some e
    first_made_is e is =
        sym (first_offered app trace sound run)
        ∙ first_awake (entry_by_offer app trace) IsBefore one_way (all_offers app trace) (ascending app trace) first
        (offer_in app trace first (attends.awake first is_first.0))
        (λ other among. elim (rests_or_wakes other (All-contains (IsOffer app trace) (all_offers app trace) other (all_are app trace) among)) [
          | inl none ↦ inl none
          | inr awake ↦ inr (is_first.1 other awake)
        ]) e is

  none_made_is : IsFirst agenda None → first_made app trace ≡ None
  none_made_is none =
      sym (first_offered app trace sound run)
      ∙ none_awake (entry_by_offer app trace) (all_offers app trace)
      (λ other among. elim (rests_or_wakes other (All-contains (IsOffer app trace) (all_offers app trace) other (all_are app trace) among)) [
        | inl none ↦ none
        | inr awake ↦ absurd (none other awake)
      ])

-- ---- what came of an offer

-- the world stands for the trace with what was made, if anything was
stands_with : (app : App) (trace : List Entry) (o : Option Entry) (found : Bool) (w : World) → Chose app trace o (Ok found) w → WorldStands app w (with_entry o trace)
stands_with app trace None found w chose = chose.1
stands_with app trace (Some e) found w chose = chose.1

-- it made an entry: so that is the first
module _ (app : App) (sound : IsTrue (is_sound app)) (w n : World) (trace : List Entry) (agenda : Agenda) (still : StillStands app w agenda trace) (first : Offer) (is_first : IsFirst agenda (Some first))
    (came : Chose app trace (entry_by_offer app trace first) (Ok true) n) where
  made_first : entry_by_offer app trace first ≡ first_made app trace
  made_first =
      let made : MadeOne app trace (entry_by_offer app trace first) n = chose_true app trace (entry_by_offer app trace first) n came in
      made.is ∙ sym (first_made_is app sound trace still.stands.run agenda still.attends first is_first made.entry made.is)

  pub turned_first : Chose app trace (first_made app trace) (Ok true) n
  turned_first = chose_of app trace (entry_by_offer app trace first) (first_made app trace) (Ok true) n made_first came

  pub attends_first : (later : Agenda) → Attends app (with_entry (entry_by_offer app trace first) trace) later → Attends app (with_entry (first_made app trace) trace) later
  attends_first later attends = subst (λ (o : Option Entry). Attends app (with_entry o trace) later) made_first attends

-- it made none
pub none_then : (app : App) (w : World) (trace : List Entry) (o : Option Entry) (agenda : Agenda) → Chose app trace o (Ok false) w → Attends app (with_entry o trace) agenda → StillStands app w agenda trace
none_then app w trace o agenda came attends =
    let none : (o ≡ None) × WorldStands app w trace = chose_false app trace o w came in
    record { stands = none.1; attends = subst (λ (p : Option Entry). Attends app (with_entry p trace) agenda) none.0 attends }

-- none is awake
module _ (app : App) (sound : IsTrue (is_sound app)) (w : World) (trace : List Entry) (agenda : Agenda) (still : StillStands app w agenda trace) (none : IsFirst agenda None) where
  pub turned_none : Chose app trace (first_made app trace) (Ok false) w
  turned_none = chose_none app w trace (first_made app trace) (none_made_is app sound trace still.stands.run agenda still.attends none) still.stands

  pub attends_still : Attends app (with_entry (first_made app trace) trace) agenda
  attends_still = attends_none app trace (first_made app trace) agenda (none_made_is app sound trace still.stands.run agenda still.attends none) still.attends

-- ---- a world that finishes

-- how far it has come, with an agenda that attends to where it is
pub record IsUnderWay (app : App) (trace : List Entry) (w : World) (agenda : Agenda) : Type 0 where
  pub reached : Reached app trace w
  pub attends : Attends app reached.after agenda

pub first_under_way : (app : App) (trace : List Entry) (w : World) (agenda : Agenda) → WorldStands app w trace → ((now : List Entry) → WorldStands app w now → Attends app now agenda)
    → IsUnderWay app trace w agenda
first_under_way app trace w agenda s attends = let r : Reached app trace w = reached_first app trace w s in record { reached = r; attends = attends r.after r.stands }

module _ (app : App) (sound : IsTrue (is_sound app)) (trace : List Entry) (w : World) (agenda : Agenda) (way : IsUnderWay app trace w agenda) where
  abbrev now : List Entry
  now = way.reached.after

  pub attended_now : IsAttended app w agenda
  attended_now = record { trace = now; stands = way.reached.stands; attends = way.attends }

  pub more_under_way : (n : World) (later : Agenda) → Chose app now (first_made app now) (Ok true) n → Attends app (with_entry (first_made app now) now) later → IsUnderWay app trace n later
  more_under_way n later came attends =
      let r : Reached app trace n = reached_more app sound trace w way.reached n came in
      record {
        reached = r;
        attends = subst (λ (t : List Entry). Attends app t later)
            (one_trace app n (with_entry (first_made app now) now) r.after (stands_with app now (first_made app now) true n came) r.stands) attends;
      }
