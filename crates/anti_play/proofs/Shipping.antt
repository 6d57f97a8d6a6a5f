-- The next shipment of a route: its call, or that nothing is left to be shipped.
use Rattle.std.proofs.Common.{◌≡◌, ℕ, false, List, refl, sym, ap, ◌∙◌, subst}
use Rattle.std.specs.Prelude.{IsTrue, None, Some, Ok, option_and_then}
use Rattle.anti_kind.specs.declared.awaited.Awaited.TheVariants.{Writing}
use Rattle.anti_kind.specs.declared.call.Call.TheVariants as calls
use Rattle.anti_kind.specs.declared.entry.Entry.{Entry}
use Rattle.anti_kind.specs.Shipments.{next_ship}
use Rattle.anti_kind.specs.Records.{Record}
use Rattle.anti_app.specs.declared.app.App.{App}
use Rattle.anti_app.specs.Sound.{is_sound}
use Rattle.anti_object.specs.declared.object.Object.{Object}
use Rattle.anti_object.specs.Standing.{object_start}
use Rattle.anti_trace.specs.Traces.{entries_on}
use Rattle.anti_agenda.specs.Agendas.{IsAwake, IsPutToSleep}
use Rattle.anti_agenda.specs.declared.agenda.Agenda.{Agenda}
use Rattle.anti_agenda.specs.declared.offer.Offer.{Offer}
use Rattle.anti_agenda.specs.declared.offer.Offer.TheVariants.{Ship}
use Rattle.anti_play.specs.declared.world.World.{World}
use Rattle.anti_play.specs.Schedule.{carrying, made_at}
use Rattle.anti_play.specs.inner.Attending.{Attends, OfferWaits, Turned, entry_by_offer, region_at, with_entry}
use Rattle.anti_play.specs.inner.Finishing.{next_shipped}
use Rattle.anti_play.specs.inner.Standing.{IsObject, WorldStands}
use Rattle.anti_play.proofs.Attempting.{attends_none}
use Rattle.anti_play.proofs.Chose.{chose_none}
use Rattle.anti_play.proofs.Minding.{attends_sleep, waits_none}
use Rattle.anti_play.proofs.ShipNext.{shipped_is}

module _ (app : App) (sound : IsTrue (is_sound app)) (w : World) (trace : List Entry) (s : WorldStands app w trace) (offer : Offer) (store replica region : ℕ)
    (is : offer ≡ Ship store replica) (to : region_at app store replica ≡ Some region) where
  makes : entry_by_offer app trace offer ≡ next_shipped app trace store region
  makes = ap (entry_by_offer app trace) is ∙ ap (option_and_then (next_shipped app trace store)) to

  module _ (r : Record Object) (here : IsObject app store r (entries_on store trace)) where
    -- ---- nothing is left to be shipped

    module _ (none : None ≡ next_ship (object_start r.machine) r.history region) where
      route_waits : OfferWaits app trace store Writing offer
      route_waits =
          subst (OfferWaits app trace store Writing) (sym is)
          (record {
            at = refl;
            awaits = refl;
            region = region;
            to = to;
            start = object_start r.machine;
            there = here.start;
            none = ap (λ (h : List Entry). next_ship (object_start r.machine) h region) (sym here.history) ∙ sym none;
          })

      none_made : entry_by_offer app trace offer ≡ None
      none_made = waits_none app sound trace s.run store Writing offer route_waits

      pub route_turned : Turned app trace (entry_by_offer app trace offer) (Ok false) w
      route_turned = chose_none app w trace (entry_by_offer app trace offer) none_made s

      pub route_attends : (old new : Agenda) → Attends app trace old → IsAwake old offer → IsPutToSleep offer store Writing old new
          → Attends app (with_entry (entry_by_offer app trace offer) trace) new
      route_attends old new a was put =
          attends_none app trace (entry_by_offer app trace offer) new none_made (attends_sleep app trace offer old new a was store Writing put route_waits)

    -- this is
    pub ships : (version part : ℕ) → Some (version, part) ≡ next_ship (object_start r.machine) r.history region
        → entry_by_offer app trace offer ≡ made_at app trace (carrying trace store (calls.Ship region version part))
    ships version part next = makes ∙ shipped_is app trace store region r (Some (version, part)) here next
