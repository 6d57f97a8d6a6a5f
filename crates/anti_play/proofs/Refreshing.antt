-- What comes again next to a region of a store: its call, or that the region's cache is not behind.
use Rattle.std.proofs.Common.{◌≡◌, ℕ, false, List, refl, sym, ap, ◌∙◌, subst}
use Rattle.std.specs.Prelude.{IsTrue, Option, None, Some, Ok, option_and_then, option_map}
use Rattle.anti_kind.specs.declared.awaited.Awaited.TheVariants.{Version}
use Rattle.anti_kind.specs.declared.call.Call.TheVariants as calls
use Rattle.anti_kind.specs.declared.entry.Entry.{Entry}
use Rattle.anti_kind.specs.Caches.{stale}
use Rattle.anti_kind.specs.Objects.{Start}
use Rattle.anti_kind.specs.Records.{Record}
use Rattle.anti_app.specs.declared.app.App.{App}
use Rattle.anti_app.specs.Sound.{is_sound}
use Rattle.anti_object.specs.declared.object.Object.{Object}
use Rattle.anti_object.specs.Standing.{object_start}
use Rattle.anti_trace.specs.Traces.{entries_on}
use Rattle.anti_agenda.specs.Agendas.{IsAwake, IsPutToSleep}
use Rattle.anti_agenda.specs.declared.agenda.Agenda.{Agenda}
use Rattle.anti_agenda.specs.declared.offer.Offer.{Offer}
use Rattle.anti_agenda.specs.declared.offer.Offer.TheVariants.{Again}
use Rattle.anti_play.specs.declared.world.World.{World}
use Rattle.anti_play.specs.Schedule.{carrying, made_at}
use Rattle.anti_play.specs.inner.Attending.{Attends, OfferWaits, Turned, cache_at, entry_by_offer, with_entry}
use Rattle.anti_play.specs.inner.Finishing.{next_again}
use Rattle.anti_play.specs.inner.Standing.{IsObject, WorldStands}
use Rattle.anti_play.proofs.Attempting.{attends_none}
use Rattle.anti_play.proofs.Chose.{chose_none}
use Rattle.anti_play.proofs.Minding.{attends_sleep, waits_none}

module _ (app : App) (sound : IsTrue (is_sound app)) (w : World) (trace : List Entry) (s : WorldStands app w trace) (offer : Offer) (store replica region : ℕ)
    (is : offer ≡ Again store replica) (to : cache_at app store replica ≡ Some region) (r : Record Object) (here : IsObject app store r (entries_on store trace)) where
  -- what the store is told to come again
  abbrev told : Option ℕ
  told = stale (object_start r.machine) r.history region

  -- what is made where this version comes again, or none
  abbrev made_of : Option ℕ → Option Entry
  made_of version = option_and_then (made_at app trace) (option_map (λ v. carrying trace store (calls.Again region v 1)) version)

  makes : (version : Option ℕ) → version ≡ told → entry_by_offer app trace offer ≡ made_of version
  makes version same =
      ap (entry_by_offer app trace) is ∙ ap (λ (g : Option ℕ). option_and_then (made_at app trace) (option_and_then (next_again app trace store) g)) to
      ∙ ap (λ (start : Option Start). made_of (option_and_then (λ x. stale x (entries_on store trace) region) start)) here.start
      ∙ ap (λ (h : List Entry). made_of (stale (object_start r.machine) h region)) (sym here.history)
      ∙ ap made_of (sym same)

  -- the cache is not behind
  module _ (none : None ≡ told) where
    cache_waits : OfferWaits app trace store (Version region 0) offer
    cache_waits =
        subst (OfferWaits app trace store (Version region 0)) (sym is)
        (record {
          at = refl;
          region = region;
          to = to;
          awaits = refl;
          start = object_start r.machine;
          there = here.start;
          none = ap (λ (h : List Entry). stale (object_start r.machine) h region) (sym here.history) ∙ sym none;
        })

    none_made : entry_by_offer app trace offer ≡ None
    none_made = waits_none app sound trace s.run store (Version region 0) offer cache_waits

    pub cache_turned : Turned app trace (entry_by_offer app trace offer) (Ok false) w
    cache_turned = chose_none app w trace (entry_by_offer app trace offer) none_made s

    pub cache_attends : (old new : Agenda) → Attends app trace old → IsAwake old offer → IsPutToSleep offer store (Version region 0) old new
        → Attends app (with_entry (entry_by_offer app trace offer) trace) new
    cache_attends old new a was put =
        attends_none app trace (entry_by_offer app trace offer) new none_made (attends_sleep app trace offer old new a was store (Version region 0) put cache_waits)

  -- or this comes again
  pub comes_again : (version : ℕ) → Some version ≡ told → entry_by_offer app trace offer ≡ made_at app trace (carrying trace store (calls.Again region version 1))
  comes_again version same = makes (Some version) same
