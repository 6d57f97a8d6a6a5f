-- Who is at rest makes no entry, and stays so behind each entry that does not bring what is awaited.
use Rattle.std.proofs.Common.{◌≡◌, ℕ, ◌-◌, ◌⊎◌, inl, inr, true, false, List, [], ◌∷◌, ◌++◌, length, refl, sym, ap, ◌∙◌, subst}
use Rattle.std.specs.Prelude.{IsSome, IsTrue, Option, None, Some, option_and_then, option_map, slice_get}
use Rattle.std.proofs.lemmas.Bool.{cases_lt}
use Rattle.std.proofs.lemmas.Option.{slice_get_within}
use Rattle.std.proofs.lemmas.List.Elements.{filter-append}
use Rattle.anti_kind.specs.declared.actor.Actor.TheVariants.{Process as Acting}
use Rattle.anti_kind.specs.declared.actor.Birth.{Birth}
use Rattle.anti_kind.specs.declared.asking.Asking.{Asking}
use Rattle.anti_kind.specs.declared.awaited.Awaited.{Awaited}
use Rattle.anti_kind.specs.declared.call.Call.TheVariants as calls
use Rattle.anti_kind.specs.declared.entry.Entry.{Entry}
use Rattle.anti_kind.specs.Caches.{stale}
use Rattle.anti_kind.specs.Objects.{Start, IsLegal, last_stamp, ready}
use Rattle.anti_kind.specs.Shipments.{next_ship}
use Rattle.anti_kind.specs.Waiting.{ShowsWhole, brought, reaches, waits}
use Rattle.anti_kind.proofs.Caching.{shows_whole_by_kind}
use Rattle.anti_kind.proofs.Deliveries.{slice_get_left}
use Rattle.anti_kind.proofs.Staleness.{none_stale_goes_on}
use Rattle.anti_kind.proofs.Waiting.{none_left_goes_on, waiting_goes_on, waiting_is_not_ready}
use Rattle.anti_app.specs.declared.app.App.{App}
use Rattle.anti_app.specs.declared.app.ServiceDef.{ServiceDef}
use Rattle.anti_app.specs.declared.app.StoreDef.{StoreDef}
use Rattle.anti_app.specs.Sound.{is_sound}
use Rattle.anti_object.specs.Starts.{inbox_start, start_of, store_start}
use Rattle.anti_object.proofs.Starts.{start_of-inbox, start_of-store}
use Rattle.anti_proc.specs.Births.{birth_at, births, is_birth}
use Rattle.anti_proc.specs.Meaning.{process_after}
use Rattle.anti_proc.specs.Trees.{Want, Make, Over, want_of}
use Rattle.anti_trace.specs.Traces.{entries_by, entries_on}
use Rattle.anti_trace.specs.Legal.{IsLegalTrace}
use Rattle.anti_trace.specs.inner.Living.{Gets, WasFull}
use Rattle.anti_trace.proofs.Followed.{goes_on}
use Rattle.anti_trace.proofs.AllLive.{full_later}
use Rattle.anti_trace.proofs.Living.{decide}
use Rattle.anti_agenda.specs.Agendas.{HasLeft, IsAsleep, IsAwake, IsGone, IsIdle, IsIdled, IsPutToSleep, IsStirred, IsWoken, SameRest}
use Rattle.anti_agenda.specs.declared.offer.Sleeper.{Sleeper}
use Rattle.anti_agenda.specs.declared.agenda.Agenda.{Agenda}
use Rattle.anti_agenda.specs.declared.offer.Offer.{Offer}
use Rattle.anti_agenda.specs.declared.offer.Offer.TheVariants.{Go, Take, Pull, Ship, Again}
use Rattle.anti_play.specs.Schedule.{asked_by, carrying, made_at, next_call}
use Rattle.anti_play.specs.inner.Attending.{Attends, CacheWaits, CallWaits, IsMinded, IsOffer, IsPast, IsRoute, OfferWaits, RouteWaits, asked_by_offer, birth_in, entry_by_offer}
use Rattle.anti_play.specs.inner.Finishing.{next_again, next_shipped, shipped}
use Rattle.anti_play.proofs.FullStays.{full_makes_none}
use Rattle.anti_play.proofs.MadeAt.{unready}
use Rattle.anti_play.proofs.ShipNext.{store_at}

-- ---- who is at rest makes none

module _ (app : App) (sound : IsTrue (is_sound app)) (trace : List Entry) (run : IsLegalTrace app trace) where
  call_none : (object : ℕ) (awaited : Awaited) (q : Asking) → CallWaits app trace object awaited q → made_at app trace q ≡ None
  call_none object awaited q w =
      let there : start_of app q.object ≡ Some w.start = ap (start_of app) w.at ∙ w.there in
      unready app trace q w.start there
      (subst (λ (o : ℕ). ready w.start (entries_on o trace) q.call ≡ false) (sym w.at)
      (waiting_is_not_ready w.start (entries_on object trace) q.call awaited w.call_waits))

  asked_none : (object : ℕ) (awaited : Awaited) (asked : Option Asking) (q : Asking) → asked ≡ Some q → CallWaits app trace object awaited q
      → option_and_then (made_at app trace) asked ≡ None
  asked_none object awaited asked q is w = ap (option_and_then (made_at app trace)) is ∙ call_none object awaited q w

  pub waits_none : (object : ℕ) (awaited : Awaited) (offer : Offer) → OfferWaits app trace object awaited offer → entry_by_offer app trace offer ≡ None
  waits_none object awaited (Go o at) w = asked_none object awaited (asked_by_offer app trace (Go o at)) w.0 w.1 w.2
  waits_none object awaited (Take service) w = asked_none object awaited (asked_by_offer app trace (Take service)) w.0 w.1 w.2
  waits_none object awaited (Pull sub) w = asked_none object awaited (asked_by_offer app trace (Pull sub)) w.0 w.1 w.2
  waits_none object awaited (Ship store replica) w =
      ap (option_and_then (next_shipped app trace store)) w.to
      ∙ ap (λ (s : Option Start). option_and_then (shipped app trace store w.region) (option_and_then (λ start. next_ship start (entries_on store trace) w.region) s)) w.there
      ∙ ap (option_and_then (shipped app trace store w.region)) w.none
  waits_none object awaited (Again store replica) w =
      let call : Option ℕ → Option Entry = λ version. option_and_then (made_at app trace) (option_map (λ v. carrying trace store (calls.Again w.region v 1)) version) in
      ap (λ (g : Option ℕ). option_and_then (made_at app trace) (option_and_then (next_again app trace store) g)) w.to
      ∙ ap (λ (s : Option Start). call (option_and_then (λ start. stale start (entries_on store trace) w.region) s)) w.there
      ∙ ap call w.none

  unfit_none : (asked : Option Asking) → ((q : Asking) → asked ≡ Some q → WasFull app trace q.object q.call) → option_and_then (made_at app trace) asked ≡ None
  unfit_none None none = refl
  unfit_none (Some q) full = full_makes_none app trace run sound q (full q refl)

  pub past_none : (offer : Offer) → IsPast app trace offer → entry_by_offer app trace offer ≡ None
  past_none (Go o at) past = unfit_none (asked_by_offer app trace (Go o at)) past
  past_none (Take service) past = unfit_none (asked_by_offer app trace (Take service)) past
  past_none (Pull sub) past = unfit_none (asked_by_offer app trace (Pull sub)) past
  past_none (Ship store replica) past = absurd past
  past_none (Again store replica) past = absurd past

  pub rest_none : (agenda : Agenda) (offer : Offer)
      → ((object : ℕ) × (awaited : Awaited) × IsAsleep agenda object awaited offer × OfferWaits app trace object awaited offer)
      ⊎ ((IsIdle agenda offer × (entry_by_offer app trace offer ≡ None)) ⊎ IsPast app trace offer)
      → entry_by_offer app trace offer ≡ None
  rest_none agenda offer (inl (object, awaited, asleep, w)) = waits_none object awaited offer w
  rest_none agenda offer (inr (inl idle)) = idle.1
  rest_none agenda offer (inr (inr past)) = past_none offer past

-- ---- behind an entry

-- what a birth asks for next, by what it did
abbrev by_want : Birth → List Entry → Want → Option Asking
by_want b own (Make object span call) = Some (record { object = object; actor = Acting b; span = span; clock = last_stamp own; call = call })
by_want b own (Over end) = None

abbrev next_by : App → Birth → List Entry → Option Asking
next_by app b own = by_want b own (want_of (process_after app own))

next_is : (app : App) (trace : List Entry) (b : Birth) → next_call app trace b ≡ next_by app b (entries_by (Acting b) trace)
next_is app trace b = by_cases (want_of (process_after app (entries_by (Acting b) trace)))
  where
    by_cases : (want : Want) → asked_by trace b want ≡ by_want b (entries_by (Acting b) trace) want
    by_cases (Make object span call) = refl
    by_cases (Over end) = refl

-- it asks for the same, if it did not make the entry
next_same : (app : App) (trace after : List Entry) (b : Birth) → entries_by (Acting b) after ≡ entries_by (Acting b) trace
    → next_call app after b ≡ next_call app trace b
next_same app trace after b same = next_is app after b ∙ ap (next_by app b) same ∙ sym (next_is app trace b)

-- regions of all stores show what is whole there, but where there are caches
shows_whole : (app : App) (o : ℕ) (start : Start) → start_of app o ≡ Some start → ShowsWhole start
shows_whole app o start there =
    elim (cases_lt o (length app.stores.items)) [
      | inl low ↦ of_store (slice_get app.stores.items o) (sym (start_of-store app o low) ∙ there)
      | inr high ↦ of_inbox (slice_get app.services.items (o - length app.stores.items)) (sym (start_of-inbox app o high) ∙ there)
    ]
  where
    of_store : (found : Option StoreDef) → option_map (store_start app o) found ≡ Some start → ShowsWhole start
    of_store None is = absurd (cc)
    of_store (Some s) is = let same : store_start app o s ≡ start = cc in subst ShowsWhole same (shows_whole_by_kind (store_at app o s) refl)

    of_inbox : (found : Option ServiceDef) → option_map (inbox_start app (o - length app.stores.items)) found ≡ Some start → ShowsWhole start
    of_inbox None is = absurd (cc)
    of_inbox (Some s) is = let same : inbox_start app (o - length app.stores.items) s ≡ start = cc in subst ShowsWhole same tt

module _ (app : App) (sound : IsTrue (is_sound app)) (trace after : List Entry) (e : Entry) (run : IsLegalTrace app trace) (next : IsLegalTrace app after) (gets : Gets app trace after e) where
  -- what stays of a history at each other object, and behind what is not brought at the entry's
  over_history : (P : List Entry → Type 0) (o : ℕ) → P (entries_on o trace) → (e.object ≡ o → P (entries_on o trace ++ e ∷ [])) → P (entries_on o after)
  over_history P o was then = elim (decide e.object o) as (λ _. P (entries_on o after)) [
    | inl here ↦ subst P (sym (subst (λ (k : ℕ). entries_on k after ≡ entries_on k trace ++ e ∷ []) here gets.grows.here)) (then here)
    | inr other ↦ subst P (sym (gets.grows.others o other)) was
  ]

  legal_behind : (o : ℕ) (start : Start) → start_of app o ≡ Some start → e.object ≡ o → IsLegal start (entries_on o trace ++ e ∷ [])
  legal_behind o start there here =
      subst (IsLegal start) (subst (λ (k : ℕ). entries_on k after ≡ entries_on k trace ++ e ∷ []) here gets.grows.here) (next.histories o start there)

  call_waits_on : (object : ℕ) (awaited : Awaited) (q : Asking) → (e.object ≡ object → reaches (brought e.call) awaited ≡ false)
      → CallWaits app trace object awaited q → CallWaits app after object awaited q
  call_waits_on object awaited q left w = record {
    at = w.at;
    start = w.start;
    there = w.there;
    call_waits =
        over_history (λ (h : List Entry). waits w.start h q.call awaited ≡ true) object w.call_waits
        (λ here.
        waiting_goes_on w.start (entries_on object trace) e q.call awaited (shows_whole app object w.start w.there) (legal_behind object w.start w.there here) w.call_waits (left here));
  }

  route_waits_on : (object : ℕ) (awaited : Awaited) (store replica : ℕ) → (e.object ≡ object → reaches (brought e.call) awaited ≡ false)
      → RouteWaits app trace object awaited store replica → RouteWaits app after object awaited store replica
  route_waits_on object awaited store replica left w = record {
    at = w.at;
    awaits = w.awaits;
    region = w.region;
    to = w.to;
    start = w.start;
    there = w.there;
    none =
        over_history (λ (h : List Entry). next_ship w.start h w.region ≡ None) store w.none
        (λ here.
        none_left_goes_on w.start (entries_on store trace) e w.region (legal_behind store w.start w.there here) w.none
        (subst (λ (a : Awaited). reaches (brought e.call) a ≡ false) w.awaits (left (here ∙ w.at))));
  }

  cache_waits_on : (object : ℕ) (awaited : Awaited) (store replica : ℕ) → (e.object ≡ object → reaches (brought e.call) awaited ≡ false)
      → CacheWaits app trace object awaited store replica → CacheWaits app after object awaited store replica
  cache_waits_on object awaited store replica left w = record {
    at = w.at;
    region = w.region;
    to = w.to;
    awaits = w.awaits;
    start = w.start;
    there = w.there;
    none =
        over_history (λ (h : List Entry). stale w.start h w.region ≡ None) store w.none
        (λ here.
        none_stale_goes_on w.start (entries_on store trace) e w.region (legal_behind store w.start w.there here) w.none
        (subst (λ (a : Awaited). reaches (brought e.call) a ≡ false) w.awaits (left (here ∙ w.at))));
  }

  unfit_stays : (q : Asking) → WasFull app trace q.object q.call → WasFull app after q.object q.call
  unfit_stays q was = full_later app trace after (goes_on app trace after e gets) q.object q.call was

  -- a birth stays where it stands
  birth_stays : (o at : ℕ) (b : Entry) → birth_in trace o at ≡ Some b → birth_in after o at ≡ Some b
  birth_stays o at b is =
      let goes = goes_on app trace after e gets o in
      ap (λ (h : List Entry). slice_get (births h) at) goes.1
      ∙ ap (λ (bs : List Entry). slice_get bs at) (filter-append is_birth (entries_on o trace) goes.0)
      ∙ slice_get_left (births (entries_on o trace)) (births goes.0) at (slice_get_within (births (entries_on o trace)) at b is)
      ∙ is

  -- The process of an offer made the entry if it has its name: so the offer makes it.
  abbrev pub Own : Type 0
  Own = (o at : ℕ) (b : Entry) → birth_in trace o at ≡ Some b → e.actor ≡ Acting (birth_at b) → entry_by_offer app trace (Go o at) ≡ Some e

  module _ (own : Own) where
    -- it asks for what it asked for, if it makes no entry
    asks_same : (offer : Offer) → IsOffer app trace offer → (IsRoute offer → ⊥) → entry_by_offer app trace offer ≡ None
        → asked_by_offer app after offer ≡ asked_by_offer app trace offer
    asks_same (Go o at) is apart none = by_birth (birth_in trace o at) refl is.1
      where
        by_birth : (found : Option Entry) → birth_in trace o at ≡ found → IsSome found → asked_by_offer app after (Go o at) ≡ asked_by_offer app trace (Go o at)
        by_birth None there some = absurd (cc)
        by_birth (Some b) there some =
            let not_own : e.actor ≡ Acting (birth_at b) → ⊥ = λ same. (let both : None ≡ Some e = sym none ∙ own o at b there same in absurd (cc)) in
            ap (option_and_then (λ x. next_call app after (birth_at x))) (birth_stays o at b there)
            ∙ next_same app trace after (birth_at b) (gets.others (Acting (birth_at b)) not_own)
            ∙ sym (ap (option_and_then (λ x. next_call app trace (birth_at x))) there)
    asks_same (Take service) is apart none = refl
    asks_same (Pull sub) is apart none = refl
    asks_same (Ship store replica) is apart none = absurd (apart tt)
    asks_same (Again store replica) is apart none = absurd (apart tt)

    waits_on : (object : ℕ) (awaited : Awaited) (offer : Offer) → IsOffer app trace offer → (e.object ≡ object → reaches (brought e.call) awaited ≡ false)
        → OfferWaits app trace object awaited offer → OfferWaits app after object awaited offer
    waits_on object awaited (Go o at) is left w =
        let none : entry_by_offer app trace (Go o at) ≡ None = waits_none app sound trace run object awaited (Go o at) w in
        (w.0, asks_same (Go o at) is (λ r. r) none ∙ w.1, call_waits_on object awaited w.0 left w.2)
    waits_on object awaited (Take service) is left w = (w.0, w.1, call_waits_on object awaited w.0 left w.2)
    waits_on object awaited (Pull sub) is left w = (w.0, w.1, call_waits_on object awaited w.0 left w.2)
    waits_on object awaited (Ship store replica) is left w = route_waits_on object awaited store replica left w
    waits_on object awaited (Again store replica) is left w = cache_waits_on object awaited store replica left w

    past_stays : (offer : Offer) → IsOffer app trace offer → IsPast app trace offer → IsPast app after offer
    past_stays (Go o at) is past = λ q asks.
        unfit_stays q (past q (sym (asks_same (Go o at) is (λ r. r) (past_none app sound trace run (Go o at) past)) ∙ asks))
    past_stays (Take service) is past = λ q asks. unfit_stays q (past q asks)
    past_stays (Pull sub) is past = λ q asks. unfit_stays q (past q asks)
    past_stays (Ship store replica) is past = past
    past_stays (Again store replica) is past = past

    -- An offer of the trace is minded behind the entry, once what it brings was told.
    pub minded_stays : (old new : Agenda) → IsStirred e.object (brought e.call) old new → (offer : Offer) → IsOffer app trace offer
        → IsMinded app trace old offer → IsMinded app after new offer
    minded_stays old new stirred offer is (inl awake) = inl (stirred.awake offer awake)
    minded_stays old new stirred offer is (inr (inl (object, awaited, asleep, w))) = elim (stirred.asleep object awaited offer asleep) [
      | inr awake ↦ inl awake
      | inl still ↦
          inr (inl (
            object,
            awaited,
            still,
            waits_on object awaited offer is (λ here. stirred.left awaited offer (subst (λ (o : ℕ). IsAsleep new o awaited offer) (sym here) still)) w,
          ))
    ]
    minded_stays old new stirred offer is (inr (inr (inl idle))) = inl (stirred.idle offer idle.0)
    minded_stays old new stirred offer is (inr (inr (inr past))) = inr (inr (inr (past_stays offer is past)))

  -- an offer of the trace stays one
  pub offer_stays : (offer : Offer) → IsOffer app trace offer → IsOffer app after offer
  offer_stays (Go o at) is = (is.0, by_birth (birth_in trace o at) refl is.1)
    where
      by_birth : (found : Option Entry) → birth_in trace o at ≡ found → IsSome found → IsSome (birth_in after o at)
      by_birth None there some = absurd (cc)
      by_birth (Some b) there some = subst (λ (x : Option Entry). IsSome x) (sym (birth_stays o at b there)) refl
  offer_stays (Take service) is = is
  offer_stays (Pull sub) is = is
  offer_stays (Ship store replica) is = is
  offer_stays (Again store replica) is = is

  -- The agenda attends to the trace behind the entry, where it starts no process: each offer there is one of the trace before.
  pub attends_over : Own → (old new : Agenda) → IsStirred e.object (brought e.call) old new → ((offer : Offer) → IsOffer app after offer → IsOffer app trace offer)
      → Attends app trace old → Attends app after new
  attends_over own old new stirred no_more a = record {
    each = λ offer is. let before = no_more offer is in minded_stays own old new stirred offer before (a.each offer before);
    awake = λ offer is. elim (stirred.from offer is) [
      | inl awake ↦ offer_stays offer (a.awake offer awake)
      | inr more ↦ elim more [
        | inl idle ↦ offer_stays offer (a.idle offer idle)
        | inr asleep ↦ offer_stays offer (a.asleep e.object asleep.0 offer asleep.2)
      ]
    ];
    asleep = λ object awaited offer is. offer_stays offer (a.asleep object awaited offer (stirred.still object awaited offer is));
    idle = λ offer is. absurd (stirred.none_idle offer is);
  }

  -- The same where it starts one, which is woken behind it.
  pub attends_birth : Own → (old stirred_to new : Agenda) → IsStirred e.object (brought e.call) old stirred_to → (newborn : Offer) → IsOffer app after newborn → IsWoken newborn stirred_to new
      → ((offer : Offer) → IsOffer app after offer → (offer ≡ newborn) ⊎ IsOffer app trace offer) → Attends app trace old → Attends app after new
  attends_birth own old between new stirred newborn there woken one_more a = record {
    each = λ offer is. elim (one_more offer is) [
      | inl it ↦ inl ((woken.awake offer).1 (inl it))
      | inr before ↦ minded_as between new (λ other awake. (woken.awake other).1 (inr awake)) woken.rest offer (minded_stays own old between stirred offer before (a.each offer before))
    ];
    awake = λ offer is. elim ((woken.awake offer).0 is) [
      | inl it ↦ subst (IsOffer app after) (sym it) there
      | inr was ↦ elim (stirred.from offer was) [
        | inl awake ↦ offer_stays offer (a.awake offer awake)
        | inr more ↦ elim more [
          | inl idle ↦ offer_stays offer (a.idle offer idle)
          | inr asleep ↦ offer_stays offer (a.asleep e.object asleep.0 offer asleep.2)
        ]
      ]
    ];
    asleep = λ object awaited offer is. offer_stays offer (a.asleep object awaited offer (stirred.still object awaited offer ((woken.rest.asleep object awaited offer).0 is)));
    idle = λ offer is. absurd (stirred.none_idle offer ((woken.rest.idle offer).0 is));
  }
    where
      minded_as : (one two : Agenda) → ((other : Offer) → IsAwake one other → IsAwake two other) → SameRest one two → (offer : Offer) → IsMinded app after one offer → IsMinded app after two offer
      minded_as one two wakes same offer (inl awake) = inl (wakes offer awake)
      minded_as one two wakes same offer (inr (inl (object, awaited, asleep, w))) = inr (inl (object, awaited, (same.asleep object awaited offer).1 asleep, w))
      minded_as one two wakes same offer (inr (inr (inl idle))) = inr (inr (inl ((same.idle offer).1 idle.0, idle.1)))
      minded_as one two wakes same offer (inr (inr (inr past))) = inr (inr (inr past))

-- ---- behind a try in vain

same_numbers : (make : ℕ → ℕ → Offer) → ((a b x y : ℕ) → make a b ≡ make x y → (a ≡ x) × (b ≡ y)) → (x y a b : ℕ) → (make a b ≡ make x y) ⊎ (make a b ≡ make x y → ⊥)
same_numbers make parts x y a b = elim (decide a x) [
  | inr apart ↦ inr (λ is. apart (parts a b x y is).0)
  | inl first ↦ elim (decide b y) [
    | inr apart ↦ inr (λ is. apart (parts a b x y is).1)
    | inl second ↦ inl (ap (λ (n : ℕ). make n b) first ∙ ap (make x) second)
  ]
]

same_number : (make : ℕ → Offer) → ((a x : ℕ) → make a ≡ make x → a ≡ x) → (x a : ℕ) → (make a ≡ make x) ⊎ (make a ≡ make x → ⊥)
same_number make part x a = elim (decide a x) [
  | inr apart ↦ inr (λ is. apart (part a x is))
  | inl same ↦ inl (ap make same)
]

same_or_apart : (offer other : Offer) → (other ≡ offer) ⊎ (other ≡ offer → ⊥)
same_or_apart (Go x y) (Go a b) = same_numbers Go (λ a b x y is. (cc, cc)) x y a b
same_or_apart (Ship x y) (Ship a b) = same_numbers Ship (λ a b x y is. (cc, cc)) x y a b
same_or_apart (Again x y) (Again a b) = same_numbers Again (λ a b x y is. (cc, cc)) x y a b
same_or_apart (Take x) (Take a) = same_number Take (λ a x is. cc) x a
same_or_apart (Pull x) (Pull a) = same_number Pull (λ a x is. cc) x a
same_or_apart (Go x y) (Take a) = inr (λ is. absurd (cc))
same_or_apart (Go x y) (Pull a) = inr (λ is. absurd (cc))
same_or_apart (Go x y) (Ship a b) = inr (λ is. absurd (cc))
same_or_apart (Go x y) (Again a b) = inr (λ is. absurd (cc))
same_or_apart (Take x) (Go a b) = inr (λ is. absurd (cc))
same_or_apart (Take x) (Pull a) = inr (λ is. absurd (cc))
same_or_apart (Take x) (Ship a b) = inr (λ is. absurd (cc))
same_or_apart (Take x) (Again a b) = inr (λ is. absurd (cc))
same_or_apart (Pull x) (Go a b) = inr (λ is. absurd (cc))
same_or_apart (Pull x) (Take a) = inr (λ is. absurd (cc))
same_or_apart (Pull x) (Ship a b) = inr (λ is. absurd (cc))
same_or_apart (Pull x) (Again a b) = inr (λ is. absurd (cc))
same_or_apart (Ship x y) (Go a b) = inr (λ is. absurd (cc))
same_or_apart (Ship x y) (Take a) = inr (λ is. absurd (cc))
same_or_apart (Ship x y) (Pull a) = inr (λ is. absurd (cc))
same_or_apart (Ship x y) (Again a b) = inr (λ is. absurd (cc))
same_or_apart (Again x y) (Go a b) = inr (λ is. absurd (cc))
same_or_apart (Again x y) (Take a) = inr (λ is. absurd (cc))
same_or_apart (Again x y) (Pull a) = inr (λ is. absurd (cc))
same_or_apart (Again x y) (Ship a b) = inr (λ is. absurd (cc))

module _ (app : App) (trace : List Entry) (offer : Offer) (old new : Agenda) (a : Attends app trace old) where
  -- where the offer is minded by the new agenda, and all others are as they were
  left_minded : HasLeft offer old new
      → ((object : ℕ) (awaited : Awaited) (other : Offer) → IsAsleep old object awaited other → IsAsleep new object awaited other)
      → ((other : Offer) → IsIdle old other → IsIdle new other)
      → IsMinded app trace new offer → (other : Offer) → IsOffer app trace other → IsMinded app trace new other
  left_minded left asleep idle it other is = by_case (a.each other is)
    where
      by_case : IsMinded app trace old other → IsMinded app trace new other
      by_case (inl awake) = elim (same_or_apart offer other) [
        | inl same ↦ subst (IsMinded app trace new) (sym same) it
        | inr differs ↦ inl ((left.awake other).1 (awake, differs))
      ]
      by_case (inr (inl (object, awaited, sleeps, w))) = inr (inl (object, awaited, asleep object awaited other sleeps, w))
      by_case (inr (inr (inl (idles, none)))) = inr (inr (inl (idle other idles, none)))
      by_case (inr (inr (inr past))) = inr (inr (inr past))

  pub attends_rest : IsGone offer old new → IsPast app trace offer → Attends app trace new
  attends_rest gone past = record {
    each = left_minded gone.left (λ object awaited other is. (gone.rest.asleep object awaited other).1 is) (λ other is. (gone.rest.idle other).1 is) (inr (inr (inr past)));
    awake = λ other is. a.awake other ((gone.left.awake other).0 is).0;
    asleep = λ object awaited other is. a.asleep object awaited other ((gone.rest.asleep object awaited other).0 is);
    idle = λ other is. a.idle other ((gone.rest.idle other).0 is);
  }

  pub attends_sleep : IsAwake old offer → (object : ℕ) (awaited : Awaited) → IsPutToSleep offer object awaited old new → OfferWaits app trace object awaited offer → Attends app trace new
  attends_sleep was object awaited put w = record {
    each = left_minded put.left (λ at what other is. (put.asleep at what other).1 (inr is)) (λ other is. (put.idle other).1 is)
        (inr (inl (object, awaited, (put.asleep object awaited offer).1 (inl refl), w)));
    awake = λ other is. a.awake other ((put.left.awake other).0 is).0;
    asleep = λ at what other is. elim ((put.asleep at what other).0 is) [
      | inl same ↦ subst (IsOffer app trace) (sym (ap (λ (s : Sleeper). s.offer) same)) (a.awake offer was)
      | inr before ↦ a.asleep at what other before
    ];
    idle = λ other is. a.idle other ((put.idle other).0 is);
  }

  pub attends_idle : IsAwake old offer → IsIdled offer old new → entry_by_offer app trace offer ≡ None → Attends app trace new
  attends_idle was idled none = record {
    each = left_minded idled.left (λ at what other is. (idled.asleep at what other).1 is) (λ other is. (idled.idle other).1 (inr is))
        (inr (inr (inl ((idled.idle offer).1 (inl refl), none))));
    awake = λ other is. a.awake other ((idled.left.awake other).0 is).0;
    asleep = λ at what other is. a.asleep at what other ((idled.asleep at what other).0 is);
    idle = λ other is. elim ((idled.idle other).0 is) [
      | inl same ↦ subst (IsOffer app trace) (sym same) (a.awake offer was)
      | inr before ↦ a.idle other before
    ];
  }
