-- An agenda that is filled offer by offer attends to the trace once it names all.
use Rattle.std.proofs.Common.{◌≡◌, ℕ, ◌+◌, ◌<◌, ◌⊎◌, inl, inr, List, [], length, refl, sym, ap, subst, arith}
use Rattle.std.specs.Prelude.{Option, Some, slice_get}
use Rattle.std.specs.Option.{option_map_or}
use Rattle.std.proofs.lemmas.Bool.{cases_lt}
use Rattle.anti_kind.specs.declared.entry.Entry.{Entry}
use Rattle.anti_app.specs.declared.app.App.{App}
use Rattle.anti_app.specs.declared.app.StoreDef.{StoreDef}
use Rattle.anti_agenda.specs.Agendas.{IsEmpty, IsWoken, SameRest}
use Rattle.anti_agenda.specs.declared.agenda.Agenda.{Agenda}
use Rattle.anti_agenda.specs.declared.offer.Offer.{Offer}
use Rattle.anti_agenda.specs.declared.offer.Offer.TheVariants.{Go, Take, Pull, Ship, Again}
use Rattle.anti_trace.specs.Traces.{entries_on}
use Rattle.anti_proc.specs.Births.{births}
use Rattle.anti_play.specs.inner.Attending.{Attends, Below, IsAgain, IsGo, IsGoAt, IsOffer, IsPast, IsPull, IsShip, IsTake, IsTo, Wakes, WakesAll, caches, replicas}
use Rattle.anti_play.proofs.Offers.{born_there, born_within, region_there, region_within, regions_of}

-- ---- offers by their numbers

-- the offer with this number is the last of those below the next one
below_cases : (Numbered : ℕ → Offer → Type 0) (n : ℕ) (offer : Offer) → Below Numbered (n + 1) offer → Below Numbered n offer ⊎ Numbered n offer
below_cases Numbered n offer (k, low, is) = elim (cases_lt k n) [
  | inl less ↦ inl (k, less, is)
  | inr last ↦ inr (subst (λ (i : ℕ). Numbered i offer) (let same : k ≡ n = omega (arith, low, last) in same) is)
]

below_more : (Numbered : ℕ → Offer → Type 0) (n : ℕ) (offer : Offer) → Below Numbered n offer ⊎ Numbered n offer → Below Numbered (n + 1) offer
below_more Numbered n offer (inl (k, low, is)) = (k, omega (arith, low), is)
below_more Numbered n offer (inr is) = (n, omega arith, is)

same_rest : (agenda : Agenda) → SameRest agenda agenda
same_rest agenda = record { asleep = λ object awaited offer. (λ is. is, λ is. is); idle = λ offer. (λ is. is, λ is. is) }

rest_then : (old mid new : Agenda) → SameRest old mid → SameRest mid new → SameRest old new
rest_then old mid new one two = record {
  asleep = λ object awaited offer. (
    λ is. (one.asleep object awaited offer).0 ((two.asleep object awaited offer).0 is),
    λ is. (two.asleep object awaited offer).1 ((one.asleep object awaited offer).1 is),
  );
  idle = λ offer. (λ is. (one.idle offer).0 ((two.idle offer).0 is), λ is. (two.idle offer).1 ((one.idle offer).1 is));
}

-- ---- none is left out

-- just the one that was woken
pub all_one : (newly : Offer) (old new : Agenda) → IsWoken newly old new → WakesAll (λ offer. offer ≡ newly) old new
all_one newly old new w = record {
  each = λ offer is. (w.awake offer).1 (inl is);
  still = λ offer is. (w.awake offer).1 (inr is);
  from = λ offer is. (w.awake offer).0 is;
  rest = w.rest;
}

module _ (Numbered : ℕ → Offer → Type 0) where
  pub all_none : (agenda : Agenda) → WakesAll (Below Numbered 0) agenda agenda
  all_none agenda = record {
    each = λ offer is. absurd (let low = is.1 in omega (arith, low));
    still = λ offer is. is;
    from = λ offer is. inr is;
    rest = same_rest agenda;
  }

  pub all_more : (n : ℕ) (old mid new : Agenda) → WakesAll (Below Numbered n) old mid → WakesAll (Numbered n) mid new → WakesAll (Below Numbered (n + 1)) old new
  all_more n old mid new one two = record {
    each = λ offer is. elim (below_cases Numbered n offer is) [
      | inl before ↦ two.still offer (one.each offer before)
      | inr it ↦ two.each offer it
    ];
    still = λ offer is. two.still offer (one.still offer is);
    from = λ offer is. elim (two.from offer is) [
      | inl it ↦ inl (below_more Numbered n offer (inr it))
      | inr was ↦ elim (one.from offer was) [
        | inl before ↦ inl (below_more Numbered n offer (inl before))
        | inr old_one ↦ inr old_one
      ]
    ];
    rest = rest_then old mid new one.rest two.rest;
  }

-- those that are named in another way
all_as : (Named Called : Offer → Type 0) (old new : Agenda) → ((offer : Offer) → Named offer → Called offer) → ((offer : Offer) → Called offer → Named offer)
    → WakesAll Named old new → WakesAll Called old new
all_as Named Called old new to back w = record {
  each = λ offer is. w.each offer (back offer is);
  still = w.still;
  from = λ offer is. elim (w.from offer is) [
    | inl named ↦ inl (to offer named)
    | inr was ↦ inr was
  ];
  rest = w.rest;
}

-- what goes to these regions of a store, by their places
pub all_to_regions : (to : ℕ → ℕ → Offer) (regions : StoreDef → List ℕ) (app : App) (store : ℕ) (d : StoreDef) → slice_get app.stores.items store ≡ Some d → (old new : Agenda)
    → WakesAll (Below (λ place offer. offer ≡ to store place) (length (regions d))) old new → WakesAll (IsTo to regions app store) old new
all_to_regions to regions app store d at old new w =
    let same : regions_of regions app store ≡ regions d = ap (λ (found : Option StoreDef). option_map_or regions found []) at in
    all_as (Below (λ place offer. offer ≡ to store place) (length (regions d))) (IsTo to regions app store) old new
    (λ offer is. (is.0, is.2, region_there app [] regions store is.0 (subst (λ (xs : List ℕ). is.0 < length xs) (sym same) is.1)))
    (λ offer is. (is.0, subst (λ (xs : List ℕ). is.0 < length xs) same (region_within app [] regions store is.0 is.2).1, is.1)) w

-- ---- those that are past may be left out

module _ (app : App) (trace : List Entry) where
  wakes_all : (Named : Offer → Type 0) (old new : Agenda) → WakesAll Named old new → Wakes app trace Named old new
  wakes_all Named old new w = record { each = λ offer is. inl (w.each offer is); still = w.still; from = w.from; rest = w.rest }

  pub wakes_one : (newly : Offer) (old new : Agenda) → IsWoken newly old new → Wakes app trace (λ offer. offer ≡ newly) old new
  wakes_one newly old new w = wakes_all (λ offer. offer ≡ newly) old new (all_one newly old new w)

  pub wakes_past : (left_out : Offer) (agenda : Agenda) → IsPast app trace left_out → Wakes app trace (λ offer. offer ≡ left_out) agenda agenda
  wakes_past left_out agenda past = record {
    each = λ offer is. inr (subst (IsPast app trace) (sym is) past);
    still = λ offer is. is;
    from = λ offer is. inr is;
    rest = same_rest agenda;
  }

  -- these and then those
  wakes_both : (Named More Called : Offer → Type 0) (old mid new : Agenda) → ((offer : Offer) → Called offer → Named offer ⊎ More offer)
      → ((offer : Offer) → Named offer ⊎ More offer → Called offer) → Wakes app trace Named old mid → Wakes app trace More mid new → Wakes app trace Called old new
  wakes_both Named More Called old mid new to back one two = record {
    each = λ offer is. elim (to offer is) [
      | inl named ↦ elim (one.each offer named) [
        | inl awake ↦ inl (two.still offer awake)
        | inr past ↦ inr past
      ]
      | inr more ↦ two.each offer more
    ];
    still = λ offer is. two.still offer (one.still offer is);
    from = λ offer is. elim (two.from offer is) [
      | inl more ↦ inl (back offer (inr more))
      | inr was ↦ elim (one.from offer was) [
        | inl named ↦ inl (back offer (inl named))
        | inr old_one ↦ inr old_one
      ]
    ];
    rest = rest_then old mid new one.rest two.rest;
  }

  module _ (Numbered : ℕ → Offer → Type 0) where
    pub wakes_none : (agenda : Agenda) → Wakes app trace (Below Numbered 0) agenda agenda
    wakes_none agenda = wakes_all (Below Numbered 0) agenda agenda (all_none Numbered agenda)

    pub wakes_more : (n : ℕ) (old mid new : Agenda) → Wakes app trace (Below Numbered n) old mid → Wakes app trace (Numbered n) mid new
        → Wakes app trace (Below Numbered (n + 1)) old new
    wakes_more n old mid new one two =
        wakes_both (Below Numbered n) (Numbered n) (Below Numbered (n + 1)) old mid new (below_cases Numbered n) (below_more Numbered n) one two

  wakes_as : (Named Called : Offer → Type 0) (old new : Agenda) → ((offer : Offer) → Named offer → Called offer) → ((offer : Offer) → Called offer → Named offer)
      → Wakes app trace Named old new → Wakes app trace Called old new
  wakes_as Named Called old new to back w = record {
    each = λ offer is. w.each offer (back offer is);
    still = w.still;
    from = λ offer is. elim (w.from offer is) [
      | inl named ↦ inl (to offer named)
      | inr was ↦ inr was
    ];
    rest = w.rest;
  }

  -- the processes of an object, by their places
  pub wakes_goes_at : (object : ℕ) (old new : Agenda) → Wakes app trace (Below (λ at offer. offer ≡ Go object at) (length (births (entries_on object trace)))) old new
      → Wakes app trace (IsGoAt trace object) old new
  wakes_goes_at object old new w =
      let many : ℕ = length (births (entries_on object trace)) in
      wakes_as (Below (λ at offer. offer ≡ Go object at) many) (IsGoAt trace object) old new
      (λ offer is. (is.0, is.2, born_there app trace object is.0 is.1)) (λ offer is. (is.0, born_within app trace object is.0 is.2, is.1)) w

  -- ---- all kinds of offers

  -- those that go to replicas; with the pulls; and with the takes
  abbrev IsAtStore : Offer → Type 0
  IsAtStore offer = IsShip app offer ⊎ IsAgain app offer

  abbrev IsBehind : Offer → Type 0
  IsBehind offer = IsPull app offer ⊎ IsAtStore offer

  abbrev IsRest : Offer → Type 0
  IsRest offer = IsTake app offer ⊎ IsBehind offer

  kind_of : (offer : Offer) → IsOffer app trace offer → IsGo app trace offer ⊎ IsRest offer
  kind_of (Go object at) is = inl (object, is.0, (at, refl, is.1))
  kind_of (Take service) is = inr (inl (service, is, refl))
  kind_of (Pull sub) is = inr (inr (inl (sub, is, refl)))
  kind_of (Ship store replica) is = inr (inr (inr (inl (store, (region_within app trace replicas store replica is).0, (replica, refl, is)))))
  kind_of (Again store replica) is = inr (inr (inr (inr (store, (region_within app trace caches store replica is).0, (replica, refl, is)))))

  of_kind : (offer : Offer) → IsGo app trace offer ⊎ IsRest offer → IsOffer app trace offer
  of_kind offer (inl (object, low, (at, is, some))) = subst (IsOffer app trace) (sym is) (low, some)
  of_kind offer (inr (inl (service, low, is))) = subst (IsOffer app trace) (sym is) low
  of_kind offer (inr (inr (inl (sub, low, is)))) = subst (IsOffer app trace) (sym is) low
  of_kind offer (inr (inr (inr (inl (store, low, (replica, is, some)))))) = subst (IsOffer app trace) (sym is) some
  of_kind offer (inr (inr (inr (inr (store, low, (replica, is, some)))))) = subst (IsOffer app trace) (sym is) some

  pub attends_filled : (first goes takes pulls ships all : Agenda) → IsEmpty first → Wakes app trace (IsGo app trace) first goes → WakesAll (IsTake app) goes takes
      → WakesAll (IsPull app) takes pulls → WakesAll (IsShip app) pulls ships → WakesAll (IsAgain app) ships all → Attends app trace all
  attends_filled first goes takes pulls ships all empty go take pull ship again =
      let at_stores : Wakes app trace IsAtStore pulls all =
      wakes_both (IsShip app) (IsAgain app) IsAtStore pulls ships all (λ offer is. is) (λ offer is. is)
      (wakes_all (IsShip app) pulls ships ship) (wakes_all (IsAgain app) ships all again) in
      let behind : Wakes app trace IsBehind takes all =
      wakes_both (IsPull app) IsAtStore IsBehind takes pulls all (λ offer is. is) (λ offer is. is)
      (wakes_all (IsPull app) takes pulls pull) at_stores in
      let rest : Wakes app trace IsRest goes all =
      wakes_both (IsTake app) IsBehind IsRest goes takes all (λ offer is. is) (λ offer is. is)
      (wakes_all (IsTake app) goes takes take) behind in
      filled first all empty (wakes_both (IsGo app trace) IsRest (IsOffer app trace) first goes all kind_of of_kind go rest)
    where
      filled : (old new : Agenda) → IsEmpty old → Wakes app trace (IsOffer app trace) old new → Attends app trace new
      filled old new empty w = record {
        each = λ offer is. elim (w.each offer is) [
          | inl awake ↦ inl awake
          | inr past ↦ inr (inr (inr past))
        ];
        awake = λ offer is. elim (w.from offer is) [
          | inl named ↦ named
          | inr was ↦ absurd (empty.awake offer was)
        ];
        asleep = λ object awaited offer is. absurd (empty.asleep object awaited offer ((w.rest.asleep object awaited offer).0 is));
        idle = λ offer is. absurd (empty.idle offer ((w.rest.idle offer).0 is));
      }
