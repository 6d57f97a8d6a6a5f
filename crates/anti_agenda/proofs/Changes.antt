-- What the calls of an agenda change, and who is woken one after another.
use Rattle.std.proofs.Common.{◌≡◌, ℕ, ◌<◌, ◌++◌, ◌⊎◌, ◌↔◌, true, false, List, [], ◌∷◌, length, Contains, sym, ap, ◌∙◌, inl, inr, subst, Some, Ok, Err, OnOk, Result}
use Rattle.std.specs.BTreeSet.{BTreeSet, keys}
use Rattle.std.proofs.lemmas.List.Elements.{Contains-append_left, Contains-push, Contains-push_cases}
use Rattle.anti_kind.specs.declared.awaited.Awaited.{Awaited}
use Rattle.anti_kind.specs.declared.awaited.Brought.{Brought}
use Rattle.anti_kind.specs.declared.awaited.Brought.TheVariants as came
use Rattle.anti_kind.specs.Waiting.{reaches}
use Rattle.anti_agenda.specs.Agendas.{HasLeft, IsAsleep, IsAwake, IsGone, IsIdle, IsIdled, IsPutToSleep, IsStirred, IsWoken, SameRest, sleeper}
use Rattle.anti_agenda.specs.declared.agenda.Agenda.{Agenda}
use Rattle.anti_agenda.specs.declared.offer.Offer.{Offer}
use Rattle.anti_agenda.specs.declared.offer.Sleeper.{Sleeper}
use Rattle.anti_agenda.specs.inner.Waking.{IsOneWaiting, NoneWaits, WakesIdle, WakesSome, WakesWaiting, brings}
use Rattle.anti_agenda.proofs.Brought.{reaches_alike, shipped_brings, shipped_hands_out, shipped_reaches}
use Rattle.anti_agenda.proofs.KeySets.{same_or_apart}
use Rattle.anti_agenda.proofs.Orders.{sleepers_exact, sleepers_total}

-- ---- one call

-- one more
abbrev Adds : Offer → BTreeSet Offer → BTreeSet Offer → Type 0
Adds offer old new = (other : Offer) → Contains (keys new) other ↔ ((other ≡ offer) ⊎ Contains (keys old) other)

-- nothing else is touched
pub rest_stays : (agenda : Agenda) (awake : BTreeSet Offer)
    → SameRest agenda (record { awake = awake; asleep = agenda.asleep; idle = agenda.idle })
rest_stays agenda awake = record {
  asleep = λ object awaited offer. (λ is. is, λ is. is);
  idle = λ offer. (λ is. is, λ is. is);
}

pub woken : (agenda : Agenda) (offer : Offer) (awake : BTreeSet Offer) → Adds offer agenda.awake awake
    → IsWoken offer agenda (record { awake = awake; asleep = agenda.asleep; idle = agenda.idle })
woken agenda offer awake more = record {
  awake = more;
  rest = rest_stays agenda awake;
}

pub gone : (agenda : Agenda) (offer : Offer) (awake : BTreeSet Offer)
    → ((other : Offer) → Contains (keys awake) other ↔ (IsAwake agenda other × (other ≡ offer → ⊥)))
    → (IsAwake agenda offer → length (keys awake) < length (keys agenda.awake))
    → IsGone offer agenda (record { awake = awake; asleep = agenda.asleep; idle = agenda.idle })
gone agenda offer awake others fewer = record {
  left = record { awake = others; fewer = fewer };
  rest = rest_stays agenda awake;
}

-- one who sleeps more, and is then awake no more
pub put_to_sleep : (old new : Agenda) (offer : Offer) (object : ℕ) (awaited : Awaited) (asleep : BTreeSet Sleeper)
    → ((other : Sleeper) → Contains (keys asleep) other ↔ ((other ≡ sleeper object awaited offer) ⊎ Contains (keys old.asleep) other))
    → IsGone offer (record { awake = old.awake; asleep = asleep; idle = old.idle }) new → IsPutToSleep offer object awaited old new
put_to_sleep old new offer object awaited asleep more gone = record {
  left = record { awake = gone.left.awake; fewer = gone.left.fewer };
  asleep = λ at what other.
      let same = gone.rest.asleep at what other in
      let one = more (sleeper at what other) in (λ is. one.0 (same.0 is), λ is. same.1 (one.1 is));
  idle = gone.rest.idle;
}

-- one who is idle more, and is then awake no more
pub idled : (old with_one new : Agenda) (offer : Offer) → with_one.awake ≡ old.awake → with_one.asleep ≡ old.asleep
    → with_one.idle.items ≡ old.idle.items ++ offer ∷ [] → IsGone offer with_one new → IsIdled offer old new
idled old with_one new offer awake asleep idle gone = record {
  left = subst (λ (a : BTreeSet Offer). HasLeft offer (record { awake = a; asleep = old.asleep; idle = old.idle }) new) awake
      (record { awake = gone.left.awake; fewer = gone.left.fewer });
  asleep = subst (λ (a : BTreeSet Sleeper). (object : ℕ) (awaited : Awaited) (other : Offer)
      → IsAsleep new object awaited other ↔ Contains (keys a) (sleeper object awaited other)) asleep gone.rest.asleep;
  idle = λ other.
      let same = gone.rest.idle other in (
        λ is.
            elim (Contains-push_cases old.idle.items offer other (subst (λ (os : List Offer). Contains os other) idle (same.0 is))) [
              | inl had ↦ inr had
              | inr it ↦ inl (sym it)
            ],
        λ is.
            same.1
            (subst (λ (os : List Offer). Contains os other) (sym idle)
            (elim is [
              | inl it ↦ subst (Contains (old.idle.items ++ offer ∷ [])) (sym it) (Contains-push old.idle.items offer)
              | inr had ↦ Contains-append_left old.idle.items (offer ∷ []) other had
            ])),
      );
}

-- ---- one after another

-- one who was idle
pub wakes_idle : (old new : Agenda) (offer : Offer) → old.idle.items ≡ new.idle.items ++ offer ∷ []
    → Adds offer old.awake new.awake → new.asleep ≡ old.asleep → WakesIdle old new
wakes_idle old new offer popped more same = record {
  some = record {
    awake = λ other is. (more other).1 (inr is);
    idle = λ other is.
        elim (Contains-push_cases new.idle.items offer other (subst (λ (os : List Offer). Contains os other) popped is)) [
          | inl left ↦ inl left
          | inr it ↦ inr ((more other).1 (inl (sym it)))
        ];
    asleep = λ at awaited other is. inl (subst (λ (s : BTreeSet Sleeper). Contains (keys s) (sleeper at awaited other)) (sym same) is);
    idle_still = λ other is.
        subst (λ (os : List Offer). Contains os other) (sym popped) (Contains-append_left new.idle.items (offer ∷ []) other is);
    asleep_still = λ at awaited other is. subst (λ (s : BTreeSet Sleeper). Contains (keys s) (sleeper at awaited other)) same is;
  };
  from = λ other is.
      elim ((more other).0 is) [
        | inl it ↦ inr (subst (IsIdle old) (sym it) was_idle)
        | inr had ↦ inl had
      ];
}
  where
    was_idle : IsIdle old offer
    was_idle = subst (λ (os : List Offer). Contains os offer) (sym popped) (Contains-push new.idle.items offer)

-- one who slept at the object for what is brought
pub wakes_sleeper : (object : ℕ) (what : Brought) (old new : Agenda) (one : Sleeper) → IsOneWaiting object what old.asleep (Some one)
    → ((q : Sleeper) → Contains (keys new.asleep) q ↔ (Contains (keys old.asleep) q × (q ≡ one → ⊥)))
    → Adds one.offer old.awake new.awake → new.idle.items ≡ old.idle.items → WakesWaiting object what old new
wakes_sleeper object what old new one waits fewer more same = record {
  some = record {
    awake = λ other is. (more other).1 (inr is);
    idle = λ other is. inl (subst (λ (os : List Offer). Contains os other) (sym same) is);
    asleep = λ at awaited other is.
        elim (same_or_apart sleepers_total sleepers_exact one (sleeper at awaited other)) [
          | inl it ↦ inr ((more other).1 (inl (ap (λ (s : Sleeper). s.offer) it)))
          | inr apart ↦ inl ((fewer (sleeper at awaited other)).1 (is, apart))
        ];
    idle_still = λ other is. subst (λ (os : List Offer). Contains os other) same is;
    asleep_still = λ at awaited other is. ((fewer (sleeper at awaited other)).0 is).0;
  };
  from = λ other is.
      elim ((more other).0 is) [
        | inl it ↦ inr (one.awaited, waits.2, subst (IsAsleep old object one.awaited) (sym it) slept)
        | inr had ↦ inl had
      ];
}
  where
    slept : IsAsleep old object one.awaited one.offer
    slept = subst (λ (at : ℕ). IsAsleep old at one.awaited one.offer) waits.1 waits.0

-- the same lists
pub wakes_same : (old new : Agenda) → new.awake ≡ old.awake → new.asleep ≡ old.asleep → new.idle.items ≡ old.idle.items → WakesIdle old new
wakes_same old new awake asleep idle = record {
  some = record {
    awake = λ other is. subst (λ (s : BTreeSet Offer). Contains (keys s) other) (sym awake) is;
    idle = λ other is. inl (subst (λ (os : List Offer). Contains os other) (sym idle) is);
    asleep = λ at awaited other is. inl (subst (λ (s : BTreeSet Sleeper). Contains (keys s) (sleeper at awaited other)) (sym asleep) is);
    idle_still = λ other is. subst (λ (os : List Offer). Contains os other) idle is;
    asleep_still = λ at awaited other is. subst (λ (s : BTreeSet Sleeper). Contains (keys s) (sleeper at awaited other)) asleep is;
  };
  from = λ other is. inl (subst (λ (s : BTreeSet Offer). Contains (keys s) other) awake is);
}

wakes_more : (old between new : Agenda) → WakesSome old between → WakesSome between new → WakesSome old new
wakes_more old between new some more = record {
  awake = λ offer is. more.awake offer (some.awake offer is);
  idle = λ offer is. elim (some.idle offer is) [ inl left ↦ more.idle offer left | inr up ↦ inr (more.awake offer up) ];
  asleep = λ at awaited offer is.
      elim (some.asleep at awaited offer is) [ inl left ↦ more.asleep at awaited offer left | inr up ↦ inr (more.awake offer up) ];
  idle_still = λ offer is. some.idle_still offer (more.idle_still offer is);
  asleep_still = λ at awaited offer is. some.asleep_still at awaited offer (more.asleep_still at awaited offer is);
}

pub more_idle : (old between new : Agenda) → WakesIdle old between → WakesIdle between new → WakesIdle old new
more_idle old between new first more = record {
  some = wakes_more old between new first.some more.some;
  from = λ offer is.
      elim (more.from offer is) [
        | inl up ↦ first.from offer up
        | inr left ↦ inr (first.some.idle_still offer left)
      ];
}

pub more_waiting : (object : ℕ) (what : Brought) (old between new : Agenda) → WakesWaiting object what old between
    → WakesWaiting object what between new → WakesWaiting object what old new
more_waiting object what old between new first more = record {
  some = wakes_more old between new first.some more.some;
  from = λ offer is.
      elim (more.from offer is) [
        | inl up ↦ first.from offer up
        | inr slept ↦ inr (slept.0, slept.1, first.some.asleep_still object slept.0 offer slept.2)
      ];
}

-- ---- all that an entry stirs

-- some of those that it may wake: all that are idle, and those that sleep at the object for what it reaches
record StirsSome (object : ℕ) (what : Brought) (old new : Agenda) : Type 0 where
  some : WakesSome old new
  from : (offer : Offer) → IsAwake new offer
      → IsAwake old offer ⊎ (IsIdle old offer ⊎ ((awaited : Awaited) × (reaches what awaited ≡ true) × IsAsleep old object awaited offer))

stirs_idle : (object : ℕ) (what : Brought) (old new : Agenda) → WakesIdle old new → StirsSome object what old new
stirs_idle object what old new wakes = record {
  some = wakes.some;
  from = λ offer is. elim (wakes.from offer is) [ inl up ↦ inl up | inr idle ↦ inr (inl idle) ];
}

-- where what is brought is within what the entry reaches
stirs_more : (object : ℕ) (what within : Brought) (old between new : Agenda)
    → ((awaited : Awaited) → brings within awaited ≡ true → reaches what awaited ≡ true) → StirsSome object what old between
    → WakesWaiting object within between new → StirsSome object what old new
stirs_more object what within old between new reached first more = record {
  some = wakes_more old between new first.some more.some;
  from = λ offer is.
      elim (more.from offer is) [
        | inl up ↦ first.from offer up
        | inr slept ↦ inr (inr (slept.0, reached slept.0 slept.1, first.some.asleep_still object slept.0 offer slept.2))
      ];
}

stirred : (object : ℕ) (what : Brought) (old new : Agenda) → StirsSome object what old new → ((offer : Offer) → IsIdle new offer → ⊥)
    → ((awaited : Awaited) (offer : Offer) → IsAsleep new object awaited offer → reaches what awaited ≡ false)
    → IsStirred object what old new
stirred object what old new stirs none left = record {
  awake = stirs.some.awake;
  idle = λ offer is. elim (stirs.some.idle offer is) [ inl still ↦ absurd (none offer still) | inr up ↦ up ];
  none_idle = none;
  asleep = stirs.some.asleep;
  left = left;
  still = stirs.some.asleep_still;
  from = stirs.from;
}

pub on_both : {T E P Q S : Type 0} (result : Result T E) → (P → Q → S) → OnOk result P → OnOk result Q → OnOk result S
on_both (Ok value) both first second = both first second
on_both (Err error) both first second = tt

-- where it is no shipment that came
pub stirred_once : (object : ℕ) (what : Brought) (old idle new : Agenda)
    → ((region version : ℕ) → what ≡ came.Shipped region version → ⊥) → WakesIdle old idle
    → ((offer : Offer) → IsIdle idle offer → ⊥) → WakesWaiting object what idle new → NoneWaits object what new.asleep
    → IsStirred object what old new
stirred_once object what old idle new apart first none more left =
    stirred object what old new
    (stirs_more object what what old idle new (λ awaited is. sym (reaches_alike what awaited apart) ∙ is)
    (stirs_idle object what old idle first) more)
    (λ offer is. none offer (more.some.idle_still offer is))
    (λ awaited offer is. sym (reaches_alike what awaited apart) ∙ left awaited offer is)

-- where a shipment came
pub stirred_twice : (object region version : ℕ) (what : Brought) → what ≡ came.Shipped region version → (old idle handed new : Agenda)
    → WakesIdle old idle → ((offer : Offer) → IsIdle idle offer → ⊥) → WakesWaiting object came.HandedBack idle handed
    → NoneWaits object came.HandedBack handed.asleep → WakesWaiting object what handed new → NoneWaits object what new.asleep
    → IsStirred object what old new
stirred_twice object region version what shipped old idle handed new first none hands none_waits more left =
    stirred object what old new
    (stirs_more object what what old handed new comes
    (stirs_more object what came.HandedBack old idle handed hands_out (stirs_idle object what old idle first) hands) more)
    (λ offer is. none offer (hands.some.idle_still offer (more.some.idle_still offer is)))
    (λ awaited offer is.
    reached awaited
    ∙ shipped_reaches region version awaited (none_waits awaited offer (more.some.asleep_still object awaited offer is))
    (brought awaited ∙ left awaited offer is))
  where
    reached : (awaited : Awaited) → reaches what awaited ≡ reaches (came.Shipped region version) awaited
    reached awaited = ap (λ (w : Brought). reaches w awaited) shipped

    brought : (awaited : Awaited) → brings (came.Shipped region version) awaited ≡ brings what awaited
    brought awaited = ap (λ (w : Brought). brings w awaited) (sym shipped)

    hands_out : (awaited : Awaited) → brings came.HandedBack awaited ≡ true → reaches what awaited ≡ true
    hands_out awaited is = reached awaited ∙ shipped_hands_out region version awaited is

    comes : (awaited : Awaited) → brings what awaited ≡ true → reaches what awaited ≡ true
    comes awaited is = reached awaited ∙ shipped_brings region version awaited (brought awaited ∙ is)
