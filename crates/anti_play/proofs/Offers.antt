-- The offers of a trace as one ascending list, which makes what its choices make.
use Rattle.std.proofs.Common.{◌≡◌, ℕ, suc, ◌+◌, ◌<◌, inl, inr, List, [], ◌∷◌, ◌++◌, length, map, get_or, refl, sym, ap, ◌∙◌, subst, arith}
use Rattle.std.specs.Prelude.{All, IsSome, IsTrue, Option, None, Some, flat_map, option_and_then, slice_get}
use Rattle.std.specs.List.{Contains, range_with_len}
use Rattle.std.specs.Option.{option_map_or, option_or}
use Rattle.std.proofs.lemmas.Option.{slice_get_cases, slice_get_within}
use Rattle.std.proofs.lemmas.List.Elements.{All-append, All-map, All-weaker, Contains-append_left, Contains-append_right}
use Rattle.anti_kind.specs.declared.entry.Entry.{Entry}
use Rattle.anti_app.specs.declared.app.App.{App}
use Rattle.anti_app.specs.declared.app.Choice.{Choice}
use Rattle.anti_app.specs.declared.app.Choice.TheVariants as choices
use Rattle.anti_app.specs.declared.app.StoreDef.{StoreDef}
use Rattle.anti_app.specs.Objects.{object_count}
use Rattle.anti_app.specs.Sound.{is_sound}
use Rattle.anti_trace.specs.Traces.{entries_on}
use Rattle.anti_trace.specs.Legal.{IsLegalTrace}
use Rattle.anti_proc.specs.Births.{birth_at, births}
use Rattle.anti_agenda.specs.Agendas.{IsBefore, IsBelow}
use Rattle.anti_agenda.specs.declared.offer.Offer.{Offer}
use Rattle.anti_agenda.specs.declared.offer.Offer.TheVariants.{Go, Take, Pull, Ship, Again}
use Rattle.anti_play.specs.Schedule.{agains, chosen, first_made, first_of, go_of, goes, made_at, next_call, objects, pulls, ships, take_of, takes}
use Rattle.anti_play.specs.inner.Attending.{IsOffer, birth_in, caches, entry_by_offer, region_in, replicas}
use Rattle.anti_play.specs.inner.Finishing.{agains_from, next_again, next_shipped, ships_from}
use Rattle.anti_play.proofs.AgainNext.{again_made, again_from}
use Rattle.anti_play.proofs.Complete.{given_by, in_map, in_range}
use Rattle.anti_play.proofs.FirstAwake.{Ascends, all_joined, ascends-append, ascends-lists, ascends-range, range_below}
use Rattle.anti_play.proofs.FirstOf.{first_of-append, first_of-flat_map, first_of-map, first_of-same}
use Rattle.anti_play.proofs.ShipNext.{first_from}

-- ---- the list

abbrev pub goes_at : List Entry → ℕ → List Offer
goes_at trace object = map (Go object) (range_with_len 0 (length (births (entries_on object trace))))

abbrev pub all_goes : App → List Entry → List Offer
all_goes app trace = flat_map (goes_at trace) (objects app)

abbrev pub all_takes : App → List Offer
all_takes app = map Take (range_with_len 0 (length app.services.items))

abbrev pub all_pulls : App → List Offer
all_pulls app = map Pull (range_with_len 0 (length app.subs.items))

-- what goes to these regions of a store, and of all stores
abbrev pub regions_of : (StoreDef → List ℕ) → App → ℕ → List ℕ
regions_of regions app store = option_map_or regions (slice_get app.stores.items store) []

abbrev pub all_at : (ℕ → ℕ → Offer) → (StoreDef → List ℕ) → App → ℕ → List Offer
all_at to regions app store = map (to store) (range_with_len 0 (length (regions_of regions app store)))

abbrev pub all_to : (ℕ → ℕ → Offer) → (StoreDef → List ℕ) → App → List Offer
all_to to regions app = flat_map (all_at to regions app) (range_with_len 0 (length app.stores.items))

abbrev pub all_routes : App → List Offer
all_routes app = all_to Ship replicas app

abbrev pub all_caches : App → List Offer
all_caches app = all_to Again caches app

abbrev pub all_offers : App → List Entry → List Offer
all_offers app trace = all_goes app trace ++ (all_takes app ++ (all_pulls app ++ (all_routes app ++ all_caches app)))

-- ---- what it makes

-- items by their places
by_places : {T : Type 0} (f : T → Option Entry) (xs : List T) (g : ℕ → Option Entry) (k : ℕ) → ((i : ℕ) → g (k + i) ≡ option_and_then f (slice_get xs i))
    → first_of g (range_with_len k (length xs)) ≡ first_of f xs
by_places f [] g k same = refl
by_places {T} f (x ∷ xs) g k same =
    let first : g k ≡ f x = ap g (let zero_more : k ≡ k + 0 = omega arith in zero_more) ∙ same 0 in
    ap (λ (o : Option Entry). option_or o (first_of g (range_with_len (k + 1) (length xs)))) first
    ∙ ap (option_or (f x))
    (by_places f xs g (k + 1)
    (λ i. ap g (let moved : k + 1 + i ≡ k + suc i = omega arith in moved) ∙ same (suc i)))

by_place : {T : Type 0} (f : T → Option Entry) (xs : List T) (g : ℕ → Option Entry) → ((i : ℕ) → g i ≡ option_and_then f (slice_get xs i))
    → first_of g (range_with_len 0 (length xs)) ≡ first_of f xs
by_place f xs g same = by_places f xs g 0 (λ i. ap g (let zero_less : 0 + i ≡ i = omega arith in zero_less) ∙ same i)

-- the numbers below this one
range_within : (n : ℕ) → All (λ j. j < n) (range_with_len 0 n)
range_within n = All-weaker (λ (j : ℕ). j < 0 + n) (λ (j : ℕ). j < n) (λ j lt. omega (arith, lt)) (range_with_len 0 n) (range_below 0 n)

module _ (app : App) (trace : List Entry) where
  abbrev entry : Offer → Option Entry
  entry offer = entry_by_offer app trace offer

  go_is : (found : Option Entry) → option_and_then (made_at app trace) (option_and_then (λ e. next_call app trace (birth_at e)) found)
      ≡ option_and_then (λ e. chosen app trace (go_of e)) found
  go_is None = refl
  go_is (Some e) = refl

  first_go : (object : ℕ) → first_of entry (goes_at trace object) ≡ first_of (chosen app trace) (map go_of (births (entries_on object trace)))
  first_go object =
      let bs : List Entry = births (entries_on object trace) in
      first_of-map entry (Go object) (range_with_len 0 (length bs))
      ∙ by_place (λ e. chosen app trace (go_of e)) bs (λ i. entry (Go object i)) (λ i. go_is (slice_get bs i))
      ∙ sym (first_of-map (chosen app trace) go_of bs)

  first_goes : first_of entry (all_goes app trace) ≡ first_of (chosen app trace) (goes app trace)
  first_goes =
      first_of-flat_map entry (goes_at trace) (objects app)
      ∙ first_of-same (λ o. first_of entry (goes_at trace o)) (λ o. first_of (chosen app trace) (map go_of (births (entries_on o trace)))) first_go (objects app)
      ∙ sym (first_of-flat_map (chosen app trace) (λ o. map go_of (births (entries_on o trace))) (objects app))

  first_takes : first_of entry (all_takes app) ≡ first_of (chosen app trace) (takes app)
  first_takes =
      let ns : List ℕ = range_with_len 0 (length app.services.items) in
      first_of-map entry Take ns ∙ sym (first_of-map (chosen app trace) take_of ns)

  first_pulls : first_of entry (all_pulls app) ≡ first_of (chosen app trace) (pulls app)
  first_pulls =
      let ns : List ℕ = range_with_len 0 (length app.subs.items) in
      first_of-map entry Pull ns ∙ sym (first_of-map (chosen app trace) choices.Pull ns)

  -- what goes from the stores to some of their regions, by what each region makes
  module _ (to : ℕ → ℕ → Offer) (regions : StoreDef → List ℕ) (makes : ℕ → ℕ → Option Entry) (from : ℕ → List Choice)
      (is : (o i : ℕ) → entry (to o i) ≡ option_and_then (makes o) (region_in regions app o i))
      (firsts : (o : ℕ) (d : StoreDef) → slice_get app.stores.items o ≡ Some d → first_of (makes o) (regions d) ≡ first_of (chosen app trace) (from o)) where
    first_at : (o : ℕ) (found : Option StoreDef) → slice_get app.stores.items o ≡ found → o < length app.stores.items
        → first_of entry (all_at to regions app o) ≡ first_of (chosen app trace) (from o)
    first_at o None at low = elim ((slice_get_cases app.stores.items o).1) [
      | inl is ↦ absurd (let both : Some is.0 ≡ None = sym is.2 ∙ at in cc)
      | inr past ↦ absurd (let le = past.0 in omega arith)
    ]
    first_at o (Some d) at low =
        let gs : List ℕ = regions d in
        let same : regions_of regions app o ≡ gs = ap (λ (s : Option StoreDef). option_map_or regions s []) at in
        first_of-map entry (to o) (range_with_len 0 (length (regions_of regions app o)))
        ∙ ap (λ (xs : List ℕ). first_of (λ i. entry (to o i)) (range_with_len 0 (length xs))) same
        ∙ by_place (makes o) gs (λ i. entry (to o i))
        (λ i. is o i ∙ ap (λ (s : Option StoreDef). option_and_then (makes o) (option_and_then (λ x. slice_get (regions x) i) s)) at)
        ∙ firsts o d at

    first_each : (ns : List ℕ) → All (λ o. o < length app.stores.items) ns
        → first_of (λ o. first_of entry (all_at to regions app o)) ns ≡ first_of (λ o. first_of (chosen app trace) (from o)) ns
    first_each [] low = refl
    first_each (o ∷ ns) low =
        ap (λ (x : Option Entry). option_or x (first_of (λ o. first_of entry (all_at to regions app o)) ns)) (first_at o (slice_get app.stores.items o) refl (low 0 o (omega arith)))
        ∙ ap (option_or (first_of (chosen app trace) (from o))) (first_each ns (λ i d lt. low (suc i) d (omega (arith, lt))))

    first_to : first_of entry (all_to to regions app) ≡ first_of (chosen app trace) (flat_map from (range_with_len 0 (length app.stores.items)))
    first_to =
        let ns : List ℕ = range_with_len 0 (length app.stores.items) in
        first_of-flat_map entry (all_at to regions app) ns ∙ first_each ns (range_within (length app.stores.items))
        ∙ sym (first_of-flat_map (chosen app trace) from ns)

  first_caches : first_of entry (all_caches app) ≡ first_of (chosen app trace) (agains app trace)
  first_caches = first_to Again caches (again_made app trace) (agains_from app trace) (λ o i. again_of_place o (region_in caches app o i)) (again_from app trace)
    where
      again_of_place : (o : ℕ) (found : Option ℕ) → option_and_then (made_at app trace) (option_and_then (next_again app trace o) found) ≡ option_and_then (again_made app trace o) found
      again_of_place o None = refl
      again_of_place o (Some g) = refl

  module _ (sound : IsTrue (is_sound app)) (run : IsLegalTrace app trace) where
    first_routes : first_of entry (all_routes app) ≡ first_of (chosen app trace) (ships app trace)
    first_routes = first_to Ship replicas (next_shipped app trace) (ships_from app trace) (λ o i. refl) (first_from app sound trace run)

    -- the first of the choices makes what the first of the offers makes
    pub first_offered : first_of entry (all_offers app trace) ≡ first_made app trace
    first_offered =
        in_parts entry (all_goes app trace) (all_takes app) (all_pulls app) (all_routes app) (all_caches app)
        ∙ (λ i. option_or (first_goes i) (option_or (first_takes i) (option_or (first_pulls i) (option_or (first_routes i) (first_caches i)))))
        ∙ sym (in_parts (chosen app trace) (goes app trace) (takes app) (pulls app) (ships app trace) (agains app trace))
      where
        in_parts : {T : Type 0} (f : T → Option Entry) (ws bs cs ds es : List T)
            → first_of f (ws ++ (bs ++ (cs ++ (ds ++ es)))) ≡ option_or (first_of f ws) (option_or (first_of f bs) (option_or (first_of f cs) (option_or (first_of f ds) (first_of f es))))
        in_parts f ws bs cs ds es =
            first_of-append f ws (bs ++ (cs ++ (ds ++ es)))
            ∙ ap (option_or (first_of f ws))
            (first_of-append f bs (cs ++ (ds ++ es))
            ∙ ap (option_or (first_of f bs)) (first_of-append f cs (ds ++ es) ∙ ap (option_or (first_of f cs)) (first_of-append f ds es)))

  -- ---- who is in it

  pub region_within : (regions : StoreDef → List ℕ) (store place : ℕ) → IsSome (region_in regions app store place)
      → (store < length app.stores.items) × (place < length (regions_of regions app store))
  region_within regions store place some = by_store (slice_get app.stores.items store) refl some
    where
      by_region : (d : StoreDef) → slice_get app.stores.items store ≡ Some d → (g : Option ℕ) → slice_get (regions d) place ≡ g → IsSome g
          → (store < length app.stores.items) × (place < length (regions_of regions app store))
      by_region d at None there some = absurd (cc)
      by_region d at (Some g) there some = (
        slice_get_within app.stores.items store d at,
        subst (λ (s : Option StoreDef). place < length (option_map_or regions s [])) (sym at) (slice_get_within (regions d) place g there),
      )

      by_store : (found : Option StoreDef) → slice_get app.stores.items store ≡ found → IsSome (option_and_then (λ s. slice_get (regions s) place) found)
          → (store < length app.stores.items) × (place < length (regions_of regions app store))
      by_store None at some = absurd (cc)
      by_store (Some d) at some = by_region d at (slice_get (regions d) place) refl some

  pub born_within : (object at : ℕ) → IsSome (birth_in trace object at) → at < length (births (entries_on object trace))
  born_within object at some = elim ((slice_get_cases (births (entries_on object trace)) at).1) [
    | inl found ↦ slice_get_within (births (entries_on object trace)) at found.0 found.2
    | inr past ↦ absurd (let none : birth_in trace object at ≡ None = past.1 in cc (none, some))
  ]

  -- among those that go to these regions
  among : (to : ℕ → ℕ → Offer) (regions : StoreDef → List ℕ) (store place : ℕ) → IsSome (region_in regions app store place) → Contains (all_to to regions app) (to store place)
  among to regions store place is =
      let low = region_within regions store place is in
      let many : ℕ = length (regions_of regions app store) in
      given_by (all_at to regions app) (range_with_len 0 (length app.stores.items)) store (to store place) (in_range (length app.stores.items) store low.0)
      (in_map (to store) (range_with_len 0 many) place (in_range many place low.1))

  at_stores : (offer : Offer) → Contains (all_routes app ++ all_caches app) offer → Contains (all_offers app trace) offer
  at_stores offer is =
      Contains-append_right (all_goes app trace) (all_takes app ++ (all_pulls app ++ (all_routes app ++ all_caches app))) offer
      (Contains-append_right (all_takes app) (all_pulls app ++ (all_routes app ++ all_caches app)) offer
      (Contains-append_right (all_pulls app) (all_routes app ++ all_caches app) offer is))

  -- each offer of the trace
  pub offer_in : (offer : Offer) → IsOffer app trace offer → Contains (all_offers app trace) offer
  offer_in (Go object at) is =
      let many : ℕ = length (births (entries_on object trace)) in
      Contains-append_left (all_goes app trace) (all_takes app ++ (all_pulls app ++ (all_routes app ++ all_caches app))) (Go object at)
      (given_by (goes_at trace) (objects app) object (Go object at) (in_range (object_count app) object is.0)
      (in_map (Go object) (range_with_len 0 many) at (in_range many at (born_within object at is.1))))
  offer_in (Take service) is =
      Contains-append_right (all_goes app trace) (all_takes app ++ (all_pulls app ++ (all_routes app ++ all_caches app))) (Take service)
      (Contains-append_left (all_takes app) (all_pulls app ++ (all_routes app ++ all_caches app)) (Take service)
      (in_map Take (range_with_len 0 (length app.services.items)) service (in_range (length app.services.items) service is)))
  offer_in (Pull sub) is =
      Contains-append_right (all_goes app trace) (all_takes app ++ (all_pulls app ++ (all_routes app ++ all_caches app))) (Pull sub)
      (Contains-append_right (all_takes app) (all_pulls app ++ (all_routes app ++ all_caches app)) (Pull sub)
      (Contains-append_left (all_pulls app) (all_routes app ++ all_caches app) (Pull sub)
      (in_map Pull (range_with_len 0 (length app.subs.items)) sub (in_range (length app.subs.items) sub is))))
  offer_in (Ship store replica) is =
      at_stores (Ship store replica) (Contains-append_left (all_routes app) (all_caches app) (Ship store replica) (among Ship replicas store replica is))
  offer_in (Again store replica) is =
      at_stores (Again store replica) (Contains-append_right (all_routes app) (all_caches app) (Again store replica) (among Again caches store replica is))

  some_at : {X : Type 0} (xs : List X) (i : ℕ) → i < length xs → IsSome (slice_get xs i)
  some_at {X} xs i low = elim ((slice_get_cases xs i).1) [
    | inl found ↦ subst (λ (o : Option X). IsSome o) (sym found.2) refl
    | inr past ↦ absurd (let le = past.0 in omega arith)
  ]

  pub born_there : (object at : ℕ) → at < length (births (entries_on object trace)) → IsSome (birth_in trace object at)
  born_there object at low = some_at (births (entries_on object trace)) at low

  pub region_there : (regions : StoreDef → List ℕ) (store place : ℕ) → place < length (regions_of regions app store) → IsSome (region_in regions app store place)
  region_there regions store place low = by_store (slice_get app.stores.items store) low
    where
      by_store : (found : Option StoreDef) → place < length (option_map_or regions found [])
          → IsSome (option_and_then (λ s. slice_get (regions s) place) found)
      by_store None low = absurd (omega (arith, low))
      by_store (Some d) low = some_at (regions d) place low

  all_to_are : (to : ℕ → ℕ → Offer) (regions : StoreDef → List ℕ) → ((store place : ℕ) → IsSome (region_in regions app store place) → IsOffer app trace (to store place))
      → All (IsOffer app trace) (all_to to regions app)
  all_to_are to regions are =
      all_joined (IsOffer app trace) (all_at to regions app) (range_with_len 0 (length app.stores.items))
      (λ i d lt.
      let o : ℕ = get_or (range_with_len 0 (length app.stores.items)) i d in
      let many : ℕ = length (regions_of regions app o) in
      All-map (IsOffer app trace) (to o) (range_with_len 0 many)
      (All-weaker (λ (r : ℕ). r < many) (λ (r : ℕ). IsOffer app trace (to o r)) (λ r low. are o r (region_there regions o r low)) (range_with_len 0 many) (range_within many)))

  -- and no others
  pub all_are : All (IsOffer app trace) (all_offers app trace)
  all_are =
      All-append (IsOffer app trace) (all_goes app trace) (all_takes app ++ (all_pulls app ++ (all_routes app ++ all_caches app)))
      (all_joined (IsOffer app trace) (goes_at trace) (objects app)
      (All-weaker (λ (o : ℕ). o < object_count app) (λ (o : ℕ). All (IsOffer app trace) (goes_at trace o))
      (λ o low.
      let bs : List Entry = births (entries_on o trace) in
      All-map (IsOffer app trace) (Go o) (range_with_len 0 (length bs))
      (All-weaker (λ (i : ℕ). i < length bs) (λ (i : ℕ). IsOffer app trace (Go o i)) (λ i lt. (low, born_there o i lt)) (range_with_len 0 (length bs)) (range_within (length bs))))
      (objects app) (range_within (object_count app))))
      (All-append (IsOffer app trace) (all_takes app) (all_pulls app ++ (all_routes app ++ all_caches app))
      (All-map (IsOffer app trace) Take (range_with_len 0 (length app.services.items)) (range_within (length app.services.items)))
      (All-append (IsOffer app trace) (all_pulls app) (all_routes app ++ all_caches app)
      (All-map (IsOffer app trace) Pull (range_with_len 0 (length app.subs.items)) (range_within (length app.subs.items)))
      (All-append (IsOffer app trace) (all_routes app) (all_caches app)
      (all_to_are Ship replicas (λ store place some. some)) (all_to_are Again caches (λ store place some. some)))))

  -- ---- its order

  pub ascending : Ascends IsBefore (all_offers app trace)
  ascending =
      ascends-append IsBefore (all_goes app trace) (all_takes app ++ (all_pulls app ++ (all_routes app ++ all_caches app)))
      (ascends-lists IsBefore (goes_at trace) (λ o. ascends-range IsBefore (Go o) (λ i j lt. inr (refl, lt)) 0 (length (births (entries_on o trace))))
      (λ i j lt.
      all_made (Go i) (length (births (entries_on i trace))) (λ x. All (IsBefore x) (goes_at trace j))
      (λ a. all_made (Go j) (length (births (entries_on j trace))) (IsBefore (Go i a)) (λ b. inl lt)))
      0 (object_count app))
      (ascends-append IsBefore (all_takes app) (all_pulls app ++ (all_routes app ++ all_caches app))
      (ascends-range IsBefore Take (λ i j lt. lt) 0 (length app.services.items))
      (ascends-append IsBefore (all_pulls app) (all_routes app ++ all_caches app)
      (ascends-range IsBefore Pull (λ i j lt. lt) 0 (length app.subs.items))
      (ascends-append IsBefore (all_routes app) (all_caches app)
      (all_to_ascend Ship replicas (λ o i j lt. inr (refl, lt)) (λ i j a b lt. inl lt))
      (all_to_ascend Again caches (λ o i j lt. inr (refl, lt)) (λ i j a b lt. inl lt))
      (of_each Ship replicas (λ x. All (IsBefore x) (all_caches app)) (λ o a. of_each Again caches (IsBefore (Ship o a)) (λ x y. tt))))
      (all_made Pull (length app.subs.items) (λ x. All (IsBefore x) (all_routes app ++ all_caches app)) (λ a. of_stores (IsBefore (Pull a)) (λ x y. tt) (λ x y. tt))))
      (all_made Take (length app.services.items) (λ x. All (IsBefore x) (all_pulls app ++ (all_routes app ++ all_caches app)))
      (λ a.
      All-append (IsBefore (Take a)) (all_pulls app) (all_routes app ++ all_caches app) (all_made Pull (length app.subs.items) (IsBefore (Take a)) (λ b. tt))
      (of_stores (IsBefore (Take a)) (λ x y. tt) (λ x y. tt)))))
      (all_joined (λ x. All (IsBefore x) (all_takes app ++ (all_pulls app ++ (all_routes app ++ all_caches app)))) (goes_at trace) (objects app)
      (λ i d low.
      let o : ℕ = get_or (objects app) i d in
      all_made (Go o) (length (births (entries_on o trace))) (λ x. All (IsBefore x) (all_takes app ++ (all_pulls app ++ (all_routes app ++ all_caches app))))
      (λ a.
      All-append (IsBefore (Go o a)) (all_takes app) (all_pulls app ++ (all_routes app ++ all_caches app)) (all_made Take (length app.services.items) (IsBefore (Go o a)) (λ b. tt))
      (All-append (IsBefore (Go o a)) (all_pulls app) (all_routes app ++ all_caches app) (all_made Pull (length app.subs.items) (IsBefore (Go o a)) (λ b. tt))
      (of_stores (IsBefore (Go o a)) (λ x y. tt) (λ x y. tt))))))
    where
      -- all items of a range
      all_made : (f : ℕ → Offer) (n : ℕ) (P : Offer → Type 0) → ((i : ℕ) → P (f i)) → All P (map f (range_with_len 0 n))
      all_made f n P each = All-map P f (range_with_len 0 n) (λ i d low. each (get_or (range_with_len 0 n) i d))

      -- all that go to these regions
      of_each : (to : ℕ → ℕ → Offer) (regions : StoreDef → List ℕ) (P : Offer → Type 0) → ((store place : ℕ) → P (to store place)) → All P (all_to to regions app)
      of_each to regions P each =
          all_joined P (all_at to regions app) (range_with_len 0 (length app.stores.items))
          (λ i d low.
          let o : ℕ = get_or (range_with_len 0 (length app.stores.items)) i d in all_made (to o) (length (regions_of regions app o)) P (each o))

      of_stores : (P : Offer → Type 0) → ((store replica : ℕ) → P (Ship store replica)) → ((store replica : ℕ) → P (Again store replica)) → All P (all_routes app ++ all_caches app)
      of_stores P routes again = All-append P (all_routes app) (all_caches app) (of_each Ship replicas P routes) (of_each Again caches P again)

      all_to_ascend : (to : ℕ → ℕ → Offer) (regions : StoreDef → List ℕ) → ((o i j : ℕ) → i < j → IsBefore (to o i) (to o j))
          → ((i j a b : ℕ) → i < j → IsBefore (to i a) (to j b)) → Ascends IsBefore (all_to to regions app)
      all_to_ascend to regions within across =
          ascends-lists IsBefore (all_at to regions app) (λ o. ascends-range IsBefore (to o) (λ i j lt. within o i j lt) 0 (length (regions_of regions app o)))
          (λ i j lt.
          all_made (to i) (length (regions_of regions app i)) (λ x. All (IsBefore x) (all_at to regions app j))
          (λ a. all_made (to j) (length (regions_of regions app j)) (IsBefore (to i a)) (λ b. across i j a b lt)))
          0 (length app.stores.items)

-- no two come before each other
below_one_way : (a b x y : ℕ) → IsBelow a b x y → IsBelow x y a b → ⊥
below_one_way a b x y (inl one) (inl two) = omega (arith, one, two)
below_one_way a b x y (inl one) (inr two) = omega (arith, one, two.0)
below_one_way a b x y (inr one) (inl two) = omega (arith, one.0, two)
below_one_way a b x y (inr one) (inr two) = omega (arith, one.1, two.1)

pub one_way : (a b : Offer) → IsBefore a b → IsBefore b a → ⊥
one_way (Go a b) (Go x y) one two = below_one_way a b x y one two
one_way (Go a b) (Take x) one two = two
one_way (Go a b) (Pull x) one two = two
one_way (Go a b) (Ship x y) one two = two
one_way (Go a b) (Again x y) one two = two
one_way (Take a) (Go x y) one two = one
one_way (Take a) (Take x) one two = omega (arith, one, two)
one_way (Take a) (Pull x) one two = two
one_way (Take a) (Ship x y) one two = two
one_way (Take a) (Again x y) one two = two
one_way (Pull a) (Go x y) one two = one
one_way (Pull a) (Take x) one two = one
one_way (Pull a) (Pull x) one two = omega (arith, one, two)
one_way (Pull a) (Ship x y) one two = two
one_way (Pull a) (Again x y) one two = two
one_way (Ship a b) (Go x y) one two = one
one_way (Ship a b) (Take x) one two = one
one_way (Ship a b) (Pull x) one two = one
one_way (Ship a b) (Ship x y) one two = below_one_way a b x y one two
one_way (Ship a b) (Again x y) one two = two
one_way (Again a b) (Go x y) one two = one
one_way (Again a b) (Take x) one two = one
one_way (Again a b) (Pull x) one two = one
one_way (Again a b) (Ship x y) one two = one
one_way (Again a b) (Again x y) one two = below_one_way a b x y one two
