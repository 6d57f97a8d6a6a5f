-- Where no choice that is offered makes an entry, nothing is left to make: each next call is blocked, each delivery is taken, no subscription
-- can pull, each write is everywhere, and no cache is behind but for want of room.
use Rattle.std.proofs.Common.{◌≡◌, ℕ, ◌-◌, ◌<◌, ◌≤◌, ◌⊎◌, Bool, true, false, cond, ◌&&◌, List, [], ◌∷◌, ◌++◌, length, map, get_or, refl, sym, ap, ◌∙◌, subst, inl, inr, eq-eqb, arith}
use Rattle.std.specs.Prelude.{All, Contains, IsTrue, Option, None, Some, find, flat_map, option_and_then, option_map, slice_get, nat_le}
use Rattle.std.specs.List.{range_with_len}
use Rattle.std.specs.Option.{option_map_or}
use Rattle.std.proofs.lemmas.Bool.{and_cases, cases_lt, le-leb, true≢false}
use Rattle.std.proofs.lemmas.List.{get_or-map, length-map}
use Rattle.std.proofs.lemmas.Option.{slice_get_within}
use Rattle.std.proofs.lemmas.List.Elements.{All-contains, All-contains_itself, Contains-append_left, Contains-append_right}
use Rattle.std.proofs.lemmas.List.FromFn.{get_or-range_with_len, length-range_with_len}
use Rattle.anti_kind.specs.declared.actor.Actor.TheVariants.{Process as Acting}
use Rattle.anti_kind.specs.declared.actor.Birth.{Birth}
use Rattle.anti_kind.specs.declared.asking.Asking.{Asking}
use Rattle.anti_kind.specs.declared.call.Call.TheVariants as calls
use Rattle.anti_kind.specs.declared.entry.Entry.{Entry}
use Rattle.anti_kind.specs.declared.message.Message.{Message}
use Rattle.anti_kind.specs.declared.row.Row.{Row}
use Rattle.anti_kind.specs.Caches.{Pair, cache, is_behind, stale, stale_in}
use Rattle.anti_kind.specs.Inbox.{free}
use Rattle.anti_kind.specs.Kinds.{facts_of}
use Rattle.anti_kind.specs.Objects.{Start, store, inbox, ready, fits, need}
use Rattle.anti_kind.specs.Store.{Store, can_ship}
use Rattle.anti_kind.specs.Stored.{parts, rows, shows_of}
use Rattle.anti_kind.proofs.Finding.{filter_contains, in_flat_map, none_passes}
use Rattle.anti_kind.proofs.Staleness.{stale_is_ready}
use Rattle.anti_app.specs.declared.app.App.{App}
use Rattle.anti_app.specs.declared.app.Choice.{Choice}
use Rattle.anti_app.specs.declared.app.Choice.TheVariants.{Pull, Ship}
use Rattle.anti_app.specs.declared.app.StoreDef.{StoreDef}
use Rattle.anti_app.specs.declared.app.ServiceDef.{ServiceDef}
use Rattle.anti_app.specs.declared.app.SubDef.{SubDef}
use Rattle.anti_app.specs.Objects.{inbox_number, object_count}
use Rattle.anti_app.specs.Sound.{is_sound}
use Rattle.anti_object.specs.Starts.{start_of, store_start, inbox_start}
use Rattle.anti_object.proofs.Starts.{start_of-store, start_of-inbox, start_known, start_sound}
use Rattle.anti_proc.specs.Births.{births, is_birth}
use Rattle.anti_proc.specs.Meaning.{process_after}
use Rattle.anti_proc.specs.Trees.{want_of}
use Rattle.anti_trace.specs.Traces.{entries_by, entries_on, is_by, is_on}
use Rattle.anti_trace.specs.Legal.{IsBirthOf, IsLegalTrace, IsLife}
use Rattle.anti_trace.proofs.Puts.{same_actor_true}
use Rattle.anti_trace.proofs.AreBorn.{is_birth_itself}
use Rattle.anti_play.specs.Complete.{IsComplete}
use Rattle.anti_play.specs.Over.{IsBlocked, IsEverywhere, IsOver, IsRefreshed}
use Rattle.anti_play.specs.Schedule.{again_of, agains, agains_at, agains_to, asked_by, bearing, carrying, chosen, go_of, goes, made, made_at, next_call, next_entry, objects, offers, pulling, pulling_at, pulls, ships, ships_at, ships_of, ships_to, take_of, takes}
use Rattle.anti_play.proofs.Arrived.{everywhere}
use Rattle.anti_play.proofs.MadeAt.{free_fits}

-- ---- what stands in a list

pub in_map : {X Y : Type 0} (f : X → Y) (xs : List X) (x : X) → Contains xs x → Contains (map f xs) (f x)
in_map f xs x at = (at.0, omega (arith, at.1, length-map xs f), get_or-map f xs at.0 x (f x) at.1 ∙ ap f at.2)

pub in_range : (n k : ℕ) → k < n → Contains (range_with_len 0 n) k
in_range n k low = (k, omega (arith, length-range_with_len 0 n), get_or-range_with_len 0 n k k low ∙ omega arith)

-- what an item gives is in the whole
pub given_by : {X Y : Type 0} (f : X → List Y) (xs : List X) (x : X) (y : Y) → Contains xs x → Contains (f x) y → Contains (flat_map f xs) y
given_by f xs x y at there = in_flat_map f xs at.0 x y at.1 (subst (λ z. Contains (f z) y) (sym at.2) there)

-- ---- what makes no entry

cond_none : (b : Bool) (e : Entry) → cond b (Some e) None ≡ None → b ≡ false
cond_none true e none = absurd (cc)
cond_none false e none = refl

not_both : (a b : Bool) → (a ≡ false) ⊎ (b ≡ false) → b ≡ true → a ≡ false
not_both a b (inl off) on = off
not_both a b (inr off) on = absurd (true≢false (sym on ∙ off))

not_second : (a b : Bool) → (a ≡ false) ⊎ (b ≡ false) → a ≡ true → b ≡ false
not_second a b (inl off) on = absurd (true≢false (sym on ∙ off))
not_second a b (inr off) on = off

-- ---- where a store stands

not_inbox : (app : App) (s : Store) (service : ℕ) (found : Option ServiceDef) → option_map (inbox_start app service) found ≡ Some (store s) → ⊥
not_inbox app s service None is = absurd (cc)
not_inbox app s service (Some d) is = absurd (cc)

-- in front of the inboxes
pub store_in_front : (app : App) (o : ℕ) (s : Store) → start_of app o ≡ Some (store s) → o < length app.stores.items
store_in_front app o s there = elim (cases_lt o (length app.stores.items)) [
  | inl low ↦ low
  | inr high ↦
      let service : ℕ = o - length app.stores.items in
      absurd (not_inbox app s service (slice_get app.services.items service) (sym (start_of-inbox app o high) ∙ there))
]

-- ---- a run of which nothing that is offered makes an entry

module _ (app : App) (trace : List Entry) where
  -- is blocked
  none_blocked : (q : Asking) → made_at app trace q ≡ None → IsBlocked app trace q
  none_blocked q none start there =
      let h : List Entry = entries_on q.object trace in
      and_cases (ready start h q.call) (fits start h q.call)
      (cond_none (ready start h q.call && fits start h q.call) (next_entry start h q)
      (sym (ap (option_and_then (λ (x : Start). made x h q)) there) ∙ none))

  module _ (sound : IsTrue (is_sound app)) (run : IsLegalTrace app trace) where
    -- and is not ready, where it needs no units
    none_ready : (q : Asking) (start : Start) → start_of app q.object ≡ Some start → need start (entries_on q.object trace) q.call ≡ 0
        → made_at app trace q ≡ None → ready start (entries_on q.object trace) q.call ≡ false
    none_ready q start there free_call none =
        let h : List Entry = entries_on q.object trace in
        not_both (ready start h q.call) (fits start h q.call) (none_blocked q none start there)
        (free_fits start h q.call (start_sound app q.object start sound there) (run.histories q.object start there) free_call)

    module _ (complete : IsComplete app trace) where
      -- ---- processes

      -- what a process did begins with the entry that started it
      module _ (b : Birth) (q : Asking) (next : next_call app trace b ≡ Some q) (birth : Entry) (later : List Entry) (did : entries_by (Acting b) trace ≡ birth ∷ later) where
        its : IsBirthOf b birth
        its = (subst (IsLife app b) did (run.actors (Acting b))).0

        birth_there : Contains trace birth × (is_by (Acting b) birth ≡ true)
        birth_there = (filter_contains (is_by (Acting b)) trace birth).0 (subst (λ (es : List Entry). Contains es birth) (sym did) (0, omega arith, refl))

        is_its : is_birth birth ≡ true
        is_its = is_birth_itself birth (sym (same_actor_true (Acting b) birth.actor birth_there.1) ∙ ap Acting (sym its.named))

        among_goes : Contains (goes app trace) (go_of birth)
        among_goes =
            let o : ℕ = birth.object in
            let known : o < object_count app = All-contains (λ (e : Entry). e.object < object_count app) trace birth run.there birth_there.0 in
            let here : Contains (entries_on o trace) birth = (filter_contains (is_on o) trace birth).1 (birth_there.0, eq-eqb o o refl) in
            let born : Contains (births (entries_on o trace)) birth = (filter_contains is_birth (entries_on o trace) birth).1 (here, is_its) in
            given_by (λ (o : ℕ). map go_of (births (entries_on o trace))) (objects app) o (go_of birth) (in_range (object_count app) o known)
            (in_map go_of (births (entries_on o trace)) birth born)

        next_none : made_at app trace q ≡ None
        next_none =
            let none : chosen app trace (go_of birth) ≡ None =
            All-contains (λ (c : Choice). chosen app trace c ≡ None) (offers app trace) (go_of birth) complete
            (Contains-append_left (goes app trace) (takes app ++ (pulls app ++ (ships app trace ++ agains app trace))) (go_of birth) among_goes) in
            sym (ap (λ (x : Birth). option_and_then (made_at app trace) (next_call app trace x)) its.named ∙ ap (option_and_then (made_at app trace)) next) ∙ none

      blocked : (b : Birth) (q : Asking) → next_call app trace b ≡ Some q → IsBlocked app trace q
      blocked b q next = none_blocked q (by_entries (entries_by (Acting b) trace) refl next)
        where
          by_entries : (es : List Entry) → entries_by (Acting b) trace ≡ es → asked_by trace b (want_of (process_after app es)) ≡ Some q → made_at app trace q ≡ None
          by_entries [] did asks = absurd (cc)
          by_entries (birth ∷ later) did asks = next_none b q next birth later did

      -- ---- deliveries

      take_none : (service : ℕ) → service < length app.services.items → made_at app trace (bearing trace (inbox_number app service) (calls.Take 1)) ≡ None
      take_none service known =
          All-contains (λ (c : Choice). chosen app trace c ≡ None) (offers app trace) (take_of service) complete
          (Contains-append_right (goes app trace) (takes app ++ (pulls app ++ (ships app trace ++ agains app trace))) (take_of service)
          (Contains-append_left (takes app) (pulls app ++ (ships app trace ++ agains app trace)) (take_of service)
          (in_map take_of (range_with_len 0 (length app.services.items)) service (in_range (length app.services.items) service known))))

      none_free : (ns : List ℕ) → (nat_le 1 1 && nat_le 1 (length ns)) ≡ false → ns ≡ []
      none_free [] off = refl
      none_free (n ∷ ns) off = absurd (true≢false (sym (le-leb 1 (length (n ∷ ns)) (omega arith)) ∙ off))

      module _ (o : ℕ) (requests : List Message) (there : start_of app o ≡ Some (inbox requests)) where
        -- an inbox stands behind the stores
        not_store : (found : Option StoreDef) → option_map (store_start app o) found ≡ Some (inbox requests) → ⊥
        not_store None is = absurd (cc)
        not_store (Some s) is = absurd (cc)

        behind : length app.stores.items ≤ o
        behind = elim (cases_lt o (length app.stores.items)) [
          | inl low ↦ absurd (not_store (slice_get app.stores.items o) (sym (start_of-store app o low) ∙ there))
          | inr high ↦ high
        ]

        all_taken : free requests (entries_on o trace) ≡ []
        all_taken =
            let known : o < object_count app = start_known app o (inbox requests) there in
            let back = behind in
            let service : ℕ = o - length app.stores.items in
            let number : inbox_number app service ≡ o = omega arith in
            let none : made_at app trace (bearing trace o (calls.Take 1)) ≡ None =
            subst (λ (n : ℕ). made_at app trace (bearing trace n (calls.Take 1)) ≡ None) number (take_none service (omega arith)) in
            none_free (free requests (entries_on o trace)) (none_ready (bearing trace o (calls.Take 1)) (inbox requests) there refl none)

      -- ---- pulls

      pull_none : (number : ℕ) → number < length app.subs.items → chosen app trace (Pull number) ≡ None
      pull_none number known =
          All-contains (λ (c : Choice). chosen app trace c ≡ None) (offers app trace) (Pull number) complete
          (Contains-append_right (goes app trace) (takes app ++ (pulls app ++ (ships app trace ++ agains app trace))) (Pull number)
          (Contains-append_right (takes app) (pulls app ++ (ships app trace ++ agains app trace)) (Pull number)
          (Contains-append_left (pulls app) (ships app trace ++ agains app trace) (Pull number)
          (in_map Pull (range_with_len 0 (length app.subs.items)) number (in_range (length app.subs.items) number known)))))

      -- only a subscription that is there asks
      asking_known : (number : ℕ) (q : Asking) (found : Option SubDef) → slice_get app.subs.items number ≡ found
          → option_map (pulling app trace calls.Pull number) found ≡ Some q → number < length app.subs.items
      asking_known number q None at asks = absurd (cc)
      asking_known number q (Some sub) at asks = slice_get_within app.subs.items number sub at

      no_pull : (number : ℕ) (q : Asking) → pulling_at app trace calls.Pull number ≡ Some q → IsBlocked app trace q
      no_pull number q asks =
          none_blocked q
          (sym (ap (option_and_then (made_at app trace)) asks) ∙ pull_none number (asking_known number q (slice_get app.subs.items number) refl asks))

      -- ---- shipments

      module _ (o : ℕ) (s : Store) (there : start_of app o ≡ Some (store s)) where
        in_front : o < length app.stores.items
        in_front = store_in_front app o s there

        module _ (region : ℕ) (replica : Contains s.regions region) (r : Row) (written : Contains (rows (entries_on o trace)) r) (p : ℕ) (part : Contains (parts s.kind r) p) where
          abbrev h : List Entry
          h = entries_on o trace

          abbrev ship : Choice
          ship = Ship o region r.version (Some p)

          among_ships : Contains (ships app trace) ship
          among_ships =
              let of_row : Contains (ships_of s.kind o region r) ship = in_map (λ (part : ℕ). Ship o region r.version (Some part)) (parts s.kind r) p part in
              let to_region : Contains (ships_to s.kind o h region) ship = given_by (ships_of s.kind o region) (rows h) r ship written of_row in
              let at_store : Contains (ships_at o h (store s)) ship = given_by (ships_to s.kind o h) s.regions region ship replica to_region in
              given_by (λ (n : ℕ). option_map_or (ships_at n (entries_on n trace)) (start_of app n) []) (range_with_len 0 (length app.stores.items)) o ship
              (in_range (length app.stores.items) o in_front)
              (subst (λ (start : Option Start). Contains (option_map_or (ships_at o h) start []) ship) (sym there) at_store)

          not_ready : can_ship s h region r.version p ≡ false
          not_ready =
              let q : Asking = carrying trace o (calls.Ship region r.version p) in
              let none : made_at app trace q ≡ None =
              All-contains (λ (c : Choice). chosen app trace c ≡ None) (offers app trace) ship complete
              (Contains-append_right (goes app trace) (takes app ++ (pulls app ++ (ships app trace ++ agains app trace))) ship
              (Contains-append_right (takes app) (pulls app ++ (ships app trace ++ agains app trace)) ship
              (Contains-append_right (pulls app) (ships app trace ++ agains app trace) ship
              (Contains-append_left (ships app trace) (agains app trace) ship among_ships)))) in
              none_ready q (store s) there refl none

        all_arrived : IsEverywhere s (entries_on o trace)
        all_arrived = everywhere s (entries_on o trace) (run.histories o (store s) there) not_ready

      -- ---- caches

      module _ (o : ℕ) (s : Store) (there : start_of app o ≡ Some (store s)) (cached : (facts_of s.kind).cached ≡ true) where
        abbrev own : List Entry
        own = entries_on o trace

        module _ (region : ℕ) (replica : Contains s.regions region) where
          -- what comes again next is offered, and ready: so it does not fit
          next_unfit : (version : ℕ) → stale (store s) own region ≡ Some version → fits (store s) own (calls.Again region version 1) ≡ false
          next_unfit version next =
              let c : Choice = again_of o region version in
              let q : Asking = carrying trace o (calls.Again region version 1) in
              let to_region : Contains (agains_to o own (store s) region) c =
              subst (λ (v : Option ℕ). Contains (option_map_or (λ n. again_of o region n ∷ []) v []) c) (sym next) (0, omega arith, refl) in
              let at_store : Contains (agains_at o own (store s)) c = given_by (agains_to o own (store s)) s.regions region c replica to_region in
              let among : Contains (agains app trace) c =
              given_by (λ (n : ℕ). option_map_or (agains_at n (entries_on n trace)) (start_of app n) []) (range_with_len 0 (length app.stores.items)) o c
              (in_range (length app.stores.items) o (store_in_front app o s there))
              (subst (λ (start : Option Start). Contains (option_map_or (agains_at o own) start []) c) (sym there) at_store) in
              let none : made_at app trace q ≡ None =
              All-contains (λ (x : Choice). chosen app trace x ≡ None) (offers app trace) c complete
              (Contains-append_right (goes app trace) (takes app ++ (pulls app ++ (ships app trace ++ agains app trace))) c
              (Contains-append_right (takes app) (pulls app ++ (ships app trace ++ agains app trace)) c
              (Contains-append_right (pulls app) (ships app trace ++ agains app trace) c
              (Contains-append_right (ships app trace) (agains app trace) c among)))) in
              not_second (ready (store s) own q.call) (fits (store s) own q.call) (none_blocked q none (store s) there)
              (stale_is_ready (store s) own region version next)

          -- Whatever comes again needs the same units.
          none_fits : (found : Option Pair) → find (is_behind s.kind own region) (cache s.kind s.room own region) ≡ found
              → All (λ pair. is_behind s.kind own region pair ≡ true → fits (store s) own (calls.Again region (shows_of s.kind own region pair.0) 1) ≡ false) (cache s.kind s.room own region)
          none_fits None is = λ i pair low behind. absurd (true≢false (sym behind ∙ none_passes (is_behind s.kind own region) (cache s.kind s.room own region) is i pair low))
          none_fits (Some first) is = λ i pair low behind.
              next_unfit (shows_of s.kind own region first.0)
              (ap (λ (b : Bool). cond b (stale_in s own region) None) cached ∙ ap (option_map (λ (x : Pair). shows_of s.kind own region x.0)) is)

        all_refreshed : IsRefreshed s own
        all_refreshed = λ i g low.
            let region : ℕ = get_or s.regions i g in
            none_fits region (All-contains_itself s.regions i g low) (find (is_behind s.kind own region) (cache s.kind s.room own region)) refl

      pub is_over : IsOver app trace
      is_over = record { processes = blocked; deliveries = all_taken; pulls = no_pull; shipments = all_arrived; caches = all_refreshed }
