-- What stands at the numbers of an application's objects, and that each of them is a start.
use Rattle.std.proofs.Common.{◌≡◌, ℕ, ◌+◌, ◌-◌, ◌<◌, ◌≤◌, List, [], ◌∷◌, Bool, true, false, cond, length, get_or, nat_eq, refl, sym, ap, ◌∙◌, subst, arith, inl, inr}
use Rattle.std.specs.Prelude.{All, IsTrue, Option, None, Some, option_map, slice_get, flat_map, map, filter}
use Rattle.std.specs.List.{Contains}
use Rattle.std.specs.Option.{option_and_then, option_map_or}
use Rattle.std.proofs.lemmas.Bool.{cases_lt, eqb-true, lt-ltb, le-ltb}
use Rattle.std.proofs.lemmas.Option.{slice_get_past, slice_get_cases, slice_get_within, get_or_from_slice_get}
use Rattle.std.proofs.lemmas.List.Elements.{All-nil, All-cons, All-head, All-append, All-filter, All-map, All-weaker, filter_passes}
use Rattle.std.proofs.lemmas.List.Sums.{sum_by-le}
use Rattle.std.proofs.lemmas.List.Concat.{length-flat_map, flat_map-cons}
use Rattle.anti_kind.specs.Kinds.{facts_of}
use Rattle.anti_kind.specs.declared.message.Message.{Message}
use Rattle.anti_kind.specs.declared.message.MessageKind.TheVariants as kinds
use Rattle.anti_kind.specs.declared.store_kind.Sub.{Sub}
use Rattle.anti_ids.specs.Names.{is_plain}
use Rattle.anti_kind.proofs.FactLaws.{keyed_or_pulled, room_fits, tries_fit}
use Rattle.anti_kind.specs.Caches.{store_with}
use Rattle.anti_kind.specs.Starts.{is_pulled, IsStart, IsStore}
use Rattle.anti_kind.specs.Objects.{Start}
use Rattle.anti_kind.specs.Fulls.{ShowsStay}
use Rattle.anti_kind.specs.Lones.{IsNumbered}
use Rattle.anti_kind.proofs.Caching.{shows_stay_by_kind}
use Rattle.anti_app.specs.declared.app.App.{App}
use Rattle.anti_app.specs.declared.app.StoreDef.{StoreDef}
use Rattle.anti_app.specs.declared.app.ServiceDef.{ServiceDef}
use Rattle.anti_app.specs.declared.app.HandlerDef.{HandlerDef}
use Rattle.anti_app.specs.declared.app.RequestDef.{RequestDef}
use Rattle.anti_app.specs.declared.app.SubDef.{SubDef}
use Rattle.anti_app.specs.declared.objects.ObjectAt.TheVariants.{Store, Inbox}
use Rattle.anti_app.specs.Objects.{inbox_at}
use Rattle.anti_app.specs.Subs.{subs_on, sub_of, is_on}
use Rattle.anti_app.specs.Sound.{is_sound}
use Rattle.anti_app.proofs.SoundLemmas.{SoundApp, SoundStore, SoundSub, app_known}
use Rattle.anti_object.specs.Starts.{start_at, start_of, store_start, room_of, tries_of, inbox_start, message_to, message_of}

-- ---- numbers

-- the start of a store's number, and of one past the stores
pub start_of-store : (app : App) (o : ℕ) → o < length app.stores.items → start_of app o ≡ option_map (store_start app o) (slice_get app.stores.items o)
start_of-store app o lt =
    ap (λ (t : Bool). option_and_then (start_at app) (cond t (Some (Store o)) (inbox_at (length app.services.items) (o - length app.stores.items))))
    (lt-ltb o (length app.stores.items) lt)

-- the start of a service's inbox, and of one past the services
at_inbox : (app : App) (service : ℕ)
    → option_and_then (start_at app) (inbox_at (length app.services.items) service) ≡ option_map (inbox_start app service) (slice_get app.services.items service)
at_inbox app service =
    elim (cases_lt service (length app.services.items)) [
      | inl low ↦ ap (λ (t : Bool). option_and_then (start_at app) (cond t (Some (Inbox service)) None)) (lt-ltb service (length app.services.items) low)
      | inr past ↦
          ap (λ (t : Bool). option_and_then (start_at app) (cond t (Some (Inbox service)) None)) (le-ltb service (length app.services.items) past)
          ∙ sym (ap (option_map (inbox_start app service)) (slice_get_past app.services.items service past))
    ]

pub start_of-inbox : (app : App) (o : ℕ) → length app.stores.items ≤ o
    → start_of app o ≡ option_map (inbox_start app (o - length app.stores.items)) (slice_get app.services.items (o - length app.stores.items))
start_of-inbox app o le =
    ap (λ (t : Bool). option_and_then (start_at app) (cond t (Some (Store o)) (inbox_at (length app.services.items) (o - length app.stores.items))))
    (le-ltb o (length app.stores.items) le)
    ∙ at_inbox app (o - length app.stores.items)

-- each number below the count of the objects has a start, and no other has one
pub start_there : (app : App) (o : ℕ) → o < length app.stores.items + length app.services.items → (start : Start) × (start_of app o ≡ Some start)
start_there app o lt =
    elim (cases_lt o (length app.stores.items)) [
      | inl low ↦ elim ((slice_get_cases app.stores.items o).1) [
        | inl found ↦ (store_start app o found.0, start_of-store app o low ∙ ap (option_map (store_start app o)) found.2)
        | inr past ↦ absurd (let h = past.0 in omega arith)
      ]
      | inr high ↦ elim ((slice_get_cases app.services.items (o - length app.stores.items)).1) [
        | inl found ↦ (inbox_start app (o - length app.stores.items) found.0, start_of-inbox app o high ∙ ap (option_map (inbox_start app (o - length app.stores.items))) found.2)
        | inr past ↦ absurd (let h = past.0 in omega arith)
      ]
    ]

pub start_past : (app : App) (o : ℕ) → length app.stores.items + length app.services.items ≤ o → start_of app o ≡ None
start_past app o le =
    start_of-inbox app o (omega arith)
    ∙ ap (option_map (inbox_start app (o - length app.stores.items))) (slice_get_past app.services.items (o - length app.stores.items) (omega arith))

pub start_known : (app : App) (o : ℕ) (start : Start) → start_of app o ≡ Some start → o < length app.stores.items + length app.services.items
start_known app o start there =
    elim (cases_lt o (length app.stores.items + length app.services.items)) [
      | inl low ↦ low
      | inr high ↦ absurd (let none : start_of app o ≡ None = start_past app o high in cc)
    ]

-- ---- stores

-- the region of a subscription has a replica of the store, and its channel is plain
abbrev IsHeld : StoreDef → Sub → Type 0
IsHeld s sub = Contains s.replicas.items sub.region × (is_plain sub.channel ≡ true)

store_is : (regions number : ℕ) (s : StoreDef) (subs : List Sub) → regions ≤ 8 → SoundStore regions s → All (IsHeld s) subs
    → IsStore (store_with s.kind number s.replicas.items subs (tries_of s) (room_of s))
store_is regions number s subs few sound held = record {
  some = sound.some;
  few = sound.few;
  below = λ k d l. let lower : get_or s.replicas.items k d < regions = sound.below k d l in omega arith;
  distinct = sound.distinct;
  subscribed = held;
  tries = tries_fit s.kind s.tries sound.tried sound.few_tries;
  room = room_fits s.kind s.room sound.some_room sound.few_room;
}

-- the store with a number
pub store_found : (app : App) (o : ℕ) (s : StoreDef) → IsTrue (is_sound app) → slice_get app.stores.items o ≡ Some s → SoundStore (length app.regions.items) s
store_found app o s sound found =
    let known : SoundApp app = app_known app sound in
    subst (SoundStore (length app.regions.items)) (get_or_from_slice_get app.stores.items o s s found) (known.stores o s (slice_get_within app.stores.items o s found))

no_elements : {T : Type 0} (xs : List T) → All (λ (x : T). ⊥) xs → xs ≡ []
no_elements [] none = refl
no_elements (x ∷ xs) none = absurd (All-head (λ y. ⊥) x xs none)

module _ (app : App) (o : ℕ) (s : StoreDef) (sound : IsTrue (is_sound app)) (found : slice_get app.stores.items o ≡ Some s) where
  -- what is known of a subscription on the store
  abbrev IsOn : SubDef → Type 0
  IsOn sub = IsHeld s (sub_of app sub) × (is_pulled s.kind ≡ true)

  on_known : (sub : SubDef) → SoundSub app.stores.items app.services.items sub → is_on o sub ≡ true → IsOn sub
  on_known sub known on =
      let both : Some known.store ≡ Some s = sym known.stored ∙ (ap (slice_get app.stores.items) (eqb-true sub.store o on) ∙ found) in
      let same : known.store ≡ s = cc in
      let region : (sub_of app sub).region ≡ known.service.region = ap (λ (x : Option ServiceDef). option_map_or (λ service. service.region) x 0) known.served in
      let near : Contains s.replicas.items known.service.region = subst (λ (x : StoreDef). Contains x.replicas.items known.service.region) same known.near in
      ((subst (Contains s.replicas.items) (sym region) near, known.channel), subst (λ (x : StoreDef). is_pulled x.kind ≡ true) same known.kind)

  all_on : All IsOn (filter (is_on o) app.subs.items)
  all_on = λ k d l.
      on_known (get_or (filter (is_on o) app.subs.items) k d)
      (All-filter (is_on o) (SoundSub app.stores.items app.services.items) app.subs.items (app_known app sound).subs k d l)
      (filter_passes (is_on o) app.subs.items k d l)

  all_held : All (IsHeld s) (subs_on app o)
  all_held =
      All-map (IsHeld s) (sub_of app) (filter (is_on o) app.subs.items)
      (All-weaker IsOn (λ (sub : SubDef). IsHeld s (sub_of app sub)) (λ sub on. on.0) (filter (is_on o) app.subs.items) all_on)

  pub store_sound : IsStart (store_start app o s)
  store_sound = store_is (length app.regions.items) o s (subs_on app o) (app_known app sound).few_regions (store_found app o s sound found) all_held

  -- a store that is read by its keys has no subscription
  pub none_on : (facts_of s.kind).keyed ≡ true → subs_on app o ≡ []
  none_on keyed =
      ap (map (sub_of app)) (no_elements (filter (is_on o) app.subs.items)
      (All-weaker IsOn (λ (sub : SubDef). ⊥) (λ sub on. keyed_or_pulled s.kind keyed on.1) (filter (is_on o) app.subs.items) all_on))

-- ---- inboxes

one_at_most : (here : Bool) (r : RequestDef) (handler : Option HandlerDef) → length (cond here (message_to r handler) []) ≤ 1
one_at_most true r None = omega arith
one_at_most true r (Some h) = omega arith
one_at_most false r handler = omega arith

is_asked : (here : Bool) (r : RequestDef) (handler : Option HandlerDef) → All (λ m. m.kind ≡ kinds.Request) (cond here (message_to r handler) [])
is_asked true r None = All-nil (λ (m : Message). m.kind ≡ kinds.Request)
is_asked true r (Some h) = All-cons (λ (m : Message). m.kind ≡ kinds.Request) _ [] refl (All-nil (λ (m : Message). m.kind ≡ kinds.Request))
is_asked false r handler = All-nil (λ (m : Message). m.kind ≡ kinds.Request)

all_asked : (s : ServiceDef) (service : ℕ) (rs : List RequestDef) → All (λ m. m.kind ≡ kinds.Request) (flat_map (message_of s service) rs)
all_asked s service [] = All-nil (λ (m : Message). m.kind ≡ kinds.Request)
all_asked s service (r ∷ rs) =
    subst (All (λ (m : Message). m.kind ≡ kinds.Request)) (sym (flat_map-cons (message_of s service) r rs))
    (All-append (λ (m : Message). m.kind ≡ kinds.Request) (message_of s service r) (flat_map (message_of s service) rs)
    (is_asked (nat_eq r.service service) r (slice_get s.handlers.items r.handler)) (all_asked s service rs))

pub inbox_sound : (app : App) (service : ℕ) (s : ServiceDef) → IsTrue (is_sound app) → IsStart (inbox_start app service s)
inbox_sound app service s sound =
    let known : SoundApp app = app_known app sound in
    let sum = length-flat_map (message_of s service) app.requests.items in
    let most = sum_by-le (λ (r : RequestDef). length (message_of s service r)) 1 app.requests.items
    (λ k d l. one_at_most (nat_eq (get_or app.requests.items k d).service service) (get_or app.requests.items k d) (slice_get s.handlers.items (get_or app.requests.items k d).handler)) in
    record { few = omega arith; asked = all_asked s service app.requests.items }

-- ---- all of them

-- what is true of the start of each store and of each inbox is true of all
each_start : (P : Start → Type 0) (app : App) (o : ℕ) (start : Start) → start_of app o ≡ Some start
    → ((s : StoreDef) → slice_get app.stores.items o ≡ Some s → P (store_start app o s)) → ((service : ℕ) (s : ServiceDef) → P (inbox_start app service s)) → P start
each_start P app o start there stores inboxes =
    elim (cases_lt o (length app.stores.items)) [
      | inl low ↦ of_store (slice_get app.stores.items o) refl (sym (start_of-store app o low) ∙ there)
      | inr high ↦ of_inbox (slice_get app.services.items (o - length app.stores.items)) (sym (start_of-inbox app o high) ∙ there)
    ]
  where
    of_store : (found : Option StoreDef) → slice_get app.stores.items o ≡ found → option_map (store_start app o) found ≡ Some start → P start
    of_store None at is = absurd (cc)
    of_store (Some s) at is = let same : store_start app o s ≡ start = cc in subst P same (stores s at)

    of_inbox : (found : Option ServiceDef) → option_map (inbox_start app (o - length app.stores.items)) found ≡ Some start → P start
    of_inbox None is = absurd (cc)
    of_inbox (Some s) is = let same : inbox_start app (o - length app.stores.items) s ≡ start = cc in subst P same (inboxes (o - length app.stores.items) s)

-- each object of a sound application starts as an object may
pub start_sound : (app : App) (o : ℕ) (start : Start) → IsTrue (is_sound app) → start_of app o ≡ Some start → IsStart start
start_sound app o start sound there = each_start IsStart app o start there (λ s at. store_sound app o s sound at) (λ service s. inbox_sound app service s sound)

-- and what its regions show stays
pub start_stays : (app : App) (o : ℕ) (start : Start) → start_of app o ≡ Some start → ShowsStay start
start_stays app o start there = each_start ShowsStay app o start there (λ s at. shows_stay_by_kind (store_with s.kind o s.replicas.items (subs_on app o) (tries_of s) (room_of s)) refl) (λ service s. tt)

-- and a store has the number of its object
pub start_numbered : (app : App) (o : ℕ) (start : Start) → start_of app o ≡ Some start → IsNumbered start o
start_numbered app o start there = each_start (λ x. IsNumbered x o) app o start there (λ s at. refl) (λ service s. tt)
