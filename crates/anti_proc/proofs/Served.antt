-- The stores, the inboxes and the handlers that a body of a sound application names are there.
use Rattle.std.proofs.Common.{◌≡◌, ℕ, suc, ◌+◌, ◌-◌, ◌<◌, ◌≤◌, Bool, true, false, not, cond, ◌&&◌, ◌||◌, List, [], ◌∷◌, ◌++◌, length, map, slice_get, Option, Some, None, refl, sym, ap, ◌∙◌, subst, inl, inr, arith}
use Rattle.std.specs.List.{All, AllPairs, list_all, list_any}
use Rattle.std.specs.Option.{option_and_then, option_map_or}
use Rattle.std.specs.Str.{bytes_eq}
use Rattle.std.proofs.lemmas.Bool.{and_parts, and_from, or_cases, or_from, or_left, or_right}
use Rattle.std.proofs.lemmas.List.Elements.{All-head, All-tail}
use Rattle.std.proofs.lemmas.List.Folds.{list_all-append}
use Rattle.std.proofs.lemmas.Slice.Eq.{bytes_eq-Decides}
use Rattle.anti_ids.specs.Names.{is_name}
use Rattle.anti_kind.specs.Kinds.{facts_of}
use Rattle.anti_kind.specs.declared.store_kind.StoreKind.{StoreKind}
use Rattle.anti_lang.specs.Blocks.{lines_of, step_lines}
use Rattle.anti_lang.specs.Bodies.{block_of}
use Rattle.anti_lang.specs.Lines.{Line, OpenRepeat, OpenIf, Close}
use Rattle.anti_lang.specs.Program as program
use Rattle.anti_lang.specs.Program.{Step, Block}
use Rattle.anti_baggage.specs.Over.{are_distinct, are_names}
use Rattle.anti_app.specs.declared.app.App.{App}
use Rattle.anti_app.specs.declared.app.HandlerDef.{HandlerDef}
use Rattle.anti_app.specs.declared.app.ServiceDef.{ServiceDef}
use Rattle.anti_app.specs.declared.app.StoreDef.{StoreDef}
use Rattle.anti_app.specs.Sound.{fits_services, fits_stores, is_near, is_served, is_stored, serves}
use Rattle.anti_app.specs.Objects.{has_named, body_of, has_handler, inbox_of, store_names, store_number}
use Rattle.anti_app.specs.Places.{service_place, store_place}
use Rattle.anti_app.proofs.SoundLemmas.{SoundApp, SoundBody, SoundHandler, SoundService, SoundStore}
use Rattle.anti_app.specs.Numbers.{IsStore, service_at}
use Rattle.anti_proc.proofs.Keeping.{BlockFits, StepFits, plain_is_name}
use Rattle.anti_app.proofs.Runnable.{found_in}

-- ---- lists

all_true : {T : Type 0} (test : T → Bool) (xs : List T) → All (λ x. test x ≡ true) xs → list_all test xs ≡ true
all_true test [] all = refl
all_true test (x ∷ xs) all =
    and_from (test x) (list_all test xs) (All-head (λ y. test y ≡ true) x xs all) (all_true test xs (All-tail (λ y. test y ≡ true) x xs all))

-- the first of things that differ differs from the others, which differ from one another
pairs_head : {T : Type 0} (R : T → T → Type 0) (x : T) (xs : List T) → AllPairs R (x ∷ xs) → All (R x) xs
pairs_head R x xs pairs j d within = pairs 0 (suc j) d (omega arith) (omega arith)

pairs_tail : {T : Type 0} (R : T → T → Type 0) (x : T) (xs : List T) → AllPairs R (x ∷ xs) → AllPairs R xs
pairs_tail R x xs pairs i j d less within = pairs (suc i) (suc j) d (omega arith) (omega arith)

same_text : (a b : List ℕ) → bytes_eq a b ≡ true → a ≡ b
same_text a b same = (bytes_eq-Decides a b).0 same

-- ---- stores

below_or : (here : Bool) (m n : ℕ) (further : Bool) → (here || further) ≡ true → (further ≡ true → m < n) → cond (not here) (1 + m) 0 < suc n
below_or true m n further some later = omega arith
below_or false m n further some later = let less : m < n = later some in omega arith

stored_below : (stores : List StoreDef) (name : List ℕ) → is_stored stores name ≡ true → store_place stores name < length stores
stored_below [] name stored = absurd (cc)
stored_below (s ∷ ss) name stored = below_or (bytes_eq s.name name) (store_place ss name) (length ss) (is_stored ss name) stored (stored_below ss name)

its_name : (test : StoreKind → Bool) (name : List ℕ) (region : ℕ) (store : StoreDef) → serves test name region store ≡ true → bytes_eq store.name name ≡ true
unfolding serves
its_name test name region store there = (and_parts (bytes_eq store.name name) _ there).0

-- a store that is near is there
near_stored : (test : StoreKind → Bool) (stores : List StoreDef) (name : List ℕ) (region : ℕ) → is_near test stores name region ≡ true → is_stored stores name ≡ true
near_stored test [] name region near = near
near_stored test (s ∷ ss) name region near =
    elim (or_cases (serves test name region s) (is_near test ss name region) near) [
      | inl this ↦ or_left (bytes_eq s.name name) (is_stored ss name) (its_name test name region s this)
      | inr later ↦ or_right (bytes_eq s.name name) (is_stored ss name) (near_stored test ss name region later)
    ]

-- ---- services

abbrev Differ : ServiceDef → ServiceDef → Type 0
Differ a b = bytes_eq a.name b.name ≡ false

abbrev is_its : List ℕ → List ℕ → ServiceDef → Bool
is_its service handler s = bytes_eq s.name service && has_named handler s.handlers.items

none_served : (services : List ServiceDef) (first : ServiceDef) (service handler : List ℕ) → bytes_eq first.name service ≡ true → All (Differ first) services
    → is_served services service handler ≡ true → ⊥
none_served [] first service handler its differ served = cc
none_served (s ∷ ss) first service handler its differ served =
    elim (or_cases (is_its service handler s) (is_served ss service handler) served) [
      | inl this ↦ (
          let one : first.name ≡ service = same_text first.name service its in
          let other : s.name ≡ service = same_text s.name service (and_parts (bytes_eq s.name service) (has_named handler s.handlers.items) this).0 in
          let same : bytes_eq first.name s.name ≡ true = (bytes_eq-Decides first.name s.name).1 (one ∙ sym other) in
          let differs : bytes_eq first.name s.name ≡ false = All-head (Differ first) s ss differ in
          cc
          )
      | inr later ↦ none_served ss first service handler its (All-tail (Differ first) s ss differ) later
    ]

abbrev serves_at : List ServiceDef → List ℕ → ℕ → Bool
serves_at services handler at = option_map_or (λ s. has_named handler s.handlers.items) (slice_get services at) false

served_or : (here : Bool) (s : ServiceDef) (ss : List ServiceDef) (service handler : List ℕ) → bytes_eq s.name service ≡ here → All (Differ s) ss
    → ((here && has_named handler s.handlers.items) || is_served ss service handler) ≡ true
    → (is_served ss service handler ≡ true → serves_at ss handler (service_place ss service) ≡ true)
    → serves_at (s ∷ ss) handler (cond (not here) (1 + service_place ss service) 0) ≡ true
served_or true s ss service handler here differ served later =
    elim (or_cases (has_named handler s.handlers.items) (is_served ss service handler) served) [
      | inl this ↦ this
      | inr others ↦ absurd (none_served ss s service handler here differ others)
    ]
served_or false s ss service handler here differ served later =
    let behind : 1 + service_place ss service ≡ suc (service_place ss service) = omega arith in
    ap (serves_at (s ∷ ss) handler) behind ∙ later served

-- a service that is there and has the handler stands at its number
served_at : (services : List ServiceDef) (service handler : List ℕ) → AllPairs Differ services → is_served services service handler ≡ true
    → serves_at services handler (service_place services service) ≡ true
served_at [] service handler differ served = served
served_at (s ∷ ss) service handler differ served =
    served_or (bytes_eq s.name service) s ss service handler refl (pairs_head Differ s ss differ) served (served_at ss service handler (pairs_tail Differ s ss differ))

-- ---- bodies

module _ (app : App) where
  -- the inbox of a service that is there and has the handler
  abbrev pub HasInbox : ℕ → List ℕ → Type 0
  HasInbox o handler = (length app.stores.items ≤ o) × (has_handler app (service_at app o) handler ≡ true)

  its_service : (at : ℕ) (stores : ℕ) → (stores + at) - stores ≡ at
  its_service at stores = omega arith

  module _ (differ : AllPairs Differ app.services.items) (region : ℕ) where
    inbox_there : (service handler : List ℕ) → is_served app.services.items service handler ≡ true → HasInbox (inbox_of app service) handler
    inbox_there service handler served = (
      omega arith,
      subst (λ (at : ℕ). has_handler app at handler ≡ true) (sym (its_service (service_place app.services.items service) (length app.stores.items)))
          (served_at app.services.items service handler differ served),
    )

    store_there : (store : List ℕ) → is_stored app.stores.items store ≡ true → IsStore app (store_number app store)
    store_there store stored = stored_below app.stores.items store stored

    abbrev Fits : List Line → Type 0
    Fits lines = (list_all (fits_stores app.stores.items region) lines ≡ true) × (list_all (fits_services app.services.items) lines ≡ true)

    fits_apart : (xs ys : List Line) → Fits (xs ++ ys) → Fits xs × Fits ys
    fits_apart xs ys fits =
        let stores = and_parts _ _ (sym (list_all-append (fits_stores app.stores.items region) xs ys) ∙ fits.0) in
        let services = and_parts _ _ (sym (list_all-append (fits_services app.services.items) xs ys) ∙ fits.1) in
        ((stores.0, services.0), (stores.1, services.1))

    fits_behind : (x : Line) (xs : List Line) → Fits (x ∷ xs) → Fits xs
    fits_behind x xs fits = ((and_parts (fits_stores app.stores.items region x) _ fits.0).1, (and_parts (fits_services app.services.items x) _ fits.1).1)

    mutual
      unfolding fits_stores fits_services

      step_fit : (step : Step) → Fits (step_lines step) → StepFits app (IsStore app) HasInbox step
      step_fit (program.Write store key value variable untracked) fits = store_there store (and_parts (is_stored app.stores.items store) true fits.0).0
      step_fit (program.Read store key variable) fits =
          store_there store (near_stored (λ (kind : StoreKind). (facts_of kind).keyed) app.stores.items store region (and_parts (is_near (λ (kind : StoreKind). (facts_of kind).keyed) app.stores.items store region) true fits.0).0)
      step_fit (program.Scan store prefix variable) fits =
          store_there store (near_stored (λ (kind : StoreKind). (facts_of kind).scanned) app.stores.items store region (and_parts (is_near (λ (kind : StoreKind). (facts_of kind).scanned) app.stores.items store region) true fits.0).0)
      step_fit (program.Poll store key variable) fits =
          store_there store (near_stored (λ (kind : StoreKind). (facts_of kind).polled) app.stores.items store region (and_parts (is_near (λ (kind : StoreKind). (facts_of kind).polled) app.stores.items store region) true fits.0).0)
      step_fit (program.Call service handler value variable) fits =
          inbox_there service handler (and_parts (is_served app.services.items service handler) true fits.1).0
      step_fit (program.Send service handler value) fits = inbox_there service handler (and_parts (is_served app.services.items service handler) true fits.1).0
      step_fit (program.Repeat count block) fits =
          block_fit block (fits_apart (lines_of block) (Close ∷ []) (fits_behind (OpenRepeat count) (lines_of block ++ Close ∷ []) fits)).0
      step_fit (program.IfAbsent variable block) fits =
          block_fit block (fits_apart (lines_of block) (Close ∷ []) (fits_behind (OpenIf variable) (lines_of block ++ Close ∷ []) fits)).0
      step_fit _ fits = tt

      block_fit : (block : Block) → Fits (lines_of block) → BlockFits app (IsStore app) HasInbox block
      block_fit program.End fits = tt
      block_fit (program.Then first rest) fits =
          let apart = fits_apart (step_lines first) (lines_of rest) fits in (step_fit first apart.0, block_fit rest apart.1)

module _ (app : App) (known : SoundApp app) where
  abbrev There : Block → Type 0
  There block = BlockFits app (IsStore app) (HasInbox app) block

  sound_body : (region : ℕ) (body : Block) → SoundBody app.stores.items app.services.items region body → There body
  sound_body region body sound =
      block_fit app known.names region body
      (all_true (fits_stores app.stores.items region) (lines_of body) sound.fits, all_true (fits_services app.services.items) (lines_of body) sound.serves)

  handler_body : (region : ℕ) (handlers : List HandlerDef) (at : ℕ) (found : Option HandlerDef) → slice_get handlers at ≡ found
      → All (SoundHandler app.stores.items app.services.items region) handlers → There (option_map_or (λ h. block_of h.body) found program.End)
  handler_body region handlers at None is all = tt
  handler_body region handlers at (Some h) is all =
      sound_body region (block_of h.body) (found_in (SoundHandler app.stores.items app.services.items region) handlers at h all is).body

  service_body : (services : List ServiceDef) (at handler : ℕ) (found : Option ServiceDef) → slice_get services at ≡ found
      → All (SoundService (length app.regions.items) app.stores.items app.services.items) services
      → There (option_map_or (λ h. block_of h.body) (option_and_then (λ s. slice_get s.handlers.items handler) found) program.End)
  service_body services at handler None is all = tt
  service_body services at handler (Some s) is all =
      handler_body s.region s.handlers.items handler (slice_get s.handlers.items handler) refl
      (found_in (SoundService (length app.regions.items) app.stores.items app.services.items) services at s all is).handlers

  pub body_there : (service handler : ℕ) → There (body_of app service handler)
  body_there service handler = service_body app.services.items service handler (slice_get app.services.items service) refl known.services

  -- ---- the names of the stores

  all_names : (stores : List StoreDef) → All (SoundStore (length app.regions.items)) stores → list_all is_name (map (λ (s : StoreDef). s.name) stores) ≡ true
  all_names [] all = refl
  all_names (s ∷ ss) all =
      and_from (is_name s.name) (list_all is_name (map (λ (s : StoreDef). s.name) ss))
      (plain_is_name s.name (All-head (SoundStore (length app.regions.items)) s ss all).name) (all_names ss (All-tail (SoundStore (length app.regions.items)) s ss all))

  abbrev Apart : StoreDef → StoreDef → Type 0
  Apart a b = bytes_eq a.name b.name ≡ false

  none_same : (name : List ℕ) (stores : List StoreDef) → All (λ s. bytes_eq name s.name ≡ false) stores → list_any (bytes_eq name) (map (λ (s : StoreDef). s.name) stores) ≡ false
  none_same name [] all = refl
  none_same name (s ∷ ss) all =
      or_from (bytes_eq name s.name) (list_any (bytes_eq name) (map (λ (s : StoreDef). s.name) ss)) (All-head (λ (s : StoreDef). bytes_eq name s.name ≡ false) s ss all)
      (none_same name ss (All-tail (λ (s : StoreDef). bytes_eq name s.name ≡ false) s ss all))

  distinct_names : (stores : List StoreDef) → AllPairs Apart stores → are_distinct (map (λ (s : StoreDef). s.name) stores) ≡ true
  distinct_names [] pairs = refl
  distinct_names (s ∷ ss) pairs =
      and_from (not (list_any (bytes_eq s.name) (map (λ (s : StoreDef). s.name) ss))) (are_distinct (map (λ (s : StoreDef). s.name) ss))
      (ap not (none_same s.name ss (pairs_head Apart s ss pairs))) (distinct_names ss (pairs_tail Apart s ss pairs))

  -- each is a name, and no two are the same
  pub stores_named : are_names (store_names app) ≡ true
  stores_named =
      and_from (list_all is_name (store_names app)) (are_distinct (store_names app)) (all_names app.stores.items known.stores) (distinct_names app.stores.items known.store_names)
