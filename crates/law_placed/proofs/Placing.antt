-- In an application that is placed no body has a fault, and in one that is sound `stop` stands well in each.
use Rattle.std.proofs.Common.{◌≡◌, ℕ, zero, suc, ◌+◌, Bool, true, false, List, [], ◌∷◌, IsTrue, refl, subst, arith}
use Rattle.std.specs.Prelude.{Option, Some, None, length, slice_get}
use Rattle.std.specs.List.{All}
use Rattle.std.specs.Option.{option_and_then, option_map_or}
use Rattle.anti_lang.specs.Bodies.{block_of}
use Rattle.anti_lang.specs.Program.{Block, End}
use Rattle.anti_app.specs.declared.app.App.{App}
use Rattle.anti_app.specs.declared.app.HandlerDef.{HandlerDef}
use Rattle.anti_app.specs.declared.app.ServiceDef.{ServiceDef}
use Rattle.anti_app.specs.Objects.{body_of}
use Rattle.anti_app.specs.Sound.{is_sound}
use Rattle.anti_app.proofs.Runnable.{found_in}
use Rattle.anti_app.proofs.SoundLemmas.{SoundHandler, SoundService, app_known}
use Rattle.anti_place.specs.declared.fault.Fault.{Fault}
use Rattle.anti_place.specs.declared.placement.Placement.{Placement}
use Rattle.anti_place.specs.declared.placement.Placement.TheVariants.{Yes}
use Rattle.anti_place.specs.Paths.{first_fault}
use Rattle.anti_place.specs.Placements.{handlers_from, is_called, is_named, placement, placement_of, services_from}
use Rattle.law_placed.proofs.Standing.{stands, stops_well}

-- ---- faults

none_here : (service handler : ℕ) (fault : Option Fault) (further : Placement) → placement_of service handler fault further ≡ Yes
    → (fault ≡ None) × (further ≡ Yes)
none_here service handler None further is = (refl, is)
none_here service handler (Some fault) further is = absurd (cc)

-- the end of an empty body is no fault, for no rows are left
end_fine : (called named : Bool) → first_fault called named End ≡ None
end_fine true named = refl
end_fine false named = refl

module _ (app : App) where
  abbrev its_fault : ℕ → ℕ → Block → Option Fault
  its_fault service handler body = first_fault (is_called app service handler) (is_named app service handler) body

  abbrev pub HasNoFault : ℕ → ℕ → Block → Type 0
  HasNoFault service handler body = its_fault service handler body ≡ None

  -- neither the first of some handlers has one, nor the others
  first_and_others : (service n : ℕ) (h : HandlerDef) (hs : List HandlerDef) (further : Placement)
      → handlers_from app service n (h ∷ hs) further ≡ Yes
      → HasNoFault service n (block_of h.body) × (handlers_from app service (n + 1) hs further ≡ Yes)
  first_and_others service n h hs further is =
      none_here service n (its_fault service n (block_of h.body)) (handlers_from app service (n + 1) hs further) is

  further_fine : (service n : ℕ) (handlers : List HandlerDef) (further : Placement) → handlers_from app service n handlers further ≡ Yes
      → further ≡ Yes
  further_fine service n [] further is = is
  further_fine service n (h ∷ hs) further is = further_fine service (n + 1) hs further (first_and_others service n h hs further is).1

  -- the handler at a place, where the first one has the number n
  handler_fine : (service n : ℕ) (handlers : List HandlerDef) (further : Placement) → handlers_from app service n handlers further ≡ Yes
      → (k : ℕ) (h : HandlerDef) → slice_get handlers k ≡ Some h → (m : ℕ) → n + k ≡ m → HasNoFault service m (block_of h.body)
  handler_fine service n [] further is k h at m number = absurd (cc)
  handler_fine service n (x ∷ xs) further is zero h at m number =
      let one : x ≡ h = cc in
      let same : n ≡ m = omega (arith, number) in
      subst (λ (k : ℕ). HasNoFault service k (block_of h.body)) same
      (subst (λ (y : HandlerDef). HasNoFault service n (block_of y.body)) one (first_and_others service n x xs further is).0)
  handler_fine service n (x ∷ xs) further is (suc k) h at m number =
      handler_fine service (n + 1) xs further (first_and_others service n x xs further is).1 k h at m (omega (arith, number))

  -- the handlers of the service at a place
  abbrev AllFine : ℕ → ServiceDef → Type 0
  AllFine service s = (k : ℕ) (h : HandlerDef) → slice_get s.handlers.items k ≡ Some h → HasNoFault service k (block_of h.body)

  service_fine : (n : ℕ) (services : List ServiceDef) → services_from app n services ≡ Yes
      → (k : ℕ) (s : ServiceDef) → slice_get services k ≡ Some s → (m : ℕ) → n + k ≡ m → AllFine m s
  service_fine n [] is k s at m number = absurd (cc)
  service_fine n (x ∷ xs) is zero s at m number =
      let one : x ≡ s = cc in
      let same : n ≡ m = omega (arith, number) in
      let own : AllFine n x =
      λ k h found. handler_fine n 0 x.handlers.items (services_from app (n + 1) xs) is k h found k (omega arith) in
      subst (λ (k : ℕ). AllFine k s) same (subst (AllFine n) one own)
  service_fine n (x ∷ xs) is (suc k) s at m number =
      service_fine (n + 1) xs (further_fine n 0 x.handlers.items (services_from app (n + 1) xs) is) k s at m (omega (arith, number))

  -- No body has a fault, also that of a handler that is not there.
  pub body_fine : placement app ≡ Yes → (service handler : ℕ) → HasNoFault service handler (body_of app service handler)
  body_fine placed service handler = by_service (slice_get app.services.items service) refl
    where
      none_there : HasNoFault service handler End
      none_there = end_fine (is_called app service handler) (is_named app service handler)

      by_handler : (s : ServiceDef) → slice_get app.services.items service ≡ Some s
          → (found : Option HandlerDef) → slice_get s.handlers.items handler ≡ found → HasNoFault service handler (option_map_or (λ h. block_of h.body) found End)
      by_handler s there None at = none_there
      by_handler s there (Some h) at = service_fine 0 app.services.items placed service s there service (omega arith) handler h at

      by_service : (found : Option ServiceDef) → slice_get app.services.items service ≡ found
          → HasNoFault service handler (option_map_or (λ h. block_of h.body) (option_and_then (λ s. slice_get s.handlers.items handler) found) End)
      by_service None there = none_there
      by_service (Some s) there = by_handler s there (slice_get s.handlers.items handler) refl

-- ---- stops

module _ (app : App) (sound : IsTrue (is_sound app)) where
  abbrev SoundIn : ℕ → HandlerDef → Type 0
  SoundIn region h = SoundHandler app.stores.items app.services.items region h

  handler_stands : (region : ℕ) (handlers : List HandlerDef) (i : ℕ) (found : Option HandlerDef) → slice_get handlers i ≡ found
      → All (SoundIn region) handlers → stops_well (option_map_or (λ h. block_of h.body) found End) ≡ true
  handler_stands region handlers i None at all = refl
  handler_stands region handlers i (Some h) at all = stands (block_of h.body) (found_in (SoundIn region) handlers i h all at).body.blocks

  -- In each body `stop` stands well.
  pub body_stands : (service handler : ℕ) → stops_well (body_of app service handler) ≡ true
  body_stands service handler = by_service (slice_get app.services.items service) refl
    where
      by_service : (found : Option ServiceDef) → slice_get app.services.items service ≡ found
          → stops_well (option_map_or (λ h. block_of h.body) (option_and_then (λ s. slice_get s.handlers.items handler) found) End) ≡ true
      by_service None at = refl
      by_service (Some s) at =
          let Known : ServiceDef → Type 0 = SoundService (length app.regions.items) app.stores.items app.services.items in
          let known : Known s = found_in Known app.services.items service s (app_known app sound).services at in
          handler_stands s.region s.handlers.items handler (slice_get s.handlers.items handler) refl known.handlers
