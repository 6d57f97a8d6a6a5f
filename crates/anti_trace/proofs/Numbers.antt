-- What the object of a number is.
use Rattle.std.proofs.Common.{◌≡◌, ℕ, ◌<◌, Bool, true, false, cond, length, refl, arith}
use Rattle.std.specs.Prelude.{None, Some, nat_lt}
use Rattle.std.proofs.lemmas.Bool.{ltb-false, ltb-true}
use Rattle.anti_app.specs.declared.app.App.{App}
use Rattle.anti_app.specs.declared.objects.ObjectAt.TheVariants.{Store, Inbox}
use Rattle.anti_app.specs.Numbers.{IsInbox, IsStore, service_at}
use Rattle.anti_app.specs.Objects.{inbox_at, is_store, object_at}

module _ (app : App) (o : ℕ) where
  by_service : (n : ℕ) (within : Bool) → cond within (Some (Inbox (service_at app o))) None ≡ Some (Store n) → ⊥
  by_service n true is = absurd (cc)
  by_service n false is = absurd (cc)

  -- a store has its own number
  pub store_is : (n : ℕ) → object_at app o ≡ Some (Store n) → (n ≡ o) × IsStore app o
  store_is n at = by_test (is_store app o) refl at
    where
      by_test : (t : Bool) → is_store app o ≡ t → cond t (Some (Store o)) (inbox_at (length app.services.items) (service_at app o)) ≡ Some (Store n) → (n ≡ o) × IsStore app o
      by_test true low is = (cc, ltb-true o _ low)
      by_test false low is = absurd (by_service n (nat_lt (service_at app o) (length app.services.items)) is)

  -- an inbox is that of its service
  pub inbox_is : (service : ℕ) → object_at app o ≡ Some (Inbox service) → (service ≡ service_at app o) × IsInbox app o
  inbox_is service at = by_test (is_store app o) refl at
    where
      of_service : is_store app o ≡ false → (t : Bool) → nat_lt (service_at app o) (length app.services.items) ≡ t → cond t (Some (Inbox (service_at app o))) None ≡ Some (Inbox service)
          → (service ≡ service_at app o) × IsInbox app o
      of_service high true low is =
          let past = ltb-false o _ high in
          let within : service_at app o < length app.services.items = ltb-true (service_at app o) (length app.services.items) low in
          (cc, (past, omega (arith, past)))
      of_service high false low is = absurd (cc)

      by_test : (t : Bool) → is_store app o ≡ t → cond t (Some (Store o)) (inbox_at (length app.services.items) (service_at app o)) ≡ Some (Inbox service)
          → (service ≡ service_at app o) × IsInbox app o
      by_test true low is = absurd (cc)
      by_test false high is = of_service high (nat_lt (service_at app o) (length app.services.items)) refl is
