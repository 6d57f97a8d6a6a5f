-- What it is to be a choice of an application, by the kinds of choices.
use Rattle.std.proofs.Common.{◌≡◌, ℕ, ◌+◌, ◌-◌, ◌<◌, ◌≤◌, Bool, true, false, ◌&&◌, length, refl, sym, ap, ◌∙◌, arith}
use Rattle.std.specs.Prelude.{Option, nat_lt}
use Rattle.std.proofs.lemmas.Bool.{le-ltb, lt-ltb, ltb-false, ltb-true}
use Rattle.anti_app.specs.declared.app.App.{App}
use Rattle.anti_app.specs.declared.app.Choice.{Choice}
use Rattle.anti_app.specs.declared.app.Choice.TheVariants.{Take, Repost, Pull, Repull, Ship, Again, Go, Finish}
use Rattle.anti_app.specs.Sound.{is_countable, is_shipment, is_sound_choice}

abbrev pub numbered : ℕ → ℕ → ℕ → Bool
numbered things thing number = nat_lt thing things && is_countable number

module _ (app : App) (choice : Choice) (found : Bool) where
  pub take_sound : (things service nth : ℕ) → choice ≡ Take service nth → things ≡ length app.services.items → found ≡ numbered things service nth
      → found ≡ is_sound_choice app choice
  unfolding is_sound_choice
  take_sound things service nth is count tested = tested ∙ ap (λ (n : ℕ). numbered n service nth) count ∙ sym (ap (is_sound_choice app) is)

  pub repost_sound : (things service number : ℕ) → choice ≡ Repost service number → things ≡ length app.services.items
      → found ≡ numbered things service number → found ≡ is_sound_choice app choice
  unfolding is_sound_choice
  repost_sound things service number is count tested = tested ∙ ap (λ (n : ℕ). numbered n service number) count ∙ sym (ap (is_sound_choice app) is)

  pub pull_sound : (things sub : ℕ) → choice ≡ Pull sub → things ≡ length app.subs.items → found ≡ nat_lt sub things
      → found ≡ is_sound_choice app choice
  unfolding is_sound_choice
  pull_sound things sub is count tested = tested ∙ ap (λ (n : ℕ). nat_lt sub n) count ∙ sym (ap (is_sound_choice app) is)

  pub repull_sound : (things sub version : ℕ) → choice ≡ Repull sub version → things ≡ length app.subs.items → found ≡ numbered things sub version
      → found ≡ is_sound_choice app choice
  unfolding is_sound_choice
  repull_sound things sub version is count tested = tested ∙ ap (λ (n : ℕ). numbered n sub version) count ∙ sym (ap (is_sound_choice app) is)

  pub ship_sound : (store region version : ℕ) (part : Option ℕ) → choice ≡ Ship store region version part
      → found ≡ is_shipment (length app.regions.items) (length app.stores.items) store region version part → found ≡ is_sound_choice app choice
  unfolding is_sound_choice
  ship_sound store region version part is tested = tested ∙ sym (ap (is_sound_choice app) is)

  pub again_sound : (store region version : ℕ) (part : Option ℕ) → choice ≡ Again store region version part
      → found ≡ is_shipment (length app.regions.items) (length app.stores.items) store region version part → found ≡ is_sound_choice app choice
  unfolding is_sound_choice
  again_sound store region version part is tested = tested ∙ sym (ap (is_sound_choice app) is)

  pub go_sound : (object place : ℕ) → choice ≡ Go object place
      → found ≡ (nat_lt object (length app.stores.items + length app.services.items) && is_countable place) → found ≡ is_sound_choice app choice
  unfolding is_sound_choice
  go_sound object place is tested = tested ∙ sym (ap (is_sound_choice app) is)

pub finish_sound : (app : App) (choice : Choice) → choice ≡ Finish → true ≡ is_sound_choice app choice
unfolding is_sound_choice
finish_sound app choice is = sym (ap (is_sound_choice app) is)

-- ---- objects

pub store_there : (object stores services : ℕ) → object < stores → true ≡ nat_lt object (stores + services)
store_there object stores services low = sym (lt-ltb object (stores + services) (omega arith))

pub inbox_there : (object stores services : ℕ) → stores ≤ object → nat_lt (object - stores) services ≡ nat_lt object (stores + services)
inbox_there object stores services past = go (nat_lt (object - stores) services) refl
  where
    go : (t : Bool) → nat_lt (object - stores) services ≡ t → nat_lt (object - stores) services ≡ nat_lt object (stores + services)
    go true is =
        let low : object - stores < services = ltb-true (object - stores) services is in
        is ∙ sym (lt-ltb object (stores + services) (omega arith))
    go false is =
        let high : services ≤ object - stores = ltb-false (object - stores) services is in
        is ∙ sym (le-ltb object (stores + services) (omega arith))
