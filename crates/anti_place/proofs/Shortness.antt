-- The handlers of a sound application are few, and their bodies are short.
use Rattle.std.proofs.Common.{◌≡◌, ℕ, ◌<◌, ◌^◌, All, IsTrue, List, length, get_or, sym, ap, ◌∙◌, subst, arith}
use Rattle.anti_app.specs.declared.app.App.{App}
use Rattle.anti_app.specs.declared.app.HandlerDef.{HandlerDef}
use Rattle.anti_app.specs.declared.app.ServiceDef.{ServiceDef}
use Rattle.anti_app.specs.Sound.{is_sound}
use Rattle.anti_app.proofs.SoundLemmas.{SoundService, app_known}
use Rattle.anti_place.specs.inner.Told.{IsShort}

-- a service by its number, and its handlers
module _ (app : App) (sound : IsTrue (is_sound app)) (services : List ServiceDef) (all : services ≡ app.services.items)
    (i : ℕ) (service : ServiceDef) (within : i < length services) (is : service ≡ get_or services i service)
    (handlers : List HandlerDef) (its : handlers ≡ service.handlers.items) where
  known : SoundService (length app.regions.items) app.stores.items app.services.items service
  known =
      let here : i < length app.services.items = subst (λ (those : List ServiceDef). i < length those) all within in
      subst (SoundService (length app.regions.items) app.stores.items app.services.items)
      (sym (is ∙ ap (λ (those : List ServiceDef). get_or those i service) all)) ((app_known app sound).services i service here)

  pub few_handlers : length handlers < 2 ^ 32
  few_handlers = let few = known.few in let same = ap (λ (those : List HandlerDef). length those) its in omega arith

  pub short_handlers : All IsShort handlers
  short_handlers = subst (All IsShort) (sym its) (λ k d at. let few = (known.handlers k d at).body.few in omega arith)
