-- A sound application can be run.
use Rattle.std.proofs.lemmas.List.{length-map}
use Rattle.std.proofs.Common.{◌≡◌, ℕ, ◌≤◌, ◌^◌, List, length, slice_get, Option, Some, None, IsTrue, subst, refl, arith}
use Rattle.std.specs.List.{All}
use Rattle.std.specs.Option.{option_and_then, option_map_or}
use Rattle.std.proofs.lemmas.Option.{slice_get_within, get_or_from_slice_get}
use Rattle.anti_ids.specs.declared.limits.TheConstants.{MOST_LINES}
use Rattle.anti_lang.specs.Bodies.{block_of}
use Rattle.anti_lang.specs.Program.{End}
use Rattle.anti_lang.specs.Spans.{spans_of}
use Rattle.anti_app.specs.declared.app.App.{App}
use Rattle.anti_app.specs.declared.app.HandlerDef.{HandlerDef}
use Rattle.anti_app.specs.declared.app.ServiceDef.{ServiceDef}
use Rattle.anti_app.specs.declared.app.StoreDef.{StoreDef}
use Rattle.anti_app.specs.Sound.{is_sound}
use Rattle.anti_app.proofs.SoundLemmas.{SoundHandler, SoundService, app_known}
use Rattle.anti_app.specs.Objects.{store_names}
use Rattle.anti_app.specs.Running.{CanRun}

-- what is found in a list is as all that it holds
pub found_in : {T : Type 0} (P : T → Type 0) (xs : List T) (i : ℕ) (x : T) → All P xs → slice_get xs i ≡ Some x → P x
found_in P xs i x all found = subst P (get_or_from_slice_get xs i x x found) (all i x (slice_get_within xs i x found))

in_handler : (stores : List StoreDef) (all_services : List ServiceDef) (region : ℕ) (handlers : List HandlerDef) (i : ℕ) (found : Option HandlerDef) → slice_get handlers i ≡ found
    → All (SoundHandler stores all_services region) handlers → spans_of (option_map_or (λ h. block_of h.body) found End) ≤ MOST_LINES
in_handler stores all_services region handlers i None e all = omega arith
in_handler stores all_services region handlers i (Some h) e all = (found_in (SoundHandler stores all_services region) handlers i h all e).spans

in_service : (regions : ℕ) (stores : List StoreDef) (all_services : List ServiceDef) (services : List ServiceDef) (i handler : ℕ) (found : Option ServiceDef) → slice_get services i ≡ found
    → All (SoundService regions stores all_services) services → spans_of (option_map_or (λ h. block_of h.body) (option_and_then (λ s. slice_get s.handlers.items handler) found) End) ≤ MOST_LINES
in_service regions stores all_services services i handler None e all = omega arith
in_service regions stores all_services services i handler (Some s) e all =
    let sound = found_in (SoundService regions stores all_services) services i s all e in
    in_handler stores all_services s.region s.handlers.items handler (slice_get s.handlers.items handler) refl sound.handlers

pub can_run : (app : App) → IsTrue (is_sound app) → CanRun app
can_run app sound =
    let known = app_known app sound in
    record {
      objects = omega (arith, known.few_stores, known.few_services);
      spans = λ service handler.
          in_service (length app.regions.items) app.stores.items app.services.items app.services.items service handler (slice_get app.services.items service) refl known.services;
    }

-- the numbers of the stores of an application that can be run fit
pub names_fit : (app : App) → CanRun app → length (store_names app) ≤ 2 ^ 32
names_fit app runs =
    let count : length (store_names app) ≡ length app.stores.items = length-map app.stores.items (λ (s : StoreDef). s.name) in
    omega (arith, count, runs.objects)
