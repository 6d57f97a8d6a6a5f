-- An application with other choices in the place of its own.
use Rattle.std.proofs.Common.{◌≡◌, ℕ, true, List, [], ◌∷◌, length, refl, sym, subst}
use Rattle.std.specs.Prelude.{IsTrue}
use Rattle.std.specs.List.{list_all}
use Rattle.std.proofs.lemmas.Bool.{and_from, and_parts}
use Rattle.anti_ids.specs.List.{Listed}
use Rattle.anti_app.specs.declared.app.App.{App}
use Rattle.anti_app.specs.declared.app.Choice.{Choice}
use Rattle.anti_app.specs.declared.app.Choice.TheVariants.{Take, Repost, Pull, Repull, Ship, Again, Go, Finish}
use Rattle.anti_app.specs.Sound.{are_sound_choices, are_sound_numbers, are_sound_regions, are_sound_requests, are_sound_services, are_sound_stores, are_sound_subs, is_sound, is_sound_choice}
use Rattle.anti_adversary.specs.Runs.{with_choices}

-- whether a choice is one of an application does not hang on the choices that it states
choice_of : (app : App) (choices : Listed Choice) (choice : Choice) → is_sound_choice app choice ≡ true
    → is_sound_choice (with_choices choices app) choice ≡ true
unfolding is_sound_choice
choice_of app choices (Take service nth) sound = sound
choice_of app choices (Repost service number) sound = sound
choice_of app choices (Pull sub) sound = sound
choice_of app choices (Repull sub version) sound = sound
choice_of app choices (Ship store region version part) sound = sound
choice_of app choices (Again store region version part) sound = sound
choice_of app choices (Go object place) sound = sound
choice_of app choices Finish sound = sound

each_of : (app : App) (choices : Listed Choice) (some : List Choice) → list_all (is_sound_choice app) some ≡ true
    → list_all (is_sound_choice (with_choices choices app)) some ≡ true
each_of app choices [] sound = refl
each_of app choices (choice ∷ some) sound =
    let parts = and_parts (is_sound_choice app choice) (list_all (is_sound_choice app) some) sound in
    and_from _ _ (choice_of app choices choice parts.0) (each_of app choices some parts.1)

-- it is as sound as they are
sound_with : (app : App) (choices : Listed Choice) → IsTrue (is_sound app) → are_sound_choices app choices.items ≡ true
    → IsTrue (is_sound (with_choices choices app))
sound_with app choices sound are =
    let regions : ℕ = length app.regions.items in
    let one = and_parts (are_sound_regions app.regions.items) _ sound in
    let two = and_parts (are_sound_stores regions app.stores.items) _ one.1 in
    let three = and_parts (are_sound_services regions app.stores.items app.services.items) _ two.1 in
    let four = and_parts (are_sound_subs app.stores.items app.services.items app.subs.items) _ three.1 in
    let five = and_parts (are_sound_requests app.services.items app.requests.items) _ four.1 in
    let six = and_parts (are_sound_choices app app.choices.items) (are_sound_numbers app) five.1 in
    let few = and_parts _ _ are in
    and_from _ _ one.0
    (and_from _ _ two.0
    (and_from _ _ three.0 (and_from _ _ four.0 (and_from _ _ five.0 (and_from _ _ (and_from _ _ few.0 (each_of app choices choices.items few.1)) six.1)))))

-- its own choices in their place leave it as it is
pub sound_back : (app : App) (own : Listed Choice) → own ≡ app.choices → IsTrue (is_sound app) → IsTrue (is_sound (with_choices own app))
sound_back app own is sound = subst (λ (choices : Listed Choice). IsTrue (is_sound (with_choices choices app))) (sym is) sound

-- what may be stated may be put there
pub sound_put : (app : App) (choices now : Listed Choice) → now ≡ choices → IsTrue (is_sound app) → true ≡ are_sound_choices app choices.items
    → IsTrue (is_sound (with_choices now app))
sound_put app choices now is sound are =
    subst (λ (cs : Listed Choice). IsTrue (is_sound (with_choices cs app))) (sym is) (sound_with app choices sound (sym are))
