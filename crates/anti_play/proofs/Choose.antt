-- What is known of a sound choice, and what it asks for.
use Rattle.std.proofs.Common.{◌≡◌, ℕ, ◌<◌, List, length, refl, sym, subst, ap, ◌∙◌}
use Rattle.std.specs.Prelude.{Bool, IsTrue, OnOk, Option, Some, Result, Ok, Err, option_and_then, option_map, slice_get, unwrap_or}
use Rattle.anti_ids.specs.declared.memory.NoMemory.{NoMemory}
use Rattle.anti_kind.specs.declared.asking.Asking.{Asking}
use Rattle.anti_kind.specs.declared.call.Call.{Call}
use Rattle.anti_kind.specs.declared.call.Call.TheVariants as calls
use Rattle.anti_kind.specs.declared.entry.Entry.{Entry}
use Rattle.anti_app.specs.declared.app.App.{App}
use Rattle.anti_app.specs.declared.app.SubDef.{SubDef}
use Rattle.anti_app.specs.declared.app.Choice.{Choice}
use Rattle.anti_app.specs.declared.app.Choice.TheVariants as choices
use Rattle.anti_app.specs.Objects.{inbox_number}
use Rattle.anti_app.specs.Sound.{is_sound_choice}
use Rattle.anti_app.specs.Subs.{position_on}
use Rattle.anti_app.proofs.SoundLemmas.{choice_known, SoundChoice}
use Rattle.anti_trace.specs.declared.processes.AtObject.{AtObject}
use Rattle.anti_play.specs.declared.choice_call.ChoiceCall.{ChoiceCall}
use Rattle.anti_play.specs.declared.choice_call.ChoiceCall.TheVariants.{Bears, Carries}
use Rattle.anti_play.specs.declared.world.World.{World}
use Rattle.anti_play.specs.Schedule.{bearing, carrying, chosen, made_at, pulling, pulling_at}
use Rattle.anti_play.specs.inner.Choosing.{AsksFor, IsAskedAs}
use Rattle.anti_play.specs.inner.Standing.{Chose, StopsBy}
use Rattle.anti_play.proofs.Tried.{chose_of}

-- what a sound choice is known to be
choice_is : (app : App) (choice built : Choice) → choice ≡ built → IsTrue (is_sound_choice app choice) → SoundChoice app built
choice_is app choice built is sound = subst (SoundChoice app) is (choice_known app choice sound)

-- a take and a repost name a service that is there
pub take_named : (app : App) (choice : Choice) (service nth : ℕ) → choice ≡ choices.Take service nth
    → IsTrue (is_sound_choice app choice) → service < length app.services.items
take_named app choice service nth is sound = (choice_is app choice (choices.Take service nth) is sound).0

pub repost_named : (app : App) (choice : Choice) (service number : ℕ) → choice ≡ choices.Repost service number
    → IsTrue (is_sound_choice app choice) → service < length app.services.items
repost_named app choice service number is sound = (choice_is app choice (choices.Repost service number) is sound).0

-- a pull and a repull name a subscription that is there
pub pull_named : (app : App) (choice : Choice) (sub : ℕ) → choice ≡ choices.Pull sub
    → IsTrue (is_sound_choice app choice) → sub < length app.subs.items
pull_named app choice sub is sound = choice_is app choice (choices.Pull sub) is sound

pub repull_named : (app : App) (choice : Choice) (sub version : ℕ) → choice ≡ choices.Repull sub version
    → IsTrue (is_sound_choice app choice) → sub < length app.subs.items
repull_named app choice sub version is sound = (choice_is app choice (choices.Repull sub version) is sound).0

-- a subscription that is there asks at its store, by its position
pulling_is : (app : App) (trace : List Entry) (call : ℕ → Call) (number position : ℕ) (sub : SubDef)
    → slice_get app.subs.items number ≡ Some sub → position ≡ position_on app sub.store number
    → pulling_at app trace call number ≡ Some (bearing trace sub.store (call position))
pulling_is app trace call number position sub there at =
    ap (option_map (pulling app trace call number)) there ∙ ap (λ (n : ℕ). Some (bearing trace sub.store (call n))) (sym at)

pub pulled_as : (app : App) (trace : List Entry) (call : ℕ → Call) (number position : ℕ) (sub : SubDef)
    → slice_get app.subs.items number ≡ Some sub → position ≡ position_on app sub.store number
    → made_at app trace (bearing trace sub.store (call position)) ≡ option_and_then (made_at app trace) (pulling_at app trace call number)
pulled_as app trace call number position sub there at =
    sym (ap (option_and_then (made_at app trace)) (pulling_is app trace call number position sub there at))

-- ---- what each choice asks for

-- what is said of a choice is said of the one that it is
pub asks_as : (app : App) (choice same : Choice) (call : ChoiceCall) → choice ≡ same → AsksFor app same call → AsksFor app choice call
asks_as app choice same call is asks = subst (λ (x : Choice). AsksFor app x call) (sym is) asks

pub take_asks : (app : App) (service nth object : ℕ) → object ≡ inbox_number app service
    → AsksFor app (choices.Take service nth) (Bears object (calls.Take nth))
take_asks app service nth object at = (
  refl,
  record {
    asks = λ trace. ap (λ (o : ℕ). Some (bearing trace o (calls.Take nth))) (sym at);
    stops_none = λ trace all. tt;
  },
)

pub repost_asks : (app : App) (service number object : ℕ) → object ≡ inbox_number app service
    → AsksFor app (choices.Repost service number) (Carries object (calls.Repost number))
repost_asks app service number object at = (
  refl,
  record {
    asks = λ trace. ap (λ (o : ℕ). Some (carrying trace o (calls.Repost number))) (sym at);
    stops_none = λ trace all. tt;
  },
)

module _ (app : App) (number position : ℕ) (sub : SubDef) (there : slice_get app.subs.items number ≡ Some sub)
    (at : position ≡ position_on app sub.store number) where
  pub pull_asks : AsksFor app (choices.Pull number) (Bears sub.store (calls.Pull position))
  pull_asks = (
    refl,
    record { asks = λ trace. pulling_is app trace calls.Pull number position sub there at; stops_none = λ trace all. tt },
  )

  pub repull_asks : (version : ℕ) → AsksFor app (choices.Repull number version) (Bears sub.store (calls.Repull position version))
  repull_asks version = (
    refl,
    record {
      asks = λ trace. pulling_is app trace (λ (n : ℕ). calls.Repull n version) number position sub there at;
      stops_none = λ trace all. tt;
    },
  )

module _ (app : App) (store region version : ℕ) (part : Option ℕ) (number : ℕ) (given : number ≡ unwrap_or part 1) where
  pub ship_asks : AsksFor app (choices.Ship store region version part) (Carries store (calls.Ship region version number))
  ship_asks = (
    refl,
    record {
      asks = λ trace. ap (λ (n : ℕ). Some (carrying trace store (calls.Ship region version n))) (sym given);
      stops_none = λ trace all. tt;
    },
  )

  pub again_asks : AsksFor app (choices.Again store region version part) (Carries store (calls.Again region version number))
  again_asks = (
    refl,
    record {
      asks = λ trace. ap (λ (n : ℕ). Some (carrying trace store (calls.Again region version n))) (sym given);
      stops_none = λ trace all. tt;
    },
  )

-- ---- what comes of it

module _ (app : App) (choice : Choice) (asking : List Entry → Asking) (asked : IsAskedAs app choice asking) (trace : List Entry) where
  pub asked_made : (r : Result Bool NoMemory) (n : World) → Chose app trace (made_at app trace (asking trace)) r n → Chose app trace (chosen app trace choice) r n
  asked_made r n came =
      chose_of app trace (made_at app trace (asking trace)) (chosen app trace choice) r n
      (sym (ap (option_and_then (made_at app trace)) (asked.asks trace))) came

  pub asked_stops : (r : Result Bool NoMemory) (all : List AtObject) → OnOk r (StopsBy app trace choice all)
  asked_stops (Ok made) all = asked.stops_none trace all
  asked_stops (Err lost) all = tt
