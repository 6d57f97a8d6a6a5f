-- One choice more of a run, and all of them.
use Rattle.std.proofs.Common.{◌≡◌, ℕ, suc, ◌+◌, ◌<◌, ◌++◌, ◌∷◌, List, [], Bool, true, false, cond, length, take, get_or, refl, sym, ap, ◌∙◌, subst, arith}
use Rattle.std.specs.Prelude.{IsTrue, IfOk, Option, None, Some, Result, Ok, Err}
use Rattle.std.proofs.lemmas.List.{take_all, take_more, length-take-le}
use Rattle.std.specs.List.{AllPass}
use Rattle.std.proofs.lemmas.Bool.{and_parts}
use Rattle.std.proofs.lemmas.List.Sums.{AllPass-from_list_all}
use Rattle.anti_ids.specs.List.{Listed, plain}
use Rattle.anti_app.specs.declared.app.App.{App}
use Rattle.anti_app.specs.declared.app.Choice.{Choice}
use Rattle.anti_app.specs.declared.app.Choice.TheVariants.{Take, Repost, Pull, Repull, Ship, Again, Go, Finish}
use Rattle.anti_ids.specs.declared.memory.NoMemory.{NoMemory}
use Rattle.anti_kind.specs.declared.entry.Entry.{Entry}
use Rattle.anti_app.specs.Sound.{is_sound, is_sound_choice, are_sound_regions, are_sound_stores, are_sound_services, are_sound_subs, are_sound_requests, are_sound_choices}
use Rattle.anti_play.specs.declared.world.World.{World}
use Rattle.anti_trace.specs.Legal.{IsLegalTrace}
use Rattle.anti_trace.specs.declared.aftermath.Aftermath.{Aftermath}
use Rattle.anti_trace.specs.inner.Trails.{IsAftermathOf}
use Rattle.anti_play.specs.Schedule.{Run, chosen, played, run_from, stepped, trace_of, turned, waits_of}
use Rattle.anti_play.specs.inner.Standing.{Chose, WorldStands}
use Rattle.anti_play.specs.inner.Closing.{HasPlayed, Steps, run_until}

-- a choice other than `finish`
stepped_turned : (app : App) (run : Run) (number : ℕ) (choice : Choice) → (choice ≡ Finish → ⊥) → stepped app run number choice ≡ turned run number (chosen app run.trace choice)
stepped_turned app run number Finish other = absurd (other refl)
stepped_turned app run number (Take service nth) other = refl
stepped_turned app run number (Repost service n) other = refl
stepped_turned app run number (Pull sub) other = refl
stepped_turned app run number (Repull sub version) other = refl
stepped_turned app run number (Ship store region version part) other = refl
stepped_turned app run number (Again store region version part) other = refl
stepped_turned app run number (Go object place) other = refl

pub steps_chosen : (app : App) (run : Run) (number : ℕ) (choice : Choice) → (choice ≡ Finish → ⊥) → (r : Result Bool NoMemory) (w : World)
    → Chose app run.trace (chosen app run.trace choice) r w → IfOk r (λ made. Steps app run number choice made w)
steps_chosen app run number choice other r w chose = by_entry (chosen app run.trace choice) (stepped_turned app run number choice other) r chose
  where
    by_entry : (o : Option Entry) → stepped app run number choice ≡ turned run number o → (r : Result Bool NoMemory) → Chose app run.trace o r w → IfOk r (λ made. Steps app run number choice made w)
    by_entry None is (Ok made) came = record {
      world = subst (λ (x : Run). WorldStands app w x.trace) (sym is) came.1;
      waits_are = ap (λ (x : Run). x.waits) is ∙ ap (λ (b : Bool). cond b run.waits (run.waits ++ number ∷ [])) (sym came.0);
    }
    by_entry (Some e) is (Ok made) came = record {
      world = subst (λ (x : Run). WorldStands app w x.trace) (sym is) came.1;
      waits_are = ap (λ (x : Run). x.waits) is ∙ ap (λ (b : Bool). cond b run.waits (run.waits ++ number ∷ [])) (sym came.0);
    }
    by_entry None is (Err lost) came = tt
    by_entry (Some e) is (Err lost) came = tt

run_from-push : (app : App) (run : Run) (number : ℕ) (cs : List Choice) (c : Choice)
    → run_from app run number (cs ++ c ∷ [])
    ≡ stepped app (run_from app run number cs) (number + length cs) c
run_from-push app run number [] c =
    let same : number ≡ number + length {A = Choice} [] = omega arith in
    ap (λ (n : ℕ). stepped app run n c) same
run_from-push app run number (d ∷ cs) c =
    let next : Run = stepped app run number d in
    let same : suc number + length cs ≡ number + length (d ∷ cs) = omega arith in
    run_from-push app next (suc number) cs c
    ∙ ap (λ (n : ℕ). stepped app (run_from app next (suc number) cs) n c) same

-- each choice of a sound application passes the test
sound_choices : (app : App) → IsTrue (is_sound app) → AllPass (is_sound_choice app) app.choices.items
sound_choices app sound =
    let regions = length app.regions.items in
    let one = and_parts (are_sound_regions app.regions.items) _ sound in
    let two = and_parts (are_sound_stores regions app.stores.items) _ one.1 in
    let three = and_parts (are_sound_services regions app.stores.items app.services.items) _ two.1 in
    let four = and_parts (are_sound_subs app.stores.items app.services.items app.subs.items) _ three.1 in
    let five = and_parts (are_sound_requests app.services.items app.requests.items) _ four.1 in
    let six = and_parts (are_sound_choices app app.choices.items) _ five.1 in
    AllPass-from_list_all (is_sound_choice app) app.choices.items ((and_parts _ _ six.0).1)

module _ (app : App) (i : ℕ) (c d : Choice) (lt : i < length app.choices.items) (at : c ≡ get_or app.choices.items i d) where
  abbrev before : Run
  before = run_until app i

  run_more : run_until app (i + 1) ≡ stepped app before (i + 1) c
  run_more =
      let more : take (i + 1) app.choices.items ≡ take i app.choices.items ++ c ∷ [] =
      take_more app.choices.items i d lt ∙ ap (λ (x : Choice). take i app.choices.items ++ x ∷ []) (sym at) in
      let number : 1 + length (take i app.choices.items) ≡ i + 1 = omega (arith, length-take-le i app.choices.items) in
      ap (run_from app (record { trace = []; waits = [] }) 1) more
      ∙ run_from-push app (record { trace = []; waits = [] }) 1 (take i app.choices.items) c
      ∙ ap (λ (n : ℕ). stepped app before n c) number

  pub sound_at : IsTrue (is_sound app) → is_sound_choice app c ≡ true
  sound_at sound = ap (is_sound_choice app) at ∙ sound_choices app sound i d lt

  pub played_made : (v : World) (waits : Listed ℕ) → waits ≡ plain before.waits → Steps app before (i + 1) c true v → HasPlayed app (i + 1) v waits
  played_made v waits are steps = record {
    world = subst (λ (r : Run). WorldStands app v r.trace) (sym run_more) steps.world;
    waits_are = are ∙ ap (λ (ns : List ℕ). plain ns) (sym steps.waits_are ∙ ap (λ (r : Run). r.waits) (sym run_more));
  }

  pub played_waited : (v : World) (waits more : Listed ℕ) → waits ≡ plain before.waits → Steps app before (i + 1) c false v
      → more ≡ plain (waits.items ++ (i + 1) ∷ []) → HasPlayed app (i + 1) v more
  played_waited v waits more are steps added = record {
    world = subst (λ (r : Run). WorldStands app v r.trace) (sym run_more) steps.world;
    waits_are =
        added ∙ ap (λ (ns : Listed ℕ). plain (ns.items ++ (i + 1) ∷ [])) are
        ∙ ap (λ (ns : List ℕ). plain ns) (sym steps.waits_are ∙ ap (λ (r : Run). r.waits) (sym run_more));
  }

-- ---- all choices

module _ (app : App) (w : World) (waits : Listed ℕ) (all : HasPlayed app (length app.choices.items) w waits) where
  all_made : run_until app (length app.choices.items) ≡ played app
  all_made =
      ap (run_from app (record { trace = []; waits = [] }) 1)
      (take_all (length app.choices.items) app.choices.items (omega arith))

  pub played_waits : waits ≡ plain (waits_of app)
  played_waits = all.waits_are ∙ ap (λ (r : Run). plain r.waits) all_made

  -- the trace of the world, and what is left of its processes
  module _ (trace : List Entry) (after : Aftermath) (over : (t : List Entry) → WorldStands app w t → (trace ≡ t) × IsAftermathOf app t after) where
    same : trace ≡ (run_until app (length app.choices.items)).trace
    same = (over (run_until app (length app.choices.items)).trace all.world).0

    pub played_trace : trace ≡ trace_of app
    played_trace = same ∙ ap (λ (r : Run). r.trace) all_made

    pub played_after : IsAftermathOf app trace after
    played_after =
        subst (λ (t : List Entry). IsAftermathOf app t after) (sym same)
        (over (run_until app (length app.choices.items)).trace all.world).1

    pub played_legal : IsLegalTrace app trace
    played_legal = subst (IsLegalTrace app) (sym same) all.world.run
