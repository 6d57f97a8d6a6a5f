-- A player that makes one choice more.
use Rattle.std.proofs.Common.{◌≡◌, ℕ, ◌+◌, ◌<◌, ◌≤◌, ◌++◌, ◌∷◌, true, false, List, [], length, get_or, take, refl, sym, ap, ◌∙◌, subst}
use Rattle.std.specs.Prelude.{IsTrue, Option, Some, Ok, option_and_then}
use Rattle.std.proofs.lemmas.List.{take_more}
use Rattle.std.proofs.lemmas.List.Elements.{All-nil, All-push}
use Rattle.anti_ids.specs.List.{Listed}
use Rattle.anti_ids.specs.ListCalls.{pushed}
use Rattle.anti_ids.specs.declared.limits.TheConstants.{MOST_UNITS}
use Rattle.anti_kind.specs.declared.entry.Entry.{Entry}
use Rattle.anti_kind.specs.Objects.{Start}
use Rattle.anti_kind.proofs.Histories.{few_entries}
use Rattle.anti_app.specs.declared.app.App.{App}
use Rattle.anti_app.specs.declared.app.Choice.{Choice}
use Rattle.anti_app.specs.declared.app.Choice.TheVariants.{Finish}
use Rattle.anti_app.specs.Sound.{is_sound, is_sound_choice}
use Rattle.anti_object.specs.Starts.{start_of}
use Rattle.anti_past.specs.Losses.{mark_of}
use Rattle.anti_trace.specs.Traces.{entries_on, put}
use Rattle.anti_trace.specs.declared.mark.Mark.{Mark}
use Rattle.anti_play.proofs.MadeAt.{Made, made_of}
use Rattle.anti_play.proofs.Tried.{MadeOne, chose_false, chose_true}
use Rattle.anti_play.specs.Complete.{IsComplete}
use Rattle.anti_play.specs.Schedule.{asked, chosen, finished, made_at}
use Rattle.anti_play.specs.declared.world.World.{World}
use Rattle.anti_play.specs.inner.Choosing.{AsksAt}
use Rattle.anti_play.specs.inner.Standing.{Chose, IsSoundWorld, IsWorldOf, WorldStands}
use Rattle.anti_adversary.specs.Runs.{MakesMarks}
use Rattle.anti_adversary.specs.declared.player.Player.{Player}
use Rattle.anti_adversary.specs.inner.Playing.{HasMade, IsPlayer, IsWhole, with_made}
use Rattle.anti_adversary.proofs.Marks.{finish_run, marks_more}

-- the world of a player is one of a run
pub world_of : (app : App) (p : Player) → IsPlayer app p → IsWorldOf app p.world
world_of app p is = record { trace = is.made.trace; stands = is.made.stands }

pub sound_world : (app : App) (p : Player) → IsTrue (is_sound app) → IsPlayer app p → IsSoundWorld p.world
sound_world app p sound is = record { app = app; trace = is.made.trace; sound = sound; stands = is.made.stands }

-- nothing was made yet
pub made_first : (app : App) (world : World) (marks : Listed Mark) → WorldStands app world [] → marks.items ≡ []
    → HasMade app (record { world = world; marks = marks }) []
made_first app world marks stands none = record {
  trace = [];
  stands = stands;
  sound = All-nil (λ c. IsTrue (is_sound_choice app c));
  made = (none, refl);
}

-- ---- the entry of a choice

-- it stands behind the history of its object
record IsBehind (app : App) (trace : List Entry) (object : ℕ) (e : Entry) : Type 0 where
  pub start : Start
  pub there : start_of app object ≡ Some start
  pub mark : mark_of e ≡ record { object = object; place = length (entries_on object trace) + 1 }

is_behind : (app : App) (trace : List Entry) (choice : Choice) (object : ℕ) (e : Entry)
    → AsksAt (asked app trace choice) object → chosen app trace choice ≡ Some e → IsBehind app trace object e
is_behind app trace choice object e (q, asks, at) is =
    let m : Made app trace q e = made_of app trace q e (sym (ap (option_and_then (made_at app trace)) asks) ∙ is) in
    subst (λ (o : ℕ). IsBehind app trace o e) at (record { start = m.start; there = m.there; mark = ap mark_of m.is })

module _ (app : App) (world now : World) (choice : Choice) (object : ℕ) (history : List Entry)
    (asks : (trace : List Entry) → WorldStands app world trace → AsksAt (asked app trace choice) object)
    (is : (trace : List Entry) → WorldStands app world trace → history ≡ entries_on object trace)
    (chose : (trace : List Entry) → WorldStands app world trace → Chose app trace (chosen app trace choice) (Ok true) now) where
  -- it has few before it
  pub few_before : IsWorldOf app world → length history ≤ MOST_UNITS + 1
  few_before w =
      let made : MadeOne app w.trace (chosen app w.trace choice) now = chose_true app w.trace (chosen app w.trace choice) now (chose w.trace w.stands) in
      let behind : IsBehind app w.trace object made.entry = is_behind app w.trace choice object made.entry (asks w.trace w.stands) made.is in
      subst (λ (h : List Entry). length h ≤ MOST_UNITS + 1) (sym (is w.trace w.stands))
      (few_entries behind.start (entries_on object w.trace) (w.stands.run.histories object behind.start behind.there))

  -- the choice was made
  pub made_more : (marks : Listed Mark) (place : ℕ) (more : Listed Mark) (choices : List Choice)
      → HasMade app (record { world = world; marks = marks }) choices → is_sound_choice app choice ≡ true → place ≡ length history + 1
      → more ≡ pushed marks (record { object = object; place = place })
      → HasMade app (record { world = now; marks = more }) (choices ++ choice ∷ [])
  made_more marks place more choices has sound at are =
      let made : MadeOne app has.trace (chosen app has.trace choice) now =
      chose_true app has.trace (chosen app has.trace choice) now (chose has.trace has.stands) in
      let behind : IsBehind app has.trace object made.entry = is_behind app has.trace choice object made.entry (asks has.trace has.stands) made.is in
      let place_is : place ≡ length (entries_on object has.trace) + 1 = at ∙ ap (λ (h : List Entry). length h + 1) (is has.trace has.stands) in
      let mark_is : mark_of made.entry ≡ record { object = object; place = place } = behind.mark ∙ ap (λ (n : ℕ). record { object = object; place = n }) (sym place_is) in
      record {
        trace = put made.entry has.trace;
        stands = made.stands;
        sound = All-push (λ c. IsTrue (is_sound_choice app c)) choices choice has.sound sound;
        made = subst (λ (ms : List Mark). MakesMarks app [] (choices ++ choice ∷ []) ms (put made.entry has.trace))
            (ap (λ (m : Mark). marks.items ++ m ∷ []) mark_is ∙ sym (ap (λ (l : Listed Mark). l.items) are))
            (marks_more app [] choices choice marks.items has.trace made.entry has.made made.is);
      }

-- a choice that made no entry
pub made_none : (app : App) (world now : World) (choice : Choice) (marks : Listed Mark) (choices : List Choice)
    → ((trace : List Entry) → WorldStands app world trace → Chose app trace (chosen app trace choice) (Ok false) now)
    → HasMade app (record { world = world; marks = marks }) choices → HasMade app (record { world = now; marks = marks }) choices
made_none app world now choice marks choices chose has = record {
  trace = has.trace;
  stands = (chose_false app has.trace (chosen app has.trace choice) now (chose has.trace has.stands)).1;
  sound = has.sound;
  made = has.made;
}

-- one of a list of choices that each make an entry
pub next_made : (app : App) (p : Player) (choices : List Choice) (k : ℕ) (choice : Choice) (made : Option Mark) (mark : Mark)
    → k < length choices → choice ≡ get_or choices k choice → made ≡ Some mark → HasMade app p (with_made made choice (take k choices))
    → HasMade app p (take (k + 1) choices)
next_made app p choices k choice made mark low at is has =
    subst (HasMade app p)
    (ap (λ (o : Option Mark). with_made o choice (take k choices)) is ∙ ap (λ (c : Choice). take k choices ++ c ∷ []) at
    ∙ sym (take_more choices k choice low))
    has

-- ---- the end

-- all that was left was made
pub made_whole : (app : App) (world now : World) (marks : Listed Mark) (trace : List Entry) → IsPlayer app (record { world = world; marks = marks })
    → ((t : List Entry) → WorldStands app world t → WorldStands app now (finished app t))
    → ((t : List Entry) → WorldStands app now t → IsComplete app t)
    → ((t : List Entry) → WorldStands app now t → trace ≡ t)
    → IsWhole app trace
made_whole app world now marks trace player ends complete over =
    let has : HasMade app (record { world = world; marks = marks }) player.choices = player.made in
    let stands : WorldStands app now (finished app has.trace) = ends has.trace has.stands in
    subst (IsWhole app) (sym (over (finished app has.trace) stands)) (record {
      choices = player.choices ++ Finish ∷ [];
      whole = record {
        run = finish_run app [] [] 1 player.choices marks.items has.trace has.made;
        legal = stands.run;
        complete = complete (finished app has.trace) stands;
      };
    })
