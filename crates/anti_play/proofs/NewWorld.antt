-- The objects of an application before anything has happened.
use Rattle.std.proofs.Common.{◌≡◌, ℕ, ◌+◌, ◌<◌, ◌≤◌, ◌-◌, ◌++◌, ◌∷◌, List, [], length, reverse, refl, sym, ap, ◌∙◌, subst, arith, inl, inr}
use Rattle.std.specs.Prelude.{All, Option, None, Some, MatchOption, map}
use Rattle.std.proofs.lemmas.Bool.{cases_lt}
use Rattle.std.proofs.lemmas.List.{append_assoc, get_or-map, length-map, length_push, map_push, reverse-append}
use Rattle.anti_ids.specs.List.{Listed, plain}
use Rattle.anti_ids.specs.ListCalls.{pushed}
use Rattle.anti_kind.specs.Objects.{Start}
use Rattle.anti_app.specs.declared.app.App.{App}
use Rattle.anti_object.specs.declared.object.Object.{Object}
use Rattle.anti_object.specs.Starts.{start_of}
use Rattle.anti_kind.specs.Records.{Record}
use Rattle.anti_object.specs.Standing.{object_start, IsNew, ObjectAt}
use Rattle.anti_object.proofs.Starts.{start_there, start_known}
use Rattle.anti_app.specs.Objects.{object_count}
use Rattle.anti_trace.proofs.GonePast.{first_more}
use Rattle.anti_trace.proofs.PutLegal.{legal_none}
use Rattle.anti_trace.specs.inner.After.{AreFirst}
use Rattle.anti_play.specs.declared.world.World.{World}
use Rattle.anti_play.specs.inner.Standing.{AllStand, IsObject, WorldStands}
use Rattle.anti_trace.specs.inner.Living.{NoneBorn, lists}
use Rattle.anti_trace.specs.inner.Trails.{IsBare}
use Rattle.anti_play.specs.inner.Closing.{at_first}
use Rattle.anti_trace.proofs.NoneBorn.{none_are}
use Rattle.anti_trace.proofs.Trails.{bare_if}

-- an item more in a list that has no room, which has none then
pub added : {T : Type 0} (l : Listed T) (x : T) → l.spare ≡ 0 → pushed l x ≡ plain (l.items ++ x ∷ [])
added {T} l x full =
    let spare : l.spare - 1 ≡ 0 = omega arith in
    ap (λ (n : ℕ). record { items = l.items ++ x ∷ []; spare = n }) spare

-- where there is none at a number it is past them all
past_all : (app : App) (count : ℕ) → start_of app count ≡ None → object_count app ≤ count
past_all app count none =
    elim (cases_lt count (object_count app)) [
      | inl low ↦ absurd (let there : (start : Start) × (start_of app count ≡ Some start) = start_there app count low in let both : None ≡ Some there.0 = sym none ∙ there.1 in cc)
      | inr high ↦ high
    ]

-- the objects so far, and what is found at the next number
module _ (app : App) (objects : List Object) (first : AreFirst app (length objects) objects) (number : ℕ) (next : number ≡ length objects)
    (found : Option Object) (tells : MatchOption found (start_of app number ≡ None) (IsNew app number)) where
  pub first_then : (object : Object) (more : List Object) → found ≡ Some object → more ≡ objects ++ object ∷ []
      → AreFirst app (length more) more × (length more ≤ object_count app)
  first_then object more there added =
      let new : IsNew app number object = subst (λ (x : Option Object). MatchOption x (start_of app number ≡ None) (IsNew app number)) there tells in
      let count : length more ≡ length objects + 1 = ap length added ∙ length_push objects object in
      let known : number < object_count app = start_known app number (object_start object) new.start in (
        subst (λ (n : ℕ). AreFirst app n more) (sym count)
            (subst (AreFirst app (length objects + 1)) (sym added) (first_more app (length objects) objects object first (subst (λ (n : ℕ). IsNew app n object) next new))),
        omega arith,
      )

  -- where there is none they are all there
  pub first_all : found ≡ None → length objects ≤ object_count app → AreFirst app (object_count app) objects
  first_all there few =
      let none : start_of app number ≡ None = subst (λ (x : Option Object). MatchOption x (start_of app number ≡ None) (IsNew app number)) there tells in
      let all : object_count app ≤ number = past_all app number none in
      let count : length objects ≡ object_count app = omega arith in
      subst (λ (n : ℕ). AreFirst app n objects) count first

module _ (app : App) (objects : List Object) (first : AreFirst app (object_count app) objects) where
  pub first_at : All (λ x. ObjectAt x []) objects
  first_at o d lt = (first.each o d lt).stands

  -- with no entry they stand for the empty trace
  pub first_stand : AllStand app (map at_first objects) []
  first_stand = record {
    count = length-map objects at_first ∙ first.many;
    each = λ o d lt.
        let low : o < length objects = omega (arith, length-map objects at_first, lt) in
        subst (λ (r : Record Object). IsObject app o r []) (sym (get_or-map at_first objects o d.machine d low))
        (record { start = (first.each o d.machine low).start; history = refl });
  }

-- an item more was taken off the end of a list, and what becomes of it was put behind those that were taken before
pub taken_off : {X Y : Type 0} (f : X → Y) (left now : List X) (x : X) (taken then : List Y) → left ≡ now ++ x ∷ [] → then ≡ taken ++ f x ∷ []
    → map f now ++ reverse then ≡ map f left ++ reverse taken
taken_off {X} {Y} f left now x taken then cut put =
    ap (λ (ys : List Y). map f now ++ reverse ys) put
    ∙ ap (λ (ys : List Y). map f now ++ ys) (reverse-append taken (f x ∷ []))
    ∙ sym (append_assoc (map f now) (f x ∷ []) (reverse taken))
    ∙ ap (λ (ys : List Y). ys ++ reverse taken) (sym (ap (map f) cut ∙ map_push f now x))

-- the whole, of which nothing has happened
pub world_new : (app : App) (w : World) (count : ℕ) → AllStand app w.objects.items [] → NoneBorn count (lists w.processes) → IsBare count w.trail.at.items → count ≡ object_count app
    → w.carrier ≡ 0 → WorldStands app w []
world_new app w count stand none bare all carrier = record {
  run = legal_none app;
  objects = stand;
  processes = none_are app (lists w.processes) count none all;
  trail = bare_if app w.trail count bare all;
  carrier = carrier;
}
