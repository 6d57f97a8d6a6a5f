-- How far a world has come that finishes.
use Rattle.std.proofs.Common.{◌≡◌, ℕ, zero, suc, ◌+◌, ◌-◌, ◌<◌, ◌≤◌, true, false, List, [], ◌∷◌, length, get_or, refl, sym, ap, ◌∙◌, subst, arith, length-append, append-nil}
use Rattle.std.specs.Prelude.{IsTrue, None, Ok}
use Rattle.std.specs.List.{sum_by}
use Rattle.std.proofs.lemmas.List.Sums.{sum_by-cons}
use Rattle.anti_ids.specs.declared.limits.TheConstants.{MOST_UNITS}
use Rattle.anti_kind.specs.declared.entry.Entry.{Entry}
use Rattle.anti_kind.specs.Objects.{Start}
use Rattle.anti_kind.specs.Records.{Record}
use Rattle.anti_app.specs.declared.app.App.{App}
use Rattle.anti_app.specs.Sound.{is_sound}
use Rattle.anti_object.specs.declared.object.Object.{Object}
use Rattle.anti_object.specs.Standing.{object_start}
use Rattle.anti_app.specs.Objects.{object_count}
use Rattle.anti_trace.specs.Traces.{entries_on, put}
use Rattle.anti_trace.proofs.Sames.{same_trace}
use Rattle.anti_play.specs.declared.world.World.{World}
use Rattle.anti_play.specs.Schedule.{first_made, finished}
use Rattle.anti_play.specs.Complete.{IsComplete}
use Rattle.anti_trace.specs.Histories.{GoesOn}
use Rattle.anti_trace.specs.inner.Living.{Gets}
use Rattle.anti_trace.proofs.Followed.{goes_on as histories_go_on}
use Rattle.anti_play.specs.inner.Standing.{Chose, IsObject, WorldStands}
use Rattle.anti_play.specs.inner.Finishing.{WentOn}
use Rattle.anti_kind.proofs.Histories.{few_entries}
use Rattle.anti_play.proofs.OneTrace.{histories_are}
use Rattle.anti_play.proofs.Tried.{MadeOne, chose_true, chose_false}
use Rattle.anti_play.proofs.Finished.{Further, made_further, goes_further, finished_next, finished_none}

-- ---- a world stands for one trace only

pub one_trace : (app : App) (w : World) (t u : List Entry) → WorldStands app w t → WorldStands app w u → t ≡ u
one_trace app w t u s v = same_trace t u s.run.order v.run.order (λ o. sym (histories_are app w t s o) ∙ histories_are app w u v o)

-- ---- turns

-- the trace that the world stands for now goes on from the first one, and finishing makes the same of it
pub record Reached (app : App) (trace : List Entry) (w : World) : Type 0 where
  pub after : List Entry
  pub stands : WorldStands app w after
  pub goes_on : GoesOn trace after
  pub same : finished app after ≡ finished app trace

pub reached_first : (app : App) (trace : List Entry) (w : World) → WorldStands app w trace → Reached app trace w
reached_first app trace w s = record { after = trace; stands = s; goes_on = λ o. ([], sym (append-nil (entries_on o trace))); same = refl }

module _ (app : App) (sound : IsTrue (is_sound app)) (trace : List Entry) (w : World) (reached : Reached app trace w) where
  abbrev now : List Entry
  now = reached.after

  -- a turn that made an entry
  pub reached_more : (n : World) → Chose app now (first_made app now) (Ok true) n → Reached app trace n
  reached_more n chose =
      let made : MadeOne app now (first_made app now) n = chose_true app now (first_made app now) n chose in
      let next : Further app now made.entry = made_further app sound now made.entry reached.stands.run made.is in
      let goes : GoesOn now (put made.entry now) = histories_go_on app now (put made.entry now) made.entry next.gets in
      record {
        after = put made.entry now;
        stands = made.stands;
        goes_on = goes_further trace now (put made.entry now) reached.goes_on goes;
        same = finished_next app sound now made.entry reached.stands.run made.is ∙ reached.same;
      }

  -- one that made none
  pub reached_all : (n : World) → Chose app now (first_made app now) (Ok false) n → WorldStands app n (finished app trace)
  reached_all n chose =
      let none : (first_made app now ≡ None) × WorldStands app n now = chose_false app now (first_made app now) n chose in
      subst (WorldStands app n) (sym (finished_none app sound now none.0) ∙ reached.same) none.1

  -- one for which there was no memory
  pub reached_lost : (n : World) → WentOn app now n → WentOn app trace n
  reached_lost n went = record { after = went.after; stands = went.stands; goes_on = goes_further trace now went.after reached.goes_on went.goes_on }

-- ---- places that are left

abbrev pub places : Record Object → ℕ
places r = MOST_UNITS + 2 - length r.history

abbrev pub places_left : World → ℕ
places_left w = sum_by places w.objects.items

pointwise : {X : Type 0} (f : X → ℕ) (xs ys : List X) → length xs ≡ length ys → ((k : ℕ) (d : X) → k < length xs → f (get_or ys k d) ≤ f (get_or xs k d)) → sum_by f ys ≤ sum_by f xs
pointwise f [] [] same le = omega arith
pointwise f [] (y ∷ ys) same le = absurd (omega arith)
pointwise f (x ∷ xs) [] same le = absurd (omega arith)
pointwise f (x ∷ xs) (y ∷ ys) same le =
    let head : f y ≤ f x = le 0 x (omega arith) in
    let tail : sum_by f ys ≤ sum_by f xs = pointwise f xs ys (omega arith) (λ k d low. le (suc k) d (omega arith)) in
    omega (arith, sum_by-cons f x xs, sum_by-cons f y ys)

sum_less : {X : Type 0} (f : X → ℕ) (xs ys : List X) → length xs ≡ length ys → ((k : ℕ) (d : X) → k < length xs → f (get_or ys k d) ≤ f (get_or xs k d))
    → (i : ℕ) → i < length xs → ((d : X) → f (get_or ys i d) < f (get_or xs i d)) → sum_by f ys < sum_by f xs
sum_less f [] ys same le i lt less = absurd (omega arith)
sum_less f (x ∷ xs) [] same le i lt less = absurd (omega arith)
sum_less f (x ∷ xs) (y ∷ ys) same le zero lt less =
    let head : f y < f x = less x in
    let tail : sum_by f ys ≤ sum_by f xs = pointwise f xs ys (omega arith) (λ k d low. le (suc k) d (omega arith)) in
    omega (arith, sum_by-cons f x xs, sum_by-cons f y ys)
sum_less f (x ∷ xs) (y ∷ ys) same le (suc i) lt less =
    let head : f y ≤ f x = le 0 x (omega arith) in
    let tail : sum_by f ys < sum_by f xs = sum_less f xs ys (omega arith) (λ k d low. le (suc k) d (omega arith)) i (omega arith) (λ d. less d) in
    omega (arith, sum_by-cons f x xs, sum_by-cons f y ys)

-- with an entry more there is one place less
pub place_less : (app : App) (w n : World) (t : List Entry) (e : Entry) → WorldStands app w t → WorldStands app n (put e t) → Gets app t (put e t) e → e.object < object_count app
    → places_left n < places_left w
place_less app w n t e s v gets known =
    let one : length w.objects.items ≡ object_count app = s.objects.count in
    let two : length n.objects.items ≡ object_count app = v.objects.count in
    sum_less places w.objects.items n.objects.items (omega arith)
    (λ k d lt.
    let before : length (get_or w.objects.items k d).history ≡ length (entries_on k t) = ap length (s.objects.each k d lt).history in
    let after : length (get_or n.objects.items k d).history ≡ length (entries_on k (put e t)) = ap length (v.objects.each k d (omega arith)).history in
    let goes = histories_go_on app t (put e t) e gets k in
    let longer : length (entries_on k (put e t)) ≡ length (entries_on k t) + length goes.0 = ap length goes.1 ∙ length-append (entries_on k t) goes.0 in
    omega arith)
    e.object (omega arith)
    (λ d.
    let old : IsObject app e.object (get_or w.objects.items e.object d) (entries_on e.object t) = s.objects.each e.object d (omega arith) in
    let new : IsObject app e.object (get_or n.objects.items e.object d) (entries_on e.object (put e t)) = v.objects.each e.object d (omega arith) in
    let before : length (get_or w.objects.items e.object d).history ≡ length (entries_on e.object t) = ap length old.history in
    let after : length (get_or n.objects.items e.object d).history ≡ length (entries_on e.object (put e t)) = ap length new.history in
    let longer : length (entries_on e.object (put e t)) ≡ length (entries_on e.object t) + 1 = ap length gets.grows.here ∙ length-append (entries_on e.object t) (e ∷ []) in
    let start : Start = object_start (get_or n.objects.items e.object d).machine in
    let short : length (entries_on e.object (put e t)) ≤ MOST_UNITS + 1 = few_entries start (entries_on e.object (put e t)) (v.run.histories e.object start new.start) in
    omega arith)

pub turn_less : (app : App) (sound : IsTrue (is_sound app)) (trace : List Entry) (w : World) (reached : Reached app trace w)
    (n : World) → Chose app reached.after (first_made app reached.after) (Ok true) n → places_left n < places_left w
turn_less app sound trace w reached n chose =
    let now : List Entry = reached.after in
    let made : MadeOne app now (first_made app now) n = chose_true app now (first_made app now) n chose in
    let next : Further app now made.entry = made_further app sound now made.entry reached.stands.run made.is in
    place_less app w n now made.entry reached.stands made.stands next.gets next.known

-- ---- the whole

pub is_complete : (app : App) (sound : IsTrue (is_sound app)) (n : World) (first trace : List Entry) → WorldStands app n (finished app first) → WorldStands app n trace
    → IsComplete app (finished app first) → IsComplete app trace
is_complete app sound n first trace done s complete = subst (IsComplete app) (one_trace app n (finished app first) trace done s) complete
