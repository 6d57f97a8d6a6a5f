-- Trails, as a trace gets one entry more.
use Rattle.std.proofs.Common.{◌≡◌, ℕ, zero, suc, ◌+◌, ◌<◌, ◌++◌, inl, inr, List, [], ◌∷◌, Bool, true, false, cond, length, map, get_or, nat_lt, refl, sym, ap, ◌∙◌, subst, arith, append-nil, length-append}
use Rattle.std.specs.Prelude.{All, Option, None, Some, IsTrue, slice_get, slice_set, if◌then◌else◌}
use Rattle.std.specs.List.{filter}
use Rattle.std.specs.Option.{option_map_or}
use Rattle.std.proofs.lemmas.Bool.{false≢true, le-ltb, lt-ltb}
use Rattle.std.proofs.lemmas.List.{length-set, map-append}
use Rattle.std.proofs.lemmas.List.Elements.{All-filter, All-head, All-tail, All-weaker, filter-append}
use Rattle.anti_ids.specs.declared.id.WriteId.{WriteId}
use Rattle.anti_kind.specs.declared.actor.Actor.{Actor}
use Rattle.anti_kind.specs.declared.actor.Actor.TheVariants.{Carrier, Process as Acting, Newborn}
use Rattle.anti_kind.specs.declared.actor.Birth.{Birth}
use Rattle.anti_kind.specs.declared.call.Call.{Call}
use Rattle.anti_kind.specs.declared.call.Call.TheVariants as calls
use Rattle.anti_kind.specs.declared.entry.Entry.{Entry}
use Rattle.anti_app.specs.declared.app.App.{App}
use Rattle.anti_app.specs.Objects.{object_count}
use Rattle.anti_app.specs.Sound.{is_sound}
use Rattle.anti_proc.specs.Meaning.{process_after}
use Rattle.anti_proc.specs.Trees.{Ask, Asks, Ends, Make, Tree, ask_of, want_of}
use Rattle.anti_proc.specs.declared.process.Process.{Process}
use Rattle.anti_proc.specs.inner.Standing.{process_of}
use Rattle.anti_trace.specs.Legal.{IsCarried, IsLegalTrace, IsOfActor, bears, carries}
use Rattle.anti_trace.specs.Traces.{entries_by, entries_on, is_by, is_on, same_actor}
use Rattle.anti_trace.specs.declared.trail.OnObject.{OnObject}
use Rattle.anti_trace.specs.declared.trail.Trail.{Trail}
use Rattle.anti_trace.specs.inner.Living.{Gets, LivesOn}
use Rattle.anti_trace.specs.inner.Trails.{IsBare, IsTrailIfKept, IsTrailOf, TrailBecomes, carried_in, carried_into, footprint, footprint_in, leaves_trail, own_before, trail_at, trail_on, with_footprint}
use Rattle.anti_trace.proofs.Changed.{set_here, set_other}
use Rattle.anti_trace.proofs.Followed.{gets_next, left_wants, next_above, next_bears, next_going}
use Rattle.anti_trace.proofs.Living.{decide}
use Rattle.anti_trace.proofs.OfLegal.{actor_cut, at_cut, none_cut}
use Rattle.anti_trace.proofs.Puts.{All-from_filter, filter-no, filter-yes, same_actor_itself, same_actor_true}
use Rattle.std.proofs.lemmas.Option.{slice_get-get_or}

-- ---- lists

-- a test that all pass keeps all
pub all_pass : {X : Type 0} (p : X → Bool) (xs : List X) → All (λ x. p x ≡ true) xs → filter p xs ≡ xs
all_pass p [] all = refl
all_pass {X} p (x ∷ xs) all =
    filter-yes p x xs (All-head (λ x. p x ≡ true) x xs all)
    ∙ ap (λ (r : List X). x ∷ r) (all_pass p xs (All-tail (λ x. p x ≡ true) x xs all))

-- functions that agree on all
same_images : {X Y : Type 0} (f g : X → Y) (xs : List X) → All (λ x. f x ≡ g x) xs → map f xs ≡ map g xs
same_images f g [] all = refl
same_images {X} {Y} f g (x ∷ xs) all =
    ap (λ (y : Y). y ∷ map f xs) (All-head (λ x. f x ≡ g x) x xs all)
    ∙ ap (λ (r : List Y). g x ∷ r) (same_images f g xs (All-tail (λ x. f x ≡ g x) x xs all))

-- ---- the trail of one object

pub bare_more : (count : ℕ) (all : List OnObject) (here : OnObject) → IsBare count all → here.carried.items ≡ [] → IsBare (count + 1) (all ++ here ∷ [])
bare_more count all here bare empty = record {
  many = omega (arith, bare.many, length-append all (here ∷ []));
  none = none_more all bare.none;
}
  where
    none_more : (xs : List OnObject) → ((o : ℕ) → carried_in (slice_get xs o) ≡ []) → (o : ℕ) → carried_in (slice_get (xs ++ here ∷ []) o) ≡ []
    none_more [] none zero = empty
    none_more [] none (suc o) = refl
    none_more (x ∷ xs) none zero = none zero
    none_more (x ∷ xs) none (suc o) = none_more xs (λ k. none (suc k)) o

-- a trail that holds nothing is that of the trace of which nothing has happened
bare_is : (app : App) (t : Trail) (count : ℕ) → IsBare count t.at.items → count ≡ object_count app → t.is_kept ≡ true → IsTrailOf app [] t
bare_is app t count bare is kept = record { kept = kept; count = bare.many ∙ is; each = bare.none }

pub bare_if : (app : App) (t : Trail) (count : ℕ) → IsBare count t.at.items → count ≡ object_count app → IsTrailIfKept app [] t
bare_if app t count bare is = record { count = bare.many ∙ is; trail = bare_is app t count bare is }

-- a trail is one that may be kept
pub trail_if : (app : App) (trace : List Entry) (t : Trail) → IsTrailOf app trace t → IsTrailIfKept app trace t
trail_if app trace t is = record { count = is.count; trail = λ kept. is }

-- and is a footprint of one that is kept
footprint_kept : (t : Trail) (asked : Option Ask) → t.is_kept ≡ true → footprint_in t asked ≡ footprint asked
footprint_kept t asked kept = ap (λ (b : Bool). if b then footprint asked else None) kept

becomes_itself : (t : Trail) (o : ℕ) → TrailBecomes t t o (trail_at t o)
becomes_itself t o = record { kept = refl; count = refl; here_is = refl; others = λ k other. refl }

-- no footprint is put behind it
pub becomes_none : (t : Trail) (o : ℕ) (ids : Option (List WriteId)) → ((x : List WriteId) → ids ≡ Some x → ⊥)
    → TrailBecomes t t o (with_footprint (trail_at t o) ids)
becomes_none t o None none = becomes_itself t o
becomes_none t o (Some x) none = absurd (none x refl)

pub becomes_then : (t m n : Trail) (o : ℕ) (ids : Option (List WriteId)) → TrailBecomes t m o (trail_at t o)
    → TrailBecomes m n o (with_footprint (trail_at m o) ids) → TrailBecomes t n o (with_footprint (trail_at t o) ids)
becomes_then t m n o ids one two = record {
  kept = two.kept ∙ one.kept;
  count = two.count ∙ one.count;
  here_is = two.here_is ∙ ap (λ (here : List (List WriteId)). with_footprint here ids) one.here_is;
  others = λ k other. two.others k other ∙ one.others k other;
}

-- the trail of a trace, of which an object has become what it was
pub trail_kept : (app : App) (trace : List Entry) (t n : Trail) (o : ℕ) → IsTrailOf app trace t → TrailBecomes t n o (trail_at t o) → IsTrailOf app trace n
trail_kept app trace t n o is becomes = record {
  kept = becomes.kept ∙ is.kept;
  count = becomes.count ∙ is.count;
  each = λ k. elim (decide o k) as (λ _. trail_at n k ≡ trail_on app trace k) [
    | inl here ↦ subst (λ (x : ℕ). trail_at n x ≡ trail_on app trace x) here (becomes.here_is ∙ is.each o)
    | inr other ↦ becomes.others k other ∙ is.each k
  ];
}

pub trail_kept_if : (app : App) (trace : List Entry) (t n : Trail) (o : ℕ) → IsTrailIfKept app trace t → TrailBecomes t n o (trail_at t o) → IsTrailIfKept app trace n
trail_kept_if app trace t n o is becomes = record {
  count = becomes.count ∙ is.count;
  trail = λ kept. trail_kept app trace t n o (is.trail (sym becomes.kept ∙ kept)) becomes;
}

-- an object of a trail was read, and has become another
module _ (t : Trail) (o : ℕ) (here new : OnObject) (is : here ≡ get_or t.at.items o here) (within : o < length t.at.items) where
  pub object_is : slice_get t.at.items o ≡ Some here
  object_is = slice_get-get_or t.at.items o here within ∙ ap Some (sym is)

  trail_here : trail_at t o ≡ here.carried.items
  trail_here = ap carried_in object_is

  becomes_set : (n : Trail) → n.is_kept ≡ t.is_kept → n.at.items ≡ slice_set t.at.items o new → TrailBecomes t n o new.carried.items
  becomes_set n kept items = record {
    kept = kept;
    count = ap (λ (xs : List OnObject). length xs) items ∙ length-set t.at.items o new;
    here_is = ap (λ (xs : List OnObject). carried_in (slice_get xs o)) items ∙ ap carried_in (set_here t.at.items o new within);
    others = λ k other. ap (λ (xs : List OnObject). carried_in (slice_get xs k)) items ∙ ap carried_in (set_other t.at.items o new k other);
  }

  -- it may hold what it held
  pub becomes_same : (n : Trail) → n.is_kept ≡ t.is_kept → n.at.items ≡ slice_set t.at.items o new → new.carried.items ≡ here.carried.items
      → TrailBecomes t n o (trail_at t o)
  becomes_same n kept items same = subst (TrailBecomes t n o) (same ∙ sym trail_here) (becomes_set n kept items)

  -- or one lineage more
  pub becomes_put : (n : Trail) → n.is_kept ≡ t.is_kept → n.at.items ≡ slice_set t.at.items o new → (ids : Option (List WriteId)) (x : List WriteId) → ids ≡ Some x
      → new.carried.items ≡ here.carried.items ++ x ∷ [] → TrailBecomes t n o (with_footprint (trail_at t o) ids)
  becomes_put n kept items ids x is more =
      subst (TrailBecomes t n o)
      (more ∙ ap (λ (r : List (List WriteId)). r ++ x ∷ []) (sym trail_here) ∙ ap (with_footprint (trail_at t o)) (sym is))
      (becomes_set n kept items)

-- ---- which calls leave no trail

pub carries_none : (call : Call) → carries call ≡ true → leaves_trail call ≡ false
carries_none (calls.Ship region version part) is = refl
carries_none (calls.Again region version part) is = refl
carries_none (calls.Repost number) is = refl
carries_none _ is = absurd (cc)

pub bears_none : (call : Call) → bears call ≡ true → leaves_trail call ≡ false
bears_none (calls.Take nth) is = refl
bears_none (calls.Pull sub) is = refl
bears_none (calls.Repull sub version) is = refl
bears_none _ is = absurd (cc)

-- ---- one entry more, after the last of its object and of its actor

abbrev is_earlier : Entry → Entry → Bool
is_earlier e d = nat_lt d.stamp e.stamp

abbrev leaves : Entry → Bool
leaves e = leaves_trail e.call

-- what is carried behind all this
abbrev carried_behind : App → List Entry → List WriteId
carried_behind app es = option_map_or (λ ask. ask.carried) (ask_of (process_after app es)) []

module _ (app : App) (trace after : List Entry) (e : Entry) (gets : Gets app trace after e) (above : All (λ d. d.stamp < e.stamp) (entries_by e.actor trace)) where
  -- before it stands all that its actor did
  own_of_new : own_before after e ≡ entries_by e.actor trace
  own_of_new =
      let did : List Entry = entries_by e.actor trace in
      let low : All (λ d. is_earlier e d ≡ true) did =
      All-weaker (λ d. d.stamp < e.stamp) (λ d. is_earlier e d ≡ true) (λ d lt. lt-ltb d.stamp e.stamp lt) did above in
      ap (filter (is_earlier e)) gets.own ∙ filter-append (is_earlier e) did (e ∷ [])
      ∙ ap (λ (r : List Entry). r ++ filter (is_earlier e) (e ∷ [])) (all_pass (is_earlier e) did low)
      ∙ ap (λ (r : List Entry). did ++ r) (filter-no (is_earlier e) e [] (le-ltb e.stamp e.stamp (omega arith)))
      ∙ append-nil did

  -- what stood before the others stays
  own_of_other : (d : Entry) → (is_by e.actor d ≡ true → d.stamp < e.stamp) → own_before after d ≡ own_before trace d
  own_of_other d early = by_test (is_by e.actor d) refl
    where
      by_test : (t : Bool) → is_by e.actor d ≡ t → own_before after d ≡ own_before trace d
      by_test true same =
          let low : d.stamp < e.stamp = early same in
          let own : entries_by d.actor after ≡ entries_by d.actor trace ++ e ∷ [] =
          subst (λ (a : Actor). entries_by a after ≡ entries_by a trace ++ e ∷ []) (same_actor_true e.actor d.actor same) gets.own in
          ap (filter (is_earlier d)) own ∙ filter-append (is_earlier d) (entries_by d.actor trace) (e ∷ [])
          ∙ ap (λ (r : List Entry). own_before trace d ++ r) (filter-no (is_earlier d) e [] (le-ltb e.stamp d.stamp (omega arith)))
          ∙ append-nil (own_before trace d)
      by_test false other =
          ap (filter (is_earlier d)) (gets.others d.actor (λ is.
          false≢true (sym other ∙ ap (same_actor e.actor) (sym is) ∙ same_actor_itself e.actor)))

  -- so what was carried into them stays
  same_before : (o : ℕ) → map (carried_into app after) (filter leaves (entries_on o trace)) ≡ trail_on app trace o
  same_before o =
      let Same : Entry → Type 0 = λ d. carried_into app after d ≡ carried_into app trace d in
      let all : All Same trace =
      All-weaker (λ d. is_by e.actor d ≡ true → d.stamp < e.stamp) Same (λ d early. ap (carried_behind app) (own_of_other d early)) trace
      (All-from_filter (λ d. d.stamp < e.stamp) (is_by e.actor) trace above) in
      same_images (carried_into app after) (carried_into app trace) (filter leaves (entries_on o trace))
      (All-filter leaves Same (entries_on o trace) (All-filter (is_on o) Same trace all))

  trail_other : (o : ℕ) → (e.object ≡ o → ⊥) → trail_on app after o ≡ trail_on app trace o
  trail_other o other = ap (λ (h : List Entry). map (carried_into app after) (filter leaves h)) (gets.grows.others o other) ∙ same_before o

  -- its object has what it leaves behind that
  trail_of_new : (b : Bool) → leaves_trail e.call ≡ b
      → trail_on app after e.object ≡ trail_on app trace e.object ++ map (carried_into app after) (cond b (e ∷ []) [])
  trail_of_new b is =
      ap (λ (h : List Entry). map (carried_into app after) (filter leaves h)) gets.grows.here
      ∙ ap (λ (h : List Entry). map (carried_into app after) h) (filter-append leaves (entries_on e.object trace) (e ∷ []))
      ∙ map-append (carried_into app after) (filter leaves (entries_on e.object trace)) (filter leaves (e ∷ []))
      ∙ ap (λ (r : List (List WriteId)). r ++ map (carried_into app after) (filter leaves (e ∷ []))) (same_before e.object)
      ∙ ap (λ (t : Bool). trail_on app trace e.object ++ map (carried_into app after) (cond t (e ∷ []) [])) is

  -- it leaves nothing
  pub trail_stays : (t : Trail) → IsTrailOf app trace t → leaves_trail e.call ≡ false → IsTrailOf app after t
  trail_stays t is none = record {
    kept = is.kept;
    count = is.count;
    each = λ o. is.each o ∙ elim (decide e.object o) as (λ _. trail_on app trace o ≡ trail_on app after o) [
      | inl here ↦ subst (λ (k : ℕ). trail_on app trace k ≡ trail_on app after k) here
          (sym (trail_of_new false none ∙ append-nil (trail_on app trace e.object)))
      | inr other ↦ sym (trail_other o other)
    ];
  }

  pub trail_stays_if : (t : Trail) → IsTrailIfKept app trace t → leaves_trail e.call ≡ false → IsTrailIfKept app after t
  trail_stays_if t is none = record { count = is.count; trail = λ kept. trail_stays t (is.trail kept) none }

  -- it leaves what its process was about to leave
  module _ (tree : Tree) (left : tree ≡ process_after app (entries_by e.actor trace)) (object span : ℕ) (wants : want_of tree ≡ Make object span e.call) where
    carried_is : carried_into app after e ≡ option_map_or (λ (ask : Ask). ask.carried) (ask_of tree) []
    carried_is = ap (carried_behind app) own_of_new ∙ ap (λ (x : Tree). option_map_or (λ (ask : Ask). ask.carried) (ask_of x) []) (sym left)

    left_there : with_footprint (trail_on app trace e.object) (footprint (ask_of tree)) ≡ trail_on app after e.object
    left_there = by_tree tree wants carried_is
      where
        by_test : (ids : List WriteId) → carried_into app after e ≡ ids → (b : Bool) → leaves_trail e.call ≡ b
            → with_footprint (trail_on app trace e.object) (if b then Some ids else None) ≡ trail_on app after e.object
        by_test ids is true call = ap (λ (w : List WriteId). trail_on app trace e.object ++ w ∷ []) (sym is) ∙ sym (trail_of_new true call)
        by_test ids is false call = sym (trail_of_new false call ∙ append-nil (trail_on app trace e.object))

        by_tree : (x : Tree) → want_of x ≡ Make object span e.call → carried_into app after e ≡ option_map_or (λ (ask : Ask). ask.carried) (ask_of x) []
            → with_footprint (trail_on app trace e.object) (footprint (ask_of x)) ≡ trail_on app after e.object
        by_tree (Asks ask go) wants is =
            let same : ask.call ≡ e.call = cc in
            by_test ask.carried is (leaves_trail ask.call) (sym (ap leaves_trail same))
        by_tree (Ends end) wants is = absurd (cc)

    pub trail_grows : (t n : Trail) → IsTrailOf app trace t → TrailBecomes t n e.object (with_footprint (trail_at t e.object) (footprint (ask_of tree)))
        → IsTrailOf app after n
    trail_grows t n is becomes = record {
      kept = becomes.kept ∙ is.kept;
      count = becomes.count ∙ is.count;
      each = λ o. elim (decide e.object o) as (λ _. trail_at n o ≡ trail_on app after o) [
        | inl here ↦ subst (λ (k : ℕ). trail_at n k ≡ trail_on app after k) here
            (becomes.here_is
            ∙ ap (λ (r : List (List WriteId)). with_footprint r (footprint (ask_of tree))) (is.each e.object) ∙ left_there)
        | inr other ↦ becomes.others o other ∙ is.each o ∙ sym (trail_other o other)
      ];
    }

    pub trail_grows_if : (t n : Trail) → IsTrailIfKept app trace t
        → TrailBecomes t n e.object (with_footprint (trail_at t e.object) (footprint_in t (ask_of tree))) → IsTrailIfKept app after n
    trail_grows_if t n is becomes = record {
      count = becomes.count ∙ is.count;
      trail = λ kept.
          let was : t.is_kept ≡ true = sym becomes.kept ∙ kept in
          trail_grows t n (is.trail was)
          (subst (λ (ids : Option (List WriteId)). TrailBecomes t n e.object (with_footprint (trail_at t e.object) ids)) (footprint_kept t (ask_of tree) was) becomes);
    }

-- ---- the next entry of a legal trace

module _ (app : App) (sound : IsTrue (is_sound app)) (before : List Entry) (e : Entry) (later : List Entry) (legal : IsLegalTrace app (before ++ e ∷ later)) where
  abbrev longer : List Entry
  longer = before ++ e ∷ []

  gets : Gets app before longer e
  gets = gets_next app before e later legal

  above : All (λ d. d.stamp < e.stamp) (entries_by e.actor before)
  above = next_above app sound before e later legal

  module _ (t : Trail) (is : IsTrailIfKept app before t) where
    -- a carrier's
    pub next_carried : ((b : Birth) → e.actor ≡ Acting b → ⊥) → IsTrailIfKept app longer t
    next_carried none = trail_stays_if app before longer e gets above t is (by_actor e.actor none (actor_cut app (before ++ e ∷ later) legal before e later refl))
      where
        by_actor : (a : Actor) → ((b : Birth) → a ≡ Acting b → ⊥) → IsOfActor app a (entries_by e.actor before ++ e ∷ entries_by e.actor later)
            → leaves_trail e.call ≡ false
        by_actor (Carrier number) none did =
            carries_none e.call (at_cut IsCarried (entries_by e.actor before) e (entries_by e.actor later) did).call
        by_actor (Acting b) none did = absurd (none b refl)
        by_actor Newborn none did = absurd (none_cut (entries_by e.actor before) e (entries_by e.actor later) (sym did))

    module _ (b : Birth) (at : e.actor ≡ Acting b) where
      -- the birth of a process
      pub next_born : entries_by (Acting b) before ≡ [] → IsTrailIfKept app longer t
      next_born unborn = trail_stays_if app before longer e gets above t is (bears_none e.call (next_bears app sound before e later legal b at unborn))

      -- of one that was born
      pub next_went : (p : Process) → LivesOn app before p (entries_by (Acting b) before) → (n : Trail)
          → TrailBecomes t n e.object (with_footprint (trail_at t e.object) (footprint_in t (ask_of (process_of app p)))) → IsTrailIfKept app longer n
      next_went p on n becomes =
          let left : process_of app p ≡ process_after app (entries_by (Acting b) before) =
          on.tree (next_going app sound before e later legal b at p on) in
          trail_grows_if app before longer e gets above (process_of app p)
          (left ∙ ap (λ (a : Actor). process_after app (entries_by a before)) (sym at)) e.object e.span
          (ap want_of left ∙ left_wants app sound before e later legal b at p on) t n is becomes
