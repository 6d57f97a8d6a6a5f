-- Objects that were closed: their histories make a trace, and are those of its world.
use Rattle.std.proofs.Common.{◌≡◌, ℕ, zero, suc, ◌+◌, ◌<◌, ◌^◌, ◌++◌, max, List, [], ◌∷◌, length, map, get_or, take, Bool, refl, true, false, sym, ap, ◌∙◌, subst, arith, inl, inr, append-nil, append_assoc}
use Rattle.std.specs.Prelude.{All, IfOk, IsTrue, Option, None, Some, Result, Ok, Err, option_map, slice_get, slice_set}
use Rattle.std.proofs.lemmas.List.{get_or-map, length-map, length-set, take_more}
use Rattle.std.proofs.lemmas.List.Elements.{All-nil, filter-append}
use Rattle.std.proofs.lemmas.Option.{get_or_from_slice_get, none-some, same_Some, slice_get-get_or, slice_get-map, slice_get_cases}
use Rattle.anti_ids.specs.List.{Listed, empty}
use Rattle.anti_ids.specs.ListCalls.{pushed}
use Rattle.anti_ids.specs.declared.memory.NoMemory.{NoMemory}
use Rattle.anti_kind.specs.declared.actor.Actor.{Actor}
use Rattle.anti_kind.specs.declared.actor.Actor.TheVariants.{Carrier}
use Rattle.anti_kind.specs.declared.entry.Entry.{Entry}
use Rattle.anti_kind.specs.Objects.{Start, IsLegal, last_stamp}
use Rattle.anti_kind.specs.Records.{Record}
use Rattle.anti_kind.proofs.Histories.{last_stamp-append}
use Rattle.anti_app.specs.declared.app.App.{App}
use Rattle.anti_app.specs.Objects.{object_count}
use Rattle.anti_app.specs.Sound.{is_sound}
use Rattle.anti_object.specs.declared.object.Object.{Object}
use Rattle.anti_object.specs.Standing.{ObjectAt, object_start}
use Rattle.anti_object.specs.Starts.{start_of}
use Rattle.anti_trace.specs.Traces.{entries_by, entries_on, is_by}
use Rattle.anti_trace.specs.Histories.{AreHistories, all_entries}
use Rattle.anti_trace.specs.Legal.{IsLegalTrace}
use Rattle.anti_trace.specs.inner.Heads as heads
use Rattle.anti_trace.specs.inner.Living.{AreProcessesOf, lists}
use Rattle.anti_trace.specs.inner.Trails.{IsTrailIfKept}
use Rattle.anti_trace.proofs.ByNumber.{on_number}
use Rattle.anti_trace.proofs.Changed.{set_here, set_other}
use Rattle.anti_trace.proofs.GonePast.{entries_on_next, entries_on_past}
use Rattle.anti_trace.proofs.Living.{decide}
use Rattle.anti_trace.proofs.Puts.{filter-no, filter-yes}
use Rattle.anti_play.specs.declared.world.World.{World}
use Rattle.anti_play.specs.inner.Kepts.{AreBack, AreBare, AreKept, HasHistories, IsBackAt, IsBareAt, IsKeptAt, IsWith, Kept, at_last, bare, history_at, history_of, taken, with_entry}
use Rattle.anti_play.specs.inner.Standing.{AllStand, IsObject, WorldStands}
use Rattle.anti_play.proofs.OneTrace.{can_merge, few_merged}

-- ---- what is kept can be merged

taken_at : (kepts : List Kept) (o : ℕ) → heads.history_at (map taken kepts) o ≡ history_at kepts o
taken_at [] o = refl
taken_at (k ∷ ks) zero = refl
taken_at (k ∷ ks) (suc o) = taken_at ks o

module _ (app : App) (kepts : List Kept) (are : AreKept app kepts) where
  legal_at : (o : ℕ) (start : Start) → start_of app o ≡ Some start → IsLegal start (history_at kepts o)
  legal_at o start there = by_found (slice_get kepts o) refl
    where
      by_found : (found : Option Kept) → slice_get kepts o ≡ found → IsLegal start (history_of found)
      by_found None at = tt
      by_found (Some kept) at =
          let is : IsKeptAt app o kept = are.each o kept at in
          subst (λ (x : Start). IsLegal x kept.1.items) (same_Some (object_start kept.0) start (sym is.start ∙ there)) is.stands.legal

  own_at : (o : ℕ) → All (λ e. e.object ≡ o) (history_at kepts o)
  own_at o = by_found (slice_get kepts o) refl
    where
      by_found : (found : Option Kept) → slice_get kepts o ≡ found → All (λ e. e.object ≡ o) (history_of found)
      by_found None at = All-nil (λ (e : Entry). e.object ≡ o)
      by_found (Some kept) at = (are.each o kept at).own

  module _ (hs : List (Listed Entry)) (is : hs ≡ map taken kepts) where
    at_number : (o : ℕ) → heads.history_at hs o ≡ history_at kepts o
    at_number o = ap (λ (xs : List (Listed Entry)). heads.history_at xs o) is ∙ taken_at kepts o

    many : length hs ≡ object_count app
    many = ap length is ∙ length-map kepts taken ∙ are.count

    legal_taken : (o : ℕ) (start : Start) → start_of app o ≡ Some start → IsLegal start (heads.history_at hs o)
    legal_taken o start there = subst (IsLegal start) (sym (at_number o)) (legal_at o start there)

    own_taken : (o : ℕ) → All (λ e. e.object ≡ o) (heads.history_at hs o)
    own_taken o = subst (All (λ e. e.object ≡ o)) (sym (at_number o)) (own_at o)

    pub can_merge_kept : AreHistories hs
    can_merge_kept = can_merge app hs many legal_taken own_taken

    pub few_kept : IsTrue (is_sound app) → length (all_entries hs) < 2 ^ 32
    few_kept sound = few_merged app hs many legal_taken own_taken sound

    -- what has the entries of all on each object has their histories
    pub has_histories : (trace : List Entry) → ((o : ℕ) → entries_on o trace ≡ entries_on o (all_entries hs)) → HasHistories trace kepts
    has_histories trace same o = same o ∙ on_number o hs own_taken ∙ at_number o

  -- without their histories they are ready for those of the trace
  module _ (trace : List Entry) (has : HasHistories trace kepts) where
    bare_at : (o : ℕ) (kept : Kept) → slice_get kepts o ≡ Some kept → IsBareAt app trace o (bare kept)
    bare_at o kept at =
        let is : IsKeptAt app o kept = are.each o kept at in
        record { start = is.start; stands = subst (ObjectAt kept.0) (sym (has o ∙ ap history_of at)) is.stands; none = refl }

    pub are_bare : (objects : List Kept) → objects ≡ map bare kepts → AreBare app trace objects
    are_bare objects is = record {
      count = ap length is ∙ length-map kepts bare ∙ are.count;
      each = λ o kept at. by_found o kept (slice_get kepts o) refl (sym (ap (λ (xs : List Kept). slice_get xs o) is ∙ slice_get-map bare kepts o) ∙ at);
    }
      where
        by_found : (o : ℕ) (kept : Kept) (found : Option Kept) → slice_get kepts o ≡ found → option_map bare found ≡ Some kept → IsBareAt app trace o kept
        by_found o kept None none at = absurd (none-some kept at)
        by_found o kept (Some k) there at = subst (IsBareAt app trace o) (same_Some (bare k) kept at) (bare_at o k there)

-- ---- an entry is given back

-- that of the pair which was read
pub back_at : (was now : List Kept) (e : Entry) (kept : Kept) (h : Listed Entry) → kept ≡ get_or was e.object kept → e.object < length was
    → now ≡ slice_set was e.object (kept.0, h) → h ≡ pushed kept.1 e → IsBackAt was e now
back_at was now e kept h is low set put = record {
  kept = kept;
  there = slice_get-get_or was e.object kept low ∙ ap Some (sym is);
  now_are = set ∙ ap (λ (x : Listed Entry). slice_set was e.object (kept.0, x)) put;
}

-- nothing is given back yet
pub back_none : (was : List Kept) → AreBack was [] was
back_none was = record { count = refl; each = λ o kept at. record { history = kept.1; now_is = at; entries = sym (append-nil kept.1.items) } }

module _ (was : List Kept) (before : List Entry) (now : List Kept) (b : AreBack was before now) (e : Entry) (new : List Kept) (at_e : IsBackAt now e new) where
  module _ (o : ℕ) (kept : Kept) (w : IsWith kept (entries_on o before) (slice_get now o)) where
    back_here : e.object ≡ o → e.object < length now → IsWith kept (entries_on o (before ++ e ∷ [])) (slice_get new o)
    back_here here low =
        let found : slice_get now o ≡ Some at_e.kept = subst (λ (k : ℕ). slice_get now k ≡ Some at_e.kept) here at_e.there in
        let same : at_e.kept ≡ (kept.0, w.history) = same_Some at_e.kept (kept.0, w.history) (sym found ∙ w.now_is) in
        let set : slice_get new e.object ≡ Some (with_entry e at_e.kept) =
        ap (λ (xs : List Kept). slice_get xs e.object) at_e.now_are ∙ set_here now e.object (with_entry e at_e.kept) low in
        record {
          history = pushed w.history e;
          now_is = subst (λ (k : ℕ). slice_get new k ≡ Some (with_entry e at_e.kept)) here set ∙ ap (λ (k : Kept). Some (with_entry e k)) same;
          entries =
              ap (λ (h : List Entry). h ++ e ∷ []) w.entries ∙ append_assoc kept.1.items (entries_on o before) (e ∷ [])
              ∙ ap (λ (h : List Entry). kept.1.items ++ h) (sym (subst (λ (k : ℕ). entries_on k (before ++ e ∷ []) ≡ entries_on k before ++ e ∷ []) here (entries_on_next before e)));
        }

    back_other : (e.object ≡ o → ⊥) → IsWith kept (entries_on o (before ++ e ∷ [])) (slice_get new o)
    back_other other = record {
      history = w.history;
      now_is = ap (λ (xs : List Kept). slice_get xs o) at_e.now_are ∙ set_other now e.object (with_entry e at_e.kept) o other ∙ w.now_is;
      entries = w.entries ∙ ap (λ (h : List Entry). kept.1.items ++ h) (sym (entries_on_past o before e other));
    }

  pub back_more : e.object < length was → AreBack was (before ++ e ∷ []) new
  back_more low = record {
    count = ap length at_e.now_are ∙ length-set now e.object (with_entry e at_e.kept) ∙ b.count;
    each = λ o kept at. elim (decide e.object o) as (λ _. IsWith kept (entries_on o (before ++ e ∷ [])) (slice_get new o)) [
      | inl here ↦ back_here o kept (b.each o kept at) here (let count = b.count in omega arith)
      | inr other ↦ back_other o kept (b.each o kept at) other
    ];
  }

-- ---- all are given back

module _ (app : App) (trace : List Entry) (objects : List Kept) (are : AreBare app trace objects) (now : List Kept) (back : AreBack objects trace now) where
  -- an object stands for its history again
  abbrev IsAgain : ℕ → Kept → Type 0
  IsAgain o kept = (start_of app o ≡ Some (object_start kept.0)) × ObjectAt kept.0 kept.1.items × (kept.1.items ≡ entries_on o trace)

  again : (o : ℕ) (d : Kept) → o < length now → IsAgain o (get_or now o d)
  again o d low = elim ((slice_get_cases objects o).1) as (λ _. IsAgain o (get_or now o d)) [
    | inl found ↦
        let kept : Kept = found.0 in
        let is : IsBareAt app trace o kept = are.each o kept found.2 in
        let w : IsWith kept (entries_on o trace) (slice_get now o) = back.each o kept found.2 in
        let whole : w.history.items ≡ entries_on o trace = w.entries ∙ ap (λ (h : List Entry). h ++ entries_on o trace) is.none in
        let same : Kept = (kept.0, w.history) in
        subst (IsAgain o) (sym (get_or_from_slice_get now o same d w.now_is))
        (is.start, subst (ObjectAt kept.0) (sym whole) is.stands, whole)
    | inr past ↦ absurd (let long = past.0 in let count = back.count in omega arith)
  ]

  all_again : All (λ kept. ObjectAt kept.0 kept.1.items) now
  all_again o d low = (again o d low).1

  again_stand : (recorded : List (Record Object)) → recorded ≡ map at_last now → AllStand app recorded trace
  again_stand recorded is = subst (λ (rs : List (Record Object)). AllStand app rs trace) (sym is) (record {
    count = length-map now at_last ∙ back.count ∙ are.count;
    each = λ o d low.
        let there : o < length now = omega (arith, length-map now at_last, low) in
        let k : Kept = (d.machine, empty) in
        let is : IsAgain o (get_or now o k) = again o k there in
        subst (λ (r : Record Object). IsObject app o r (entries_on o trace)) (sym (get_or-map at_last now o k d there)) (record { start = is.0; history = is.2 });
  })

-- ---- the world

-- each entry of a legal trace is on one of the objects
pub all_within : (app : App) (trace : List Entry) (objects : List Kept) → IsLegalTrace app trace → AreBare app trace objects → (entries : List Entry) → entries ≡ trace
    → All (λ e. e.object < length objects) entries
all_within app trace objects legal are entries is =
    subst (λ (es : List Entry). All (λ e. e.object < length objects) es) (sym is)
    (λ k d low. let there : (get_or trace k d).object < object_count app = legal.there k d low in let count = are.count in omega arith)

pub world_along : (app : App) (trace : List Entry) (w : World) → IsLegalTrace app trace → (objects : List Kept) → AreBare app trace objects
    → (entries : List Entry) → entries ≡ trace → (now : List Kept) → AreBack objects entries now → w.objects.items ≡ map at_last now
    → (walked : List Entry) → walked ≡ trace → AreProcessesOf app (lists w.processes) walked → IsTrailIfKept app walked w.trail
    → w.carrier ≡ last_stamp (entries_by (Carrier 0) walked) → WorldStands app w trace
world_along app trace w legal objects are entries is now back recorded walked same processes trail carrier = record {
  run = legal;
  objects = again_stand app trace objects are now (subst (λ (es : List Entry). AreBack objects es now) is back) w.objects.items recorded;
  processes = subst (AreProcessesOf app (lists w.processes)) same processes;
  trail = subst (λ (es : List Entry). IsTrailIfKept app es w.trail) same trail;
  carrier = carrier ∙ ap (λ (es : List Entry). last_stamp (entries_by (Carrier 0) es)) same;
}

-- the objects stand for their histories again
pub stand_again : (app : App) (trace : List Entry) (objects : List Kept) → AreBare app trace objects → (entries : List Entry) → entries ≡ trace → (now : List Kept)
    → AreBack objects entries now → All (λ kept. ObjectAt kept.0 kept.1.items) now
stand_again app trace objects are entries is now back = all_again app trace objects are now (subst (λ (es : List Entry). AreBack objects es now) is back)

-- it stands for a trace that has the histories
pub stands_for_kept : (app : App) (trace : List Entry) (kepts : List Kept) → HasHistories trace kepts → (r : Result World NoMemory) → IfOk r (λ w. WorldStands app w trace)
    → IfOk r (λ w. (t : List Entry) × WorldStands app w t × HasHistories t kepts)
stands_for_kept app trace kepts has (Ok w) stands = (trace, stands, has)
stands_for_kept app trace kepts has (Err e) stands = tt

-- ---- the stamps of an actor

pub own_stamp : (a : Actor) (e : Entry) (test : Bool) → test ≡ is_by a e → test ≡ true → e.stamp ≡ last_stamp (entries_by a (e ∷ []))
own_stamp a e test is own = sym (ap last_stamp (filter-yes (is_by a) e [] (sym is ∙ own)) ∙ max_none e.stamp)
  where
    max_none : (n : ℕ) → max n 0 ≡ n
    max_none n = omega arith

pub other_stamp : (a : Actor) (e : Entry) (test : Bool) → test ≡ is_by a e → test ≡ false → (let none : ℕ = 0 in none) ≡ last_stamp (entries_by a (e ∷ []))
other_stamp a e test is other = sym (ap last_stamp (filter-no (is_by a) e [] (sym is ∙ other)))

pub stamp_more : (a : Actor) (trace : List Entry) (i : ℕ) (e : Entry) → i < length trace → e ≡ get_or trace i e
    → max (last_stamp (entries_by a (e ∷ []))) (last_stamp (entries_by a (take i trace))) ≡ last_stamp (entries_by a (take (i + 1) trace))
stamp_more a trace i e low is =
    let more : take (i + 1) trace ≡ take i trace ++ e ∷ [] = take_more trace i e low ∙ ap (λ (x : Entry). take i trace ++ x ∷ []) (sym is) in
    let both : last_stamp (entries_by a (take i trace ++ e ∷ [])) ≡ max (last_stamp (entries_by a (take i trace))) (last_stamp (entries_by a (e ∷ []))) =
    ap last_stamp (filter-append (is_by a) (take i trace) (e ∷ [])) ∙ last_stamp-append (entries_by a (take i trace)) (entries_by a (e ∷ [])) in
    let all : last_stamp (entries_by a (take (i + 1) trace)) ≡ last_stamp (entries_by a (take i trace ++ e ∷ [])) = ap (λ (t : List Entry). last_stamp (entries_by a t)) more in
    omega arith
