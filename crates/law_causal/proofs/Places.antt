-- Entries of a legal trace by their places: each follows the history of its object and what its actor did, as they were before it.
use Rattle.std.proofs.Common.{◌≡◌, ℕ, suc, ◌<◌, ◌++◌, List, ◌∷◌, sym, eqb-true}
use Rattle.std.specs.Prelude.{Contains, Some, slice_get, take, drop}
use Rattle.anti_kind.specs.declared.actor.Actor.{Actor}
use Rattle.anti_kind.specs.declared.entry.Entry.{Entry}
use Rattle.anti_kind.specs.Objects.{Start, Follows, IsLegal}
use Rattle.anti_app.specs.declared.app.App.{App}
use Rattle.anti_object.specs.Starts.{start_of}
use Rattle.anti_trace.specs.Legal.{IsLegalTrace, IsOfActor}
use Rattle.anti_trace.specs.Traces.{entries_by, entries_on, is_by, is_on}
use Rattle.anti_trace.proofs.OfLegal.{actor_cut, follows_before, legal_before, object_there}
use Rattle.anti_trace.proofs.Puts.{same_actor_true}
use Rattle.law_causal.proofs.Lists.{IsKept, cut_at, cut_of, kept_at}

-- ---- an entry at its place

module _ (app : App) (trace : List Entry) (legal : IsLegalTrace app trace) where
  -- its object is there
  pub there : (j : ℕ) (e : Entry) → slice_get trace j ≡ Some e → (start : Start) × (start_of app e.object ≡ Some start)
  there j e at = object_there app trace legal (take j trace) e (drop (suc j) trace) (cut_at trace j e at)

  -- it follows those of its object before it
  pub comes : (j : ℕ) (e : Entry) → slice_get trace j ≡ Some e → (start : Start) → start_of app e.object ≡ Some start
      → Follows start (entries_on e.object (take j trace)) e × IsLegal start (entries_on e.object (take j trace))
  comes j e at start is =
      let cut : trace ≡ take j trace ++ e ∷ drop (suc j) trace = cut_at trace j e at in (
        follows_before app trace legal (take j trace) e (drop (suc j) trace) cut start is,
        legal_before app trace legal (take j trace) e (drop (suc j) trace) cut start is,
      )

  -- its actor did it behind what it had done
  pub did : (j : ℕ) (e : Entry) → slice_get trace j ≡ Some e
      → IsOfActor app e.actor (entries_by e.actor (take j trace) ++ e ∷ entries_by e.actor (drop (suc j) trace))
  did j e at = actor_cut app trace legal (take j trace) e (drop (suc j) trace) (cut_at trace j e at)

-- ---- entries before a place

module _ (trace : List Entry) where
  -- an entry of an object before place j stands at a place before j, behind the entries of the object before this place
  pub seen_at : (o j : ℕ) (before : List Entry) (a : Entry) (after : List Entry) → entries_on o (take j trace) ≡ before ++ a ∷ after
      → (i : ℕ) × (i < j) × (slice_get trace i ≡ Some a) × (a.object ≡ o) × (before ≡ entries_on o (take i trace))
  seen_at o j before a after is =
      let kept : IsKept (is_on o) trace j before a = kept_at (is_on o) trace j before a after is in
      (kept.place, kept.early, kept.there, eqb-true a.object o kept.passes, kept.kept)

  pub seen : (o j : ℕ) (a : Entry) → Contains (entries_on o (take j trace)) a → (i : ℕ) × (i < j) × (slice_get trace i ≡ Some a) × (a.object ≡ o)
  seen o j a among =
      let cut = cut_of (entries_on o (take j trace)) a among in
      let at = seen_at o j cut.0 a cut.1 cut.2 in
      (at.0, at.1, at.2, at.3)

  -- and an entry by an actor, behind those by the actor before this place
  pub made_at : (b : Actor) (j : ℕ) (before : List Entry) (a : Entry) (after : List Entry) → entries_by b (take j trace) ≡ before ++ a ∷ after
      → (i : ℕ) × (i < j) × (slice_get trace i ≡ Some a) × (a.actor ≡ b) × (before ≡ entries_by b (take i trace))
  made_at b j before a after is =
      let kept : IsKept (is_by b) trace j before a = kept_at (is_by b) trace j before a after is in
      (kept.place, kept.early, kept.there, sym (same_actor_true b a.actor kept.passes), kept.kept)

  pub made : (b : Actor) (j : ℕ) (a : Entry) → Contains (entries_by b (take j trace)) a → (i : ℕ) × (i < j) × (slice_get trace i ≡ Some a) × (a.actor ≡ b)
  made b j a among =
      let cut = cut_of (entries_by b (take j trace)) a among in
      let at = made_at b j cut.0 a cut.1 cut.2 in
      (at.0, at.1, at.2, at.3)
