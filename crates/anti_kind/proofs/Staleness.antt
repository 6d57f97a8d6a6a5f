-- What comes again next to a region so that its cache is not behind: it can, and where there is none, there is none behind an entry more
-- that ships nothing there.
use Rattle.std.proofs.Common.{◌≡◌, ℕ, zero, suc, ◌+◌, ◌<◌, ◌≤◌, Bool, true, false, cond, List, [], ◌∷◌, ◌++◌, Option, Some, None, refl, sym, ap, subst, ◌∙◌, ◌==◌, arith}
use Rattle.std.specs.Prelude.{bytes_eq, take, find, nat_lt, option_map}
use Rattle.std.specs.Map.{lookup, remove_entry, set_value}
use Rattle.std.proofs.lemmas.Bool.{le-ltb, ltb-true}
use Rattle.anti_kind.specs.Kinds.{facts_of}
use Rattle.anti_kind.specs.declared.awaited.Awaited.TheVariants.{Version}
use Rattle.anti_kind.specs.declared.call.Call.{Call}
use Rattle.anti_kind.specs.declared.call.Call.TheVariants.{Read, Again}
use Rattle.anti_kind.specs.declared.entry.Entry.{Entry}
use Rattle.anti_kind.specs.declared.row.Row.{Row}
use Rattle.anti_kind.specs.declared.store_kind.StoreKind.{StoreKind}
use Rattle.anti_kind.specs.Stored.{row_of, is_shipped, shows_of}
use Rattle.anti_kind.specs.Store.{Store}
use Rattle.anti_kind.specs.Objects.{store, inbox, IsLegal}
use Rattle.anti_kind.specs.Caches.{Pair, read_by, read_through, refreshed, cached_after, cache, is_behind, stale_in}
use Rattle.anti_kind.specs.Waiting.{brought, reaches, NoneStaleGoesOn, StaleIsReady}
use Rattle.anti_kind.proofs.Caching.{cache_more}
use Rattle.anti_kind.proofs.Showing.{bytes_same, shows_grow}
use Rattle.anti_kind.proofs.Tables.{shown_came}
use Rattle.anti_kind.proofs.Waiting.{ships_below}
use Rattle.anti_kind.proofs.Whole.{shows_below}

-- what is found to be behind is
found_passes : (test : Pair → Bool) (pairs : List Pair) (pair : Pair) → find test pairs ≡ Some pair → test pair ≡ true
found_passes test [] pair is = absurd (cc)
found_passes test (first ∷ pairs) pair is = by_test (test first) refl is (found_passes test pairs pair)
  where
    by_test : (here : Bool) → test first ≡ here → cond here (Some first) (find test pairs) ≡ Some pair → (find test pairs ≡ Some pair → test pair ≡ true) → test pair ≡ true
    by_test true passes same rest = let own : first ≡ pair = cc in subst (λ (x : Pair). test x ≡ true) own passes
    by_test false passes later rest = rest later

-- What is told to come again next can.
pub stale_is_ready : StaleIsReady
stale_is_ready (inbox requests) h g v is = absurd (cc)
stale_is_ready (store s) h g v is = by_cached (facts_of s.kind).cached is
  where
    by_found : (o : Option Pair) → find (is_behind s.kind h g) (cache s.kind s.room h g) ≡ o → option_map (λ (pair : Pair). shows_of s.kind h g pair.0) o ≡ Some v → is_shipped h g v 1 ≡ true
    by_found None found same = absurd (cc)
    by_found (Some pair) found same =
        let whole : shows_of s.kind h g pair.0 ≡ v = cc in
        let behind : pair.1 < shows_of s.kind h g pair.0 = ltb-true pair.1 (shows_of s.kind h g pair.0) (found_passes (is_behind s.kind h g) (cache s.kind s.room h g) pair found) in
        subst (λ (n : ℕ). is_shipped h g n 1 ≡ true) whole (shown_came s.kind h g pair.0 (omega arith))

    by_cached : (cached : Bool) → cond cached (stale_in s h g) None ≡ Some v → is_shipped h g v 1 ≡ true
    by_cached false same = absurd (cc)
    by_cached true same = by_found (find (is_behind s.kind h g) (cache s.kind s.room h g)) refl same

-- No pair is behind.

module _ (kind : StoreKind) (h : List Entry) (g : ℕ) where
  abbrev NoneBehind : List Pair → Type 0
  NoneBehind pairs = find (is_behind kind h g) pairs ≡ None

  abbrev IsFresh : Pair → Type 0
  IsFresh pair = is_behind kind h g pair ≡ false

  fresh_first : (pair : Pair) (pairs : List Pair) → NoneBehind (pair ∷ pairs) → IsFresh pair
  fresh_first pair pairs none = by_test (is_behind kind h g pair) refl none
    where
      by_test : (here : Bool) → is_behind kind h g pair ≡ here → cond here (Some pair) (find (is_behind kind h g) pairs) ≡ None → IsFresh pair
      by_test true is none = absurd (cc)
      by_test false is none = is

  fresh_rest : (pair : Pair) (pairs : List Pair) → NoneBehind (pair ∷ pairs) → NoneBehind pairs
  fresh_rest pair pairs none = sym (ap (λ (b : Bool). cond b (Some pair) (find (is_behind kind h g) pairs)) (fresh_first pair pairs none)) ∙ none

  fresh_more : (pair : Pair) (pairs : List Pair) → IsFresh pair → NoneBehind pairs → NoneBehind (pair ∷ pairs)
  fresh_more pair pairs first rest = ap (λ (b : Bool). cond b (Some pair) (find (is_behind kind h g) pairs)) first ∙ rest

  fresh_removed : (test : List ℕ → Bool) (pairs : List Pair) → NoneBehind pairs → NoneBehind (remove_entry test pairs)
  fresh_removed test [] none = refl
  fresh_removed test (pair ∷ pairs) none = by_test (test pair.0) (fresh_removed test pairs (fresh_rest pair pairs none))
    where
      by_test : (here : Bool) → NoneBehind (remove_entry test pairs) → NoneBehind (cond here pairs (pair ∷ remove_entry test pairs))
      by_test true rest = fresh_rest pair pairs none
      by_test false rest = fresh_more pair (remove_entry test pairs) (fresh_first pair pairs none) rest

  fresh_taken : (n : ℕ) (pairs : List Pair) → NoneBehind pairs → NoneBehind (take n pairs)
  fresh_taken zero pairs none = refl
  fresh_taken (suc n) [] none = refl
  fresh_taken (suc n) (pair ∷ pairs) none = fresh_more pair (take n pairs) (fresh_first pair pairs none) (fresh_taken n pairs (fresh_rest pair pairs none))

  -- what is whole is not behind
  whole_fresh : (k : List ℕ) → IsFresh (k, shows_of kind h g k)
  whole_fresh k = le-ltb (shows_of kind h g k) (shows_of kind h g k) (omega arith)

  fresh_set : (k : List ℕ) (pairs : List Pair) → NoneBehind pairs → NoneBehind (set_value (bytes_eq k) pairs (shows_of kind h g k))
  fresh_set k [] none = refl
  fresh_set k (pair ∷ pairs) none = by_test (bytes_eq k pair.0) refl (fresh_set k pairs (fresh_rest pair pairs none))
    where
      by_test : (here : Bool) → bytes_eq k pair.0 ≡ here → NoneBehind (set_value (bytes_eq k) pairs (shows_of kind h g k)) → NoneBehind (cond here ((pair.0, shows_of kind h g k) ∷ pairs) (pair ∷ set_value (bytes_eq k) pairs (shows_of kind h g k)))
      by_test true is rest =
          fresh_more (pair.0, shows_of kind h g k) pairs (subst (λ (x : List ℕ). IsFresh (x, shows_of kind h g k)) (bytes_same k pair.0 is) (whole_fresh k)) (fresh_rest pair pairs none)
      by_test false is rest = fresh_more pair (set_value (bytes_eq k) pairs (shows_of kind h g k)) (fresh_first pair pairs none) rest

  fresh_found : (k : List ℕ) (v : ℕ) (pairs : List Pair) → NoneBehind pairs → lookup (bytes_eq k) pairs ≡ Some v → IsFresh (k, v)
  fresh_found k v [] none found = absurd (cc)
  fresh_found k v (pair ∷ pairs) none found = by_test (bytes_eq k pair.0) refl found (fresh_found k v pairs (fresh_rest pair pairs none))
    where
      by_test : (here : Bool) → bytes_eq k pair.0 ≡ here → cond here (Some pair.1) (lookup (bytes_eq k) pairs) ≡ Some v → (lookup (bytes_eq k) pairs ≡ Some v → IsFresh (k, v)) → IsFresh (k, v)
      by_test true is same rest =
          let own : pair.1 ≡ v = cc in
          subst (λ (n : ℕ). IsFresh (k, n)) own (subst (λ (x : List ℕ). IsFresh (x, pair.1)) (sym (bytes_same k pair.0 is)) (fresh_first pair pairs none))
      by_test false is later rest = rest later

  fresh_read : (room : ℕ) (k : List ℕ) (pairs : List Pair) → NoneBehind pairs → NoneBehind (read_through room k (shows_of kind h g k) pairs)
  fresh_read room k pairs none = by_found (lookup (bytes_eq k) pairs) refl
    where
      by_whole : (empty : Bool) → NoneBehind (cond empty pairs (take room ((k, shows_of kind h g k) ∷ pairs)))
      by_whole true = none
      by_whole false = fresh_taken room ((k, shows_of kind h g k) ∷ pairs) (fresh_more (k, shows_of kind h g k) pairs (whole_fresh k) none)

      by_found : (o : Option ℕ) → lookup (bytes_eq k) pairs ≡ o → NoneBehind (read_by room k (shows_of kind h g k) o pairs)
      by_found (Some v) found = fresh_more (k, v) (remove_entry (bytes_eq k) pairs) (fresh_found k v pairs none found) (fresh_removed (bytes_eq k) pairs none)
      by_found None found = by_whole (shows_of kind h g k == 0)

  fresh_refreshed : (o : Option Row) (pairs : List Pair) → NoneBehind pairs → NoneBehind (refreshed kind h g o pairs)
  fresh_refreshed None pairs none = none
  fresh_refreshed (Some r) pairs none = fresh_set r.key pairs none

  fresh_after : (room : ℕ) (c : Call) (pairs : List Pair) → NoneBehind pairs → NoneBehind (cached_after kind room h g c pairs)
  fresh_after room (Read region k) pairs none = by_region (region == g)
    where
      by_region : (here : Bool) → NoneBehind (cond here (read_through room k (shows_of kind h g k) pairs) pairs)
      by_region true = fresh_read room k pairs none
      by_region false = none
  fresh_after room (Again region v p) pairs none = by_region (region == g)
    where
      by_region : (here : Bool) → NoneBehind (cond here (refreshed kind h g (row_of h v) pairs) pairs)
      by_region true = fresh_refreshed (row_of h v) pairs none
      by_region false = none
  fresh_after room _ pairs none = none

-- what is whole stays where nothing is shipped
whole_same : (s : Store) (h : List Entry) (e : Entry) (g : ℕ) → IsLegal (store s) (h ++ e ∷ []) → reaches (brought e.call) (Version g 0) ≡ false
    → (k : List ℕ) → shows_of s.kind (h ++ e ∷ []) g k ≡ shows_of s.kind h g k
whole_same s h e g l off k =
    let grows : shows_of s.kind h g k ≤ shows_of s.kind (h ++ e ∷ []) g k = shows_grow s.kind h (e ∷ []) g k in
    let below : shows_of s.kind (h ++ e ∷ []) g k < shows_of s.kind h g k + 1 =
    shows_below s h e l g k (shows_of s.kind h g k + 1) (λ w above. ships_below e.call g 0 off w (omega arith)) (omega arith) in
    omega arith

none_mapped : (f : Pair → ℕ) (o : Option Pair) → option_map f o ≡ None → o ≡ None
none_mapped f None is = refl
none_mapped f (Some pair) is = absurd (cc)

pub none_stale_goes_on : NoneStaleGoesOn
none_stale_goes_on (inbox requests) h e g l none off = refl
none_stale_goes_on (store s) h e g l none off = by_cached (facts_of s.kind).cached none
  where
    by_cached : (cached : Bool) → cond cached (stale_in s h g) None ≡ None → cond cached (stale_in s (h ++ e ∷ []) g) None ≡ None
    by_cached false is = refl
    by_cached true is =
        let before : NoneBehind s.kind h g (cache s.kind s.room h g) = none_mapped (λ (pair : Pair). shows_of s.kind h g pair.0) (find (is_behind s.kind h g) (cache s.kind s.room h g)) is in
        let after : NoneBehind s.kind h g (cache s.kind s.room (h ++ e ∷ []) g) =
        subst (NoneBehind s.kind h g) (sym (cache_more s.kind s.room h e g)) (fresh_after s.kind h g s.room e.call (cache s.kind s.room h g) before) in
        let same : (k : List ℕ) → shows_of s.kind (h ++ e ∷ []) g k ≡ shows_of s.kind h g k = whole_same s h e g l off in
        let tests : is_behind s.kind (h ++ e ∷ []) g ≡ is_behind s.kind h g = λ i pair. nat_lt pair.1 (same pair.0 i) in
        ap (option_map (λ (pair : Pair). shows_of s.kind (h ++ e ∷ []) g pair.0))
        (ap (λ (test : Pair → Bool). find test (cache s.kind s.room (h ++ e ∷ []) g)) tests ∙ after)
