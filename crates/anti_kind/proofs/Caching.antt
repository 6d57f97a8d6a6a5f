-- What a region of a store with caches shows: what was written, and never less.
use Rattle.std.proofs.Common.{◌≡◌, ℕ, zero, suc, ◌<◌, ◌≤◌, Bool, true, false, cond, List, [], ◌∷◌, ◌++◌, Option, Some, None, refl, sym, ap, subst, ◌∙◌, ◌⊎◌, inl, inr, ⊎_elim, ◌==◌, eq-eqb, true≢false, append-nil, append_assoc, arith, unwrap_or}
use Rattle.std.proofs.lemmas.Bool.{cases_lt}
use Rattle.std.specs.Prelude.{bytes_eq, take}
use Rattle.std.specs.Map.{lookup, remove_entry, set_value}
use Rattle.anti_kind.specs.Kinds.{facts_of}
use Rattle.anti_kind.specs.declared.call.Call.{Call}
use Rattle.anti_kind.specs.declared.call.Call.TheVariants.{Read, Again}
use Rattle.anti_kind.specs.declared.entry.Entry.{Entry}
use Rattle.anti_kind.specs.declared.row.Row.{Row}
use Rattle.anti_kind.specs.declared.store_kind.StoreKind.{StoreKind}
use Rattle.anti_kind.specs.Stored.{rows, row_of, is_whole, shows_of}
use Rattle.anti_kind.specs.Store.{Store, is_written}
use Rattle.anti_kind.specs.Objects.{store, IsLegal}
use Rattle.anti_kind.specs.Caches.{Pair, read_by, read_through, refreshed, cached_after, cache_from, cache, cached_shows, shows_by}
use Rattle.anti_kind.specs.Fulls.{ShowsStay}
use Rattle.anti_kind.specs.Laws.{NeverFalls, id_of, ShowsAsItsKind, ShowsWritten, KeepsLaws}
use Rattle.anti_kind.proofs.Histories.{legal_front, by_entries}
use Rattle.anti_kind.proofs.Showing.{bytes_same, written_stays, shows_grow, greatest_among, never_falls, shows_written}
use Rattle.anti_kind.proofs.Keeping.{laws_of_shows}

-- A cache behind one entry more.

from_more : (kind : StoreKind) (room : ℕ) (before : List Entry) (g : ℕ) (pairs : List Pair) (h : List Entry) (e : Entry)
    → cache_from kind room before g pairs (h ++ e ∷ []) ≡ cached_after kind room (before ++ h) g e.call (cache_from kind room before g pairs h)
from_more kind room before g pairs [] e = ap (λ (x : List Entry). cached_after kind room x g e.call pairs) (sym (append-nil before))
from_more kind room before g pairs (d ∷ h) e =
    from_more kind room (before ++ d ∷ []) g (cached_after kind room before g d.call pairs) h e
    ∙ ap (λ (x : List Entry). cached_after kind room x g e.call (cache_from kind room (before ++ d ∷ []) g (cached_after kind room before g d.call pairs) h)) (append_assoc before (d ∷ []) h)

pub cache_more : (kind : StoreKind) (room : ℕ) (h : List Entry) (e : Entry) (g : ℕ) → cache kind room (h ++ e ∷ []) g ≡ cached_after kind room h g e.call (cache kind room h g)
cache_more kind room h e g = from_more kind room [] g [] h e

-- What becomes of a key: it falls out, or stays as it was, or has what is whole.

abbrev version_in : List ℕ → List Pair → Option ℕ
version_in k pairs = lookup (bytes_eq k) pairs

abbrev Becomes : ℕ → List ℕ → List Pair → List Pair → Type 0
Becomes whole k old new = (version_in k new ≡ None) ⊎ ((version_in k new ≡ version_in k old) ⊎ (version_in k new ≡ Some whole))

in_front : (n : ℕ) (test : List ℕ → Bool) (pairs : List Pair) → (lookup test (take n pairs) ≡ None) ⊎ (lookup test (take n pairs) ≡ lookup test pairs)
in_front zero test pairs = inl refl
in_front (suc n) test [] = inl refl
in_front (suc n) test (pair ∷ pairs) = by_test (test pair.0) (in_front n test pairs)
  where
    by_test : (here : Bool) → (lookup test (take n pairs) ≡ None) ⊎ (lookup test (take n pairs) ≡ lookup test pairs) → (cond here (Some pair.1) (lookup test (take n pairs)) ≡ None) ⊎ (cond here (Some pair.1) (lookup test (take n pairs)) ≡ cond here (Some pair.1) (lookup test pairs))
    by_test true rest = inr refl
    by_test false rest = rest

other_apart : (j k x : List ℕ) → bytes_eq k j ≡ false → bytes_eq j x ≡ true → bytes_eq k x ≡ false
other_apart j k x apart same = ap (bytes_eq k) (sym (bytes_same j x same)) ∙ apart

others_stay : (j k : List ℕ) → bytes_eq k j ≡ false → (pairs : List Pair) → version_in k (remove_entry (bytes_eq j) pairs) ≡ version_in k pairs
others_stay j k apart [] = refl
others_stay j k apart (pair ∷ pairs) = by_test (bytes_eq j pair.0) refl (others_stay j k apart pairs)
  where
    by_test : (here : Bool) → bytes_eq j pair.0 ≡ here → version_in k (remove_entry (bytes_eq j) pairs) ≡ version_in k pairs
        → version_in k (cond here pairs (pair ∷ remove_entry (bytes_eq j) pairs)) ≡ version_in k (pair ∷ pairs)
    by_test true is rest = sym (ap (λ (b : Bool). cond b (Some pair.1) (version_in k pairs)) (other_apart j k pair.0 apart is))
    by_test false is rest = ap (cond (bytes_eq k pair.0) (Some pair.1)) rest

set_becomes : (j k : List ℕ) (at_j at_k : ℕ) → (j ≡ k → at_j ≡ at_k) → (pairs : List Pair) → Becomes at_k k pairs (set_value (bytes_eq j) pairs at_j)
set_becomes j k at_j at_k same [] = inl refl
set_becomes j k at_j at_k same (pair ∷ pairs) = by_tests (bytes_eq j pair.0) (bytes_eq k pair.0) refl refl (set_becomes j k at_j at_k same pairs)
  where
    by_tests : (set here : Bool) → bytes_eq j pair.0 ≡ set → bytes_eq k pair.0 ≡ here → Becomes at_k k pairs (set_value (bytes_eq j) pairs at_j)
        → Becomes at_k k (pair ∷ pairs) (cond set ((pair.0, at_j) ∷ pairs) (pair ∷ set_value (bytes_eq j) pairs at_j))
    by_tests true true set here rest =
        inr (inr (ap (λ (b : Bool). cond b (Some at_j) (version_in k pairs)) here ∙ ap Some (same (bytes_same j pair.0 set ∙ sym (bytes_same k pair.0 here)))))
    by_tests true false set here rest =
        inr (inl (ap (λ (b : Bool). cond b (Some at_j) (version_in k pairs)) here ∙ sym (ap (λ (b : Bool). cond b (Some pair.1) (version_in k pairs)) here)))
    by_tests false true set here rest =
        inr (inl (ap (λ (b : Bool). cond b (Some pair.1) (version_in k (set_value (bytes_eq j) pairs at_j))) here ∙ sym (ap (λ (b : Bool). cond b (Some pair.1) (version_in k pairs)) here)))
    by_tests false false set here rest =
        let now : version_in k (pair ∷ set_value (bytes_eq j) pairs at_j) ≡ version_in k (set_value (bytes_eq j) pairs at_j) =
        ap (λ (b : Bool). cond b (Some pair.1) (version_in k (set_value (bytes_eq j) pairs at_j))) here in
        let was : version_in k (pair ∷ pairs) ≡ version_in k pairs = ap (λ (b : Bool). cond b (Some pair.1) (version_in k pairs)) here in
        ⊎_elim (λ (none : version_in k (set_value (bytes_eq j) pairs at_j) ≡ None). inl (now ∙ none))
        (λ (more : (version_in k (set_value (bytes_eq j) pairs at_j) ≡ version_in k pairs) ⊎ (version_in k (set_value (bytes_eq j) pairs at_j) ≡ Some at_k)).
        ⊎_elim (λ (stays : version_in k (set_value (bytes_eq j) pairs at_j) ≡ version_in k pairs). inr (inl (now ∙ (stays ∙ sym was))))
        (λ (whole : version_in k (set_value (bytes_eq j) pairs at_j) ≡ Some at_k). inr (inr (now ∙ whole))) more)
        rest

-- a read of the key j
read_becomes : (room : ℕ) (j k : List ℕ) (at_j at_k : ℕ) → (j ≡ k → at_j ≡ at_k) → (pairs : List Pair) → Becomes at_k k pairs (read_through room j at_j pairs)
read_becomes room j k at_j at_k same pairs = by_found (version_in j pairs) (bytes_eq k j) refl refl
  where
    by_found : (found : Option ℕ) (own : Bool) → version_in j pairs ≡ found → bytes_eq k j ≡ own → Becomes at_k k pairs (read_by room j at_j found pairs)
    by_found (Some version) true found own =
        inr (inl (ap (λ (b : Bool). cond b (Some version) (version_in k (remove_entry (bytes_eq j) pairs))) own
        ∙ (sym found ∙ ap (λ (x : List ℕ). version_in x pairs) (sym (bytes_same k j own)))))
    by_found (Some version) false found own =
        inr (inl (ap (λ (b : Bool). cond b (Some version) (version_in k (remove_entry (bytes_eq j) pairs))) own ∙ others_stay j k own pairs))
    by_found None own found is = by_whole (at_j == 0)
      where
        put : Becomes at_k k pairs (take room ((j, at_j) ∷ pairs))
        put =
            ⊎_elim (λ (none : version_in k (take room ((j, at_j) ∷ pairs)) ≡ None). inl none)
            (λ (kept : version_in k (take room ((j, at_j) ∷ pairs)) ≡ version_in k ((j, at_j) ∷ pairs)). inr (by_own own is kept))
            (in_front room (bytes_eq k) ((j, at_j) ∷ pairs))
          where
            by_own : (here : Bool) → bytes_eq k j ≡ here → version_in k (take room ((j, at_j) ∷ pairs)) ≡ version_in k ((j, at_j) ∷ pairs)
                → (version_in k (take room ((j, at_j) ∷ pairs)) ≡ version_in k pairs) ⊎ (version_in k (take room ((j, at_j) ∷ pairs)) ≡ Some at_k)
            by_own true here kept =
                inr (kept ∙ (ap (λ (b : Bool). cond b (Some at_j) (version_in k pairs)) here ∙ ap Some (same (sym (bytes_same k j here)))))
            by_own false here kept = inl (kept ∙ ap (λ (b : Bool). cond b (Some at_j) (version_in k pairs)) here)

        by_whole : (none : Bool) → Becomes at_k k pairs (cond none pairs (take room ((j, at_j) ∷ pairs)))
        by_whole true = inr (inl refl)
        by_whole false = put

-- what comes again, of the row that was found
again_becomes : (kind : StoreKind) (h : List Entry) (g : ℕ) (o : Option Row) (k : List ℕ) (pairs : List Pair) → Becomes (shows_of kind h g k) k pairs (refreshed kind h g o pairs)
again_becomes kind h g None k pairs = inr (inl refl)
again_becomes kind h g (Some r) k pairs = set_becomes r.key k (shows_of kind h g r.key) (shows_of kind h g k) (λ same. ap (shows_of kind h g) same) pairs

-- any call
call_becomes : (kind : StoreKind) (room : ℕ) (h : List Entry) (g : ℕ) (c : Call) (k : List ℕ) (pairs : List Pair) → Becomes (shows_of kind h g k) k pairs (cached_after kind room h g c pairs)
call_becomes kind room h g (Read region j) k pairs = by_region (region == g)
  where
    by_region : (here : Bool) → Becomes (shows_of kind h g k) k pairs (cond here (read_through room j (shows_of kind h g j) pairs) pairs)
    by_region true = read_becomes room j k (shows_of kind h g j) (shows_of kind h g k) (λ same. ap (shows_of kind h g) same) pairs
    by_region false = inr (inl refl)
call_becomes kind room h g (Again region v p) k pairs = by_region (region == g)
  where
    by_region : (here : Bool) → Becomes (shows_of kind h g k) k pairs (cond here (refreshed kind h g (row_of h v) pairs) pairs)
    by_region true = again_becomes kind h g (row_of h v) k pairs
    by_region false = inr (inl refl)
call_becomes kind room h g _ k pairs = inr (inl refl)

-- What a cache has of a key is what was written, and no more than what is whole.

module _ (kind : StoreKind) (room g : ℕ) (k : List ℕ) where
  abbrev was_cached : List Entry → Option ℕ
  was_cached h = version_in k (cache kind room h g)

  entry_becomes : (h : List Entry) (e : Entry) → Becomes (shows_of kind h g k) k (cache kind room h g) (cache kind room (h ++ e ∷ []) g)
  entry_becomes h e = subst (λ (pairs : List Pair). Becomes (shows_of kind h g k) k (cache kind room h g) pairs) (sym (cache_more kind room h e g)) (call_becomes kind room h g e.call k (cache kind room h g))

  -- what holds of what is whole behind each history, and goes on behind an entry more, holds of what is cached
  abbrev IfCached : (List Entry → ℕ → Type 0) → List Entry → Type 0
  IfCached P h = (v : ℕ) → was_cached h ≡ Some v → P h v

  cached_more : (P : List Entry → ℕ → Type 0) → ((h : List Entry) → P h (shows_of kind h g k)) → ((h : List Entry) (e : Entry) (v : ℕ) → P h v → P (h ++ e ∷ []) v)
      → (h : List Entry) (e : Entry) → IfCached P h → IfCached P (h ++ e ∷ [])
  cached_more P whole goes h e was v is =
      ⊎_elim (λ (none : was_cached (h ++ e ∷ []) ≡ None). absurd (cc))
      (λ (more : (was_cached (h ++ e ∷ []) ≡ was_cached h) ⊎ (was_cached (h ++ e ∷ []) ≡ Some (shows_of kind h g k))).
      ⊎_elim (λ (same : was_cached (h ++ e ∷ []) ≡ was_cached h). goes h e v (was v (sym same ∙ is)))
      (λ (new : was_cached (h ++ e ∷ []) ≡ Some (shows_of kind h g k)). let here : shows_of kind h g k ≡ v = cc in goes h e v (subst (P h) here (whole h))) more)
      (entry_becomes h e)

module _ (s : Store) (g : ℕ) (k : List ℕ) where
  abbrev IsLow : List Entry → ℕ → Type 0
  IsLow h v = v ≤ shows_of s.kind h g k

  abbrev IsFound : List Entry → ℕ → Type 0
  IsFound h v = (v ≡ 0) ⊎ (is_written h (id_of s k v) ≡ true)

  low_goes : (h : List Entry) (e : Entry) (v : ℕ) → IsLow h v → IsLow (h ++ e ∷ []) v
  low_goes h e v low = let grows : shows_of s.kind h g k ≤ shows_of s.kind (h ++ e ∷ []) g k = shows_grow s.kind h (e ∷ []) g k in omega arith

  found_goes : (h : List Entry) (e : Entry) (v : ℕ) → IsFound h v → IsFound (h ++ e ∷ []) v
  found_goes h e v found =
      ⊎_elim (λ (none : v ≡ 0). inl none) (λ (was : is_written h (id_of s k v) ≡ true). inr (written_stays h (e ∷ []) (id_of s k v) was)) found

  cached_low : (h : List Entry) → IsLegal (store s) h → IfCached s.kind s.room g k IsLow h
  cached_low h l =
      by_entries (store s) (IfCached s.kind s.room g k IsLow) (λ v is. absurd (cc))
      (λ h e l f was. cached_more s.kind s.room g k IsLow (λ h. omega arith) low_goes h e was) h l

  cached_found : (h : List Entry) → IsLegal (store s) h → IfCached s.kind s.room g k IsFound h
  cached_found h l =
      by_entries (store s) (IfCached s.kind s.room g k IsFound) (λ v is. absurd (cc))
      (λ h e l f was. cached_more s.kind s.room g k IsFound (λ h. greatest_among (is_whole s.kind h g) k (rows h)) found_goes h e was) h l

  -- so is what is shown
  pub shown_low : (h : List Entry) → IsLegal (store s) h → cached_shows s.kind s.room h g k ≤ shows_of s.kind h g k
  shown_low h l = by_cached (was_cached s.kind s.room g k h) refl
    where
      by_cached : (o : Option ℕ) → was_cached s.kind s.room g k h ≡ o → unwrap_or o (shows_of s.kind h g k) ≤ shows_of s.kind h g k
      by_cached None is = omega arith
      by_cached (Some v) is = cached_low h l v is

  shown_found : (h : List Entry) → IsLegal (store s) h → IsFound h (cached_shows s.kind s.room h g k)
  shown_found h l = by_cached (was_cached s.kind s.room g k h) refl
    where
      by_cached : (o : Option ℕ) → was_cached s.kind s.room g k h ≡ o → IsFound h (unwrap_or o (shows_of s.kind h g k))
      by_cached None is = greatest_among (is_whole s.kind h g) k (rows h)
      by_cached (Some v) is = cached_found h l v is

  -- it is no less behind an entry more
  shown_more : (h : List Entry) (e : Entry) → IsLegal (store s) h → cached_shows s.kind s.room h g k ≤ cached_shows s.kind s.room (h ++ e ∷ []) g k
  shown_more h e l =
      let grows : shows_of s.kind h g k ≤ shows_of s.kind (h ++ e ∷ []) g k = shows_grow s.kind h (e ∷ []) g k in
      let low : cached_shows s.kind s.room h g k ≤ shows_of s.kind h g k = shown_low h l in
      ⊎_elim
      (λ (none : was_cached s.kind s.room g k (h ++ e ∷ []) ≡ None).
      let now : cached_shows s.kind s.room (h ++ e ∷ []) g k ≡ shows_of s.kind (h ++ e ∷ []) g k = ap (λ (o : Option ℕ). unwrap_or o (shows_of s.kind (h ++ e ∷ []) g k)) none in
      omega arith)
      (λ (more : (was_cached s.kind s.room g k (h ++ e ∷ []) ≡ was_cached s.kind s.room g k h) ⊎ (was_cached s.kind s.room g k (h ++ e ∷ []) ≡ Some (shows_of s.kind h g k))).
      ⊎_elim
      (λ (same : was_cached s.kind s.room g k (h ++ e ∷ []) ≡ was_cached s.kind s.room g k h). stays same (was_cached s.kind s.room g k h) refl grows)
      (λ (new : was_cached s.kind s.room g k (h ++ e ∷ []) ≡ Some (shows_of s.kind h g k)).
      let now : cached_shows s.kind s.room (h ++ e ∷ []) g k ≡ shows_of s.kind h g k = ap (λ (o : Option ℕ). unwrap_or o (shows_of s.kind (h ++ e ∷ []) g k)) new in
      omega arith) more)
      (entry_becomes s.kind s.room g k h e)
    where
      stays : was_cached s.kind s.room g k (h ++ e ∷ []) ≡ was_cached s.kind s.room g k h → (o : Option ℕ) → was_cached s.kind s.room g k h ≡ o
          → shows_of s.kind h g k ≤ shows_of s.kind (h ++ e ∷ []) g k
          → cached_shows s.kind s.room h g k ≤ cached_shows s.kind s.room (h ++ e ∷ []) g k
      stays same None is grows =
          let was : cached_shows s.kind s.room h g k ≡ shows_of s.kind h g k = ap (λ (x : Option ℕ). unwrap_or x (shows_of s.kind h g k)) is in
          let now : cached_shows s.kind s.room (h ++ e ∷ []) g k ≡ shows_of s.kind (h ++ e ∷ []) g k = ap (λ (x : Option ℕ). unwrap_or x (shows_of s.kind (h ++ e ∷ []) g k)) (same ∙ is) in
          omega arith
      stays same (Some v) is grows =
          let was : cached_shows s.kind s.room h g k ≡ v = ap (λ (x : Option ℕ). unwrap_or x (shows_of s.kind h g k)) is in
          let now : cached_shows s.kind s.room (h ++ e ∷ []) g k ≡ v = ap (λ (x : Option ℕ). unwrap_or x (shows_of s.kind (h ++ e ∷ []) g k)) (same ∙ is) in
          omega arith

  shown_later : (h rest : List Entry) → IsLegal (store s) (h ++ rest) → cached_shows s.kind s.room h g k ≤ cached_shows s.kind s.room (h ++ rest) g k
  shown_later h [] l = subst (λ (x : List Entry). cached_shows s.kind s.room h g k ≤ cached_shows s.kind s.room x g k) (sym (append-nil h)) (omega arith)
  shown_later h (e ∷ rest) l =
      let first : cached_shows s.kind s.room h g k ≤ cached_shows s.kind s.room (h ++ e ∷ []) g k = shown_more h e (legal_front (store s) h (e ∷ rest) l) in
      let then : cached_shows s.kind s.room (h ++ e ∷ []) g k ≤ cached_shows s.kind s.room ((h ++ e ∷ []) ++ rest) g k =
      shown_later (h ++ e ∷ []) rest (subst (IsLegal (store s)) (sym (append_assoc h (e ∷ []) rest)) l) in
      subst (λ (x : List Entry). cached_shows s.kind s.room h g k ≤ cached_shows s.kind s.room x g k) (append_assoc h (e ∷ []) rest) (omega arith)

-- What a cache has of a key is not 0: it comes there with a version that is whole, and no lower one takes its place.

abbrev HaveSome : List Pair → Type 0
HaveSome [] = Unit {0}
HaveSome (pair ∷ pairs) = (1 ≤ pair.1) × HaveSome pairs

some_removed : (test : List ℕ → Bool) (pairs : List Pair) → HaveSome pairs → HaveSome (remove_entry test pairs)
some_removed test [] some = tt
some_removed test (pair ∷ pairs) some = by_test (test pair.0) (some_removed test pairs some.1)
  where
    by_test : (here : Bool) → HaveSome (remove_entry test pairs) → HaveSome (cond here pairs (pair ∷ remove_entry test pairs))
    by_test true rest = some.1
    by_test false rest = (some.0, rest)

some_taken : (n : ℕ) (pairs : List Pair) → HaveSome pairs → HaveSome (take n pairs)
some_taken zero pairs some = tt
some_taken (suc n) [] some = tt
some_taken (suc n) (pair ∷ pairs) some = (some.0, some_taken n pairs some.1)

some_set : (test : List ℕ → Bool) (v : ℕ) → 1 ≤ v → (pairs : List Pair) → HaveSome pairs → HaveSome (set_value test pairs v)
some_set test v first [] some = tt
some_set test v first (pair ∷ pairs) some = by_test (test pair.0) (some_set test v first pairs some.1)
  where
    by_test : (here : Bool) → HaveSome (set_value test pairs v) → HaveSome (cond here ((pair.0, v) ∷ pairs) (pair ∷ set_value test pairs v))
    by_test true rest = (first, some.1)
    by_test false rest = (some.0, rest)

some_found : (test : List ℕ → Bool) (v : ℕ) (pairs : List Pair) → HaveSome pairs → lookup test pairs ≡ Some v → 1 ≤ v
some_found test v [] some is = absurd (cc)
some_found test v (pair ∷ pairs) some is = by_test (test pair.0) is (some_found test v pairs some.1)
  where
    by_test : (here : Bool) → cond here (Some pair.1) (lookup test pairs) ≡ Some v → (lookup test pairs ≡ Some v → 1 ≤ v) → 1 ≤ v
    by_test true same rest = let own : pair.1 ≡ v = cc in omega (arith, some.0)
    by_test false same rest = rest same

-- a key that is not there gets no version
pub set_absent : (test : List ℕ → Bool) (v : ℕ) (pairs : List Pair) → lookup test pairs ≡ None → set_value test pairs v ≡ pairs
set_absent test v [] none = refl
set_absent test v (pair ∷ pairs) none = by_test (test pair.0) none (set_absent test v pairs)
  where
    by_test : (here : Bool) → cond here (Some pair.1) (lookup test pairs) ≡ None → (lookup test pairs ≡ None → set_value test pairs v ≡ pairs)
        → cond here ((pair.0, v) ∷ pairs) (pair ∷ set_value test pairs v) ≡ pair ∷ pairs
    by_test true off rest = absurd (cc)
    by_test false off rest = ap (λ (x : List Pair). pair ∷ x) (rest off)

some_read : (room : ℕ) (k : List ℕ) (whole : ℕ) (pairs : List Pair) → HaveSome pairs → HaveSome (read_through room k whole pairs)
some_read room k whole pairs some = by_found (version_in k pairs) refl
  where
    by_whole : (none : Bool) → (whole == 0) ≡ none → HaveSome (cond none pairs (take room ((k, whole) ∷ pairs)))
    by_whole true is = some
    by_whole false is = some_taken room ((k, whole) ∷ pairs) (⊎_elim (λ (low : whole < 1). absurd (true≢false (sym (eq-eqb whole 0 (omega arith)) ∙ is))) (λ (first : 1 ≤ whole). first) (cases_lt whole 1), some)

    by_found : (o : Option ℕ) → version_in k pairs ≡ o → HaveSome (read_by room k whole o pairs)
    by_found (Some v) found = (some_found (bytes_eq k) v pairs some found, some_removed (bytes_eq k) pairs some)
    by_found None found = by_whole (whole == 0) refl

module _ (s : Store) (g : ℕ) where
  abbrev its_cache : List Entry → List Pair
  its_cache h = cache s.kind s.room h g

  some_again : (h : List Entry) → IsLegal (store s) h → HaveSome (its_cache h) → (o : Option Row) → HaveSome (refreshed s.kind h g o (its_cache h))
  some_again h l some None = some
  some_again h l some (Some r) = by_found (version_in r.key (its_cache h)) refl
    where
      by_found : (o : Option ℕ) → version_in r.key (its_cache h) ≡ o → HaveSome (set_value (bytes_eq r.key) (its_cache h) (shows_of s.kind h g r.key))
      by_found None absent = subst HaveSome (sym (set_absent (bytes_eq r.key) (shows_of s.kind h g r.key) (its_cache h) absent)) some
      by_found (Some v) found =
          let low : v ≤ shows_of s.kind h g r.key = cached_low s g r.key h l v found in
          let first : 1 ≤ v = some_found (bytes_eq r.key) v (its_cache h) some found in
          some_set (bytes_eq r.key) (shows_of s.kind h g r.key) (omega arith) (its_cache h) some

  some_after : (h : List Entry) → IsLegal (store s) h → HaveSome (its_cache h) → (c : Call) → HaveSome (cached_after s.kind s.room h g c (its_cache h))
  some_after h l some (Read region k) = by_region (region == g)
    where
      by_region : (here : Bool) → HaveSome (cond here (read_through s.room k (shows_of s.kind h g k) (its_cache h)) (its_cache h))
      by_region true = some_read s.room k (shows_of s.kind h g k) (its_cache h) some
      by_region false = some
  some_after h l some (Again region v p) = by_region (region == g)
    where
      by_region : (here : Bool) → HaveSome (cond here (refreshed s.kind h g (row_of h v) (its_cache h)) (its_cache h))
      by_region true = some_again h l some (row_of h v)
      by_region false = some
  some_after h l some _ = some

  have_some : (h : List Entry) → IsLegal (store s) h → HaveSome (its_cache h)
  have_some h l = by_entries (store s) (λ h. HaveSome (its_cache h)) tt (λ h e l f some. subst HaveSome (sym (cache_more s.kind s.room h e g)) (some_after h l some e.call)) h l

  -- So a region with a cache shows some version of each key of which one is whole there.
  pub shown_some : (k : List ℕ) (h : List Entry) → IsLegal (store s) h → 1 ≤ shows_of s.kind h g k → 1 ≤ cached_shows s.kind s.room h g k
  shown_some k h l whole = by_found (version_in k (its_cache h)) refl
    where
      by_found : (o : Option ℕ) → version_in k (its_cache h) ≡ o → 1 ≤ unwrap_or o (shows_of s.kind h g k)
      by_found None absent = whole
      by_found (Some v) found = some_found (bytes_eq k) v (its_cache h) (have_some h l) found

-- So the regions of a store show what was written, and never less, by its kind.

never_falls_by : (s : Store) (cached : Bool) → s.shows ≡ shows_by cached s.kind s.room → NeverFalls s
never_falls_by s false is = never_falls s is
never_falls_by s true is = λ h rest l g k. rw is (shown_later s g k h rest l)

shows_written_by : (s : Store) (cached : Bool) → s.shows ≡ shows_by cached s.kind s.room → ShowsWritten s
shows_written_by s false is = shows_written s is
shows_written_by s true is = λ h l g k. rw is (shown_found s g k h l)

pub shows_stay_by_kind : (s : Store) → ShowsAsItsKind s → ShowsStay (store s)
shows_stay_by_kind s is = (never_falls_by s (facts_of s.kind).cached is, shows_written_by s (facts_of s.kind).cached is)

-- where there are no caches, that is what is whole
pub shows_whole_by_kind : (s : Store) → ShowsAsItsKind s → (facts_of s.kind).cached ≡ false → s.shows ≡ shows_of s.kind
shows_whole_by_kind s is off = is ∙ ap (λ (cached : Bool). shows_by cached s.kind s.room) off

pub kinds_keep_laws : (s : Store) → ShowsAsItsKind s → KeepsLaws s
kinds_keep_laws s is =
    laws_of_shows s (never_falls_by s (facts_of s.kind).cached is) (shows_written_by s (facts_of s.kind).cached is) (shows_whole_by_kind s is)
