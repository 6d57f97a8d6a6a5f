-- A cached store that made one call more stands for the history with that call.
use Rattle.std.proofs.Common.{◌≡◌, ℕ, ◌<◌, ◌≤◌, Bool, true, false, cond, List, [], ◌∷◌, ◌++◌, length, get_or, set, replicate, Option, Some, None, slice_get, refl, sym, ap, subst, ◌∙◌, ⊎_elim, ◌==◌, eq-eqb, ne_eqb, arith}
use Rattle.std.specs.Prelude.{find, option_map}
use Rattle.std.proofs.lemmas.Bool.{cases_eq}
use Rattle.std.proofs.lemmas.List.{get_or-replicate, get_or-set_same, get_or-set_other, length-set, set-get_or}
use Rattle.std.proofs.lemmas.Option.{slice_get_within, get_or_from_slice_get}
use Rattle.anti_kind.specs.declared.call.Call.{Call}
use Rattle.anti_kind.specs.declared.call.Call.TheVariants.{Again, Look, Read, Ship}
use Rattle.anti_kind.specs.declared.entry.Entry.{Entry}
use Rattle.anti_kind.specs.declared.row.Row.{Row}
use Rattle.anti_kind.specs.declared.store_kind.StoreKind.TheVariants.{Cached}
use Rattle.anti_kind.specs.Caches.{Pair, read_through, refreshed, cached_after, cache, is_behind, stale_in}
use Rattle.anti_kind.specs.Machines.{MayMake}
use Rattle.anti_kind.specs.Objects.{store, weight, Follows, IsLegal}
use Rattle.anti_kind.specs.Starts.{IsStore, cached_store}
use Rattle.anti_kind.specs.Store.{Store, store_due, store_ready}
use Rattle.anti_kind.specs.Stored.{row_of, shows_of}
use Rattle.anti_kind.proofs.Caching.{cache_more}
use Rattle.anti_kind.proofs.Histories.{by_entries}
use Rattle.anti_kind.proofs.Shipped.{shipped_sound}
use Rattle.anti_replicas.specs.declared.replicas.Replicas.{Replicas}
use Rattle.anti_replicas.specs.Stores.{At as BaseAt, number_of, regions_of, IsPassing}
use Rattle.anti_replicas.specs.inner.Standing.{Stands}
use Rattle.anti_replicas.proofs.Bringing.{listed_below}
use Rattle.anti_cache.specs.declared.cached_store.CachedKv.{CachedKv}
use Rattle.anti_cache.specs.CachedStates.{its_store, its_start, CachedStands, At, MayCome}
use Rattle.anti_cache.specs.inner.Changes.{IsQuiet, Turns}
use Rattle.anti_cache.specs.inner.Held.{AreCaches}
use Rattle.lru.specs.LruCache.{LruCache, lru_cache}

-- A region that is none of the store's has nothing in its cache.

nothing_refreshed : (h : List Entry) (g : ℕ) (o : Option Row) → refreshed Cached h g o [] ≡ []
nothing_refreshed h g None = refl
nothing_refreshed h g (Some r) = refl

nothing_if : (here : Bool) (pairs : List Pair) → pairs ≡ [] → cond here pairs [] ≡ []
nothing_if true pairs none = none
nothing_if false pairs none = refl

module _ (number : ℕ) (regions : List ℕ) (room : ℕ) (sane : IsStore (cached_store number regions room)) (g : ℕ) (above : 8 ≤ g) where
  abbrev the_store : Store
  the_store = cached_store number regions room

  nothing_after : (h : List Entry) (c : Call) → store_ready the_store h c ≡ true → cached_after Cached room h g c [] ≡ []
  nothing_after h (Read region k) on =
      let low : region < 8 = listed_below regions sane.below region on in
      ap (λ (here : Bool). cond here (read_through room k (shows_of Cached h g k) []) []) (ne_eqb region g (λ same. omega (arith, low, above, same)))
  nothing_after h (Again region v p) on = nothing_if (region == g) (refreshed Cached h g (row_of h v) []) (nothing_refreshed h g (row_of h v))
  nothing_after h _ on = refl

  pub nothing_beyond : (h : List Entry) → IsLegal (store the_store) h → cache Cached room h g ≡ []
  nothing_beyond h l =
      by_entries (store the_store) (λ h. cache Cached room h g ≡ []) refl
      (λ h e l f none. cache_more Cached room h e g ∙ ap (cached_after Cached room h g e.call) none ∙ nothing_after h e.call f.is_ready) h l

module _ (m : CachedKv) (h : List Entry) (at : At m h) where
  pub base_at : BaseAt m.base (its_store m) h
  base_at = record { sane = at.sane; legal = at.legal; state = at.state.base }

  -- what is held for a region is its cache
  pub held_at : (g : ℕ) (held : LruCache (List ℕ) ℕ) → slice_get m.caches.items g ≡ Some held → held ≡ lru_cache (cache Cached m.room h g) m.room
  held_at g held is =
      let low : g < 8 = omega (arith, slice_get_within m.caches.items g held is, at.state.caches.count) in
      sym (get_or_from_slice_get m.caches.items g held held is) ∙ at.state.caches.each g held low

  pub beyond : (g : ℕ) → length m.caches.items ≤ g → cache Cached m.room h g ≡ []
  beyond g above = nothing_beyond (number_of m.base) (regions_of m.base) m.room at.sane g (omega (arith, at.state.caches.count)) h at.legal

  pub none_stale : (g : ℕ) → length m.caches.items ≤ g → stale_in (its_store m) h g ≡ None
  none_stale g above = ap (λ (pairs : List Pair). option_map (λ (pair : Pair). shows_of Cached h g pair.0) (find (is_behind Cached h g) pairs)) (beyond g above)

-- A call that is made is at a region that has a cache.

pub read_within : (m : CachedKv) (region : ℕ) (k : List ℕ) → MayMake (its_start m) (CachedStands m) (Read region k) → region < length m.caches.items
read_within m region k may =
    omega (arith, listed_below (regions_of m.base) may.stands_for.sane.below region may.is_ready, may.stands_for.state.caches.count)

pub again_within : (m : CachedKv) (region version : ℕ) → MayCome m region version → region < length m.caches.items
again_within m region version (part, may) =
    let came = shipped_sound (its_store m) may.history may.stands_for.legal region version part may.is_ready in
    omega (arith, listed_below (regions_of m.base) may.stands_for.sane.below region came.replica, may.stands_for.state.caches.count)

-- No call was made yet.

pub stands_empty : (m : CachedKv) → Stands m.base (its_store m) [] → m.caches.items ≡ replicate 8 (lru_cache [] m.room) → CachedStands m []
stands_empty m base are = record { base = base; caches = record { count = ap (λ (cs : List (LruCache (List ℕ) ℕ)). length cs) are; each = first } }
  where
    first : (g : ℕ) (d : LruCache (List ℕ) ℕ) → g < 8 → get_or m.caches.items g d ≡ lru_cache [] m.room
    first g d low = ap (λ (cs : List (LruCache (List ℕ) ℕ)). get_or cs g d) are ∙ get_or-replicate 8 g (lru_cache [] m.room) d low

-- One entry more.

own_store : (m n : CachedKv) → number_of n.base ≡ number_of m.base → regions_of n.base ≡ regions_of m.base → n.room ≡ m.room → its_store n ≡ its_store m
own_store m n number regions room = rw (number, regions, room) refl

module _ (m : CachedKv) (h : List Entry) (e : Entry) (at : At m h) where
  -- a call that changes no cache
  pub caches_kept : ((g : ℕ) (pairs : List Pair) → cached_after Cached m.room h g e.call pairs ≡ pairs) → AreCaches m.caches.items m.room (h ++ e ∷ [])
  caches_kept keeps = record {
    count = at.state.caches.count;
    each = λ g d low. at.state.caches.each g d low ∙ ap (λ (pairs : List Pair). lru_cache pairs m.room) (sym (cache_more Cached m.room h e g ∙ keeps g (cache Cached m.room h g)));
  }

  -- a call that changes the cache of one region
  pub caches_turned : (n : CachedKv) (region : ℕ) (pairs : List Pair) → region < length m.caches.items → Turns m n region pairs
      → cached_after Cached m.room h region e.call (cache Cached m.room h region) ≡ pairs
      → ((g : ℕ) → (region ≡ g → ⊥) → cached_after Cached m.room h g e.call (cache Cached m.room h g) ≡ cache Cached m.room h g)
      → AreCaches n.caches.items m.room (h ++ e ∷ [])
  caches_turned n region pairs within turns here there = record { count = ap (λ (cs : List (LruCache (List ℕ) ℕ)). length cs) turns ∙ length-set m.caches.items region (lru_cache pairs m.room) ∙ at.state.caches.count; each = turned }
    where
      turned : (g : ℕ) (d : LruCache (List ℕ) ℕ) → g < 8 → get_or n.caches.items g d ≡ lru_cache (cache Cached m.room (h ++ e ∷ []) g) m.room
      turned g d low =
          ⊎_elim (λ (same : g ≡ region).
          ap (λ (cs : List (LruCache (List ℕ) ℕ)). get_or cs g d) turns
          ∙ ap (λ (i : ℕ). get_or (set m.caches.items region (lru_cache pairs m.room)) i d) same
          ∙ get_or-set_same m.caches.items region (lru_cache pairs m.room) d within
          ∙ ap (λ (x : List Pair). lru_cache x m.room) (sym (ap (λ (i : ℕ). cache Cached m.room (h ++ e ∷ []) i) same ∙ cache_more Cached m.room h e region ∙ here)))
          (λ (other : g ≡ region → ⊥).
          ap (λ (cs : List (LruCache (List ℕ) ℕ)). get_or cs g d) turns
          ∙ get_or-set_other m.caches.items region g (lru_cache pairs m.room) d other
          ∙ at.state.caches.each g d low
          ∙ ap (λ (x : List Pair). lru_cache x m.room) (sym (cache_more Cached m.room h e g ∙ there g (λ is. other (sym is)))))
          (cases_eq g region)

  pub read_turned : (n : CachedKv) (region : ℕ) (k : List ℕ) → e.call ≡ Read region k → region < length m.caches.items
      → Turns m n region (read_through m.room k (shows_of Cached h region k) (cache Cached m.room h region)) → AreCaches n.caches.items m.room (h ++ e ∷ [])
  read_turned n region k is within turns =
      caches_turned n region _ within turns
      (ap (λ (c : Call). cached_after Cached m.room h region c (cache Cached m.room h region)) is
      ∙ ap (λ (here : Bool). cond here (read_through m.room k (shows_of Cached h region k) (cache Cached m.room h region)) (cache Cached m.room h region)) (eq-eqb region region refl))
      (λ g other.
      ap (λ (c : Call). cached_after Cached m.room h g c (cache Cached m.room h g)) is
      ∙ ap (λ (here : Bool). cond here (read_through m.room k (shows_of Cached h g k) (cache Cached m.room h g)) (cache Cached m.room h g)) (ne_eqb region g other))

  pub again_turned : (n : CachedKv) (region v p : ℕ) → e.call ≡ Again region v p → region < length m.caches.items
      → Turns m n region (refreshed Cached h region (row_of h v) (cache Cached m.room h region)) → AreCaches n.caches.items m.room (h ++ e ∷ [])
  again_turned n region v p is within turns =
      caches_turned n region _ within turns
      (ap (λ (c : Call). cached_after Cached m.room h region c (cache Cached m.room h region)) is
      ∙ ap (λ (here : Bool). cond here (refreshed Cached h region (row_of h v) (cache Cached m.room h region)) (cache Cached m.room h region)) (eq-eqb region region refl))
      (λ g other.
      ap (λ (c : Call). cached_after Cached m.room h g c (cache Cached m.room h g)) is
      ∙ ap (λ (here : Bool). cond here (refreshed Cached h g (row_of h v) (cache Cached m.room h g)) (cache Cached m.room h g)) (ne_eqb region g other))

  -- so it stands where its base and its caches do
  pub stands_more : (n : CachedKv) → number_of n.base ≡ number_of m.base → regions_of n.base ≡ regions_of m.base → n.room ≡ m.room
      → Stands n.base (its_store m) (h ++ e ∷ []) → AreCaches n.caches.items m.room (h ++ e ∷ []) → CachedStands n (h ++ e ∷ [])
  stands_more n number regions room base caches = record {
    base = subst (λ (s : Store). Stands n.base s (h ++ e ∷ [])) (sym (own_store m n number regions room)) base;
    caches = subst (λ (x : ℕ). AreCaches n.caches.items x (h ++ e ∷ [])) (sym room) caches;
  }

-- one that changed a cache, where its base takes note of the call
pub stands_noted : (m n : CachedKv) (h : List Entry) (e : Entry) → At m h → n ≡ record m { caches = n.caches } → (base : Replicas)
    → number_of base ≡ number_of n.base → regions_of base ≡ regions_of n.base → (BaseAt n.base (its_store m) h → Stands base (its_store m) (h ++ e ∷ []))
    → AreCaches n.caches.items m.room (h ++ e ∷ []) → CachedStands (record n { base = base }) (h ++ e ∷ [])
stands_noted m n h e at only base number regions notes caches =
    let same : n.base ≡ m.base = ap (λ (x : CachedKv). x.base) only in
    stands_more m h e at (record n { base = base }) (number ∙ ap (λ (b : Replicas). number_of b) same) (regions ∙ ap (λ (b : Replicas). regions_of b) same) (ap (λ (x : CachedKv). x.room) only)
    (notes (subst (λ (b : Replicas). BaseAt b (its_store m) h) (sym same) (base_at m h at))) caches

-- A cache that is put back as it was.
pub turn_same : (m : CachedKv) (h : List Entry) → At m h → (region : ℕ) → region < length m.caches.items → (pairs : List Pair)
    → pairs ≡ cache Cached m.room h region → set m.caches.items region (lru_cache pairs m.room) ≡ m.caches.items
turn_same m h at region within pairs is =
    let blank : LruCache (List ℕ) ℕ = lru_cache [] 0 in
    ap (λ (x : List Pair). set m.caches.items region (lru_cache x m.room)) is
    ∙ ap (set m.caches.items region) (sym (at.state.caches.each region blank (omega (arith, at.state.caches.count))))
    ∙ set-get_or m.caches.items region blank

-- Which calls change no cache.

pub quiet_keeps : (room : ℕ) (h : List Entry) (c : Call) → IsQuiet c → (g : ℕ) (pairs : List Pair) → cached_after Cached room h g c pairs ≡ pairs
quiet_keeps room h (Look region ids dry) quiet g pairs = refl
quiet_keeps room h (Ship region v p) quiet g pairs = refl
quiet_keeps room h _ quiet g pairs = absurd quiet

pub quiet_passing : (c : Call) → IsQuiet c → IsPassing c
quiet_passing (Look region ids dry) quiet = tt
quiet_passing (Ship region v p) quiet = tt
quiet_passing _ quiet = absurd quiet

quiet_weighs : (s : Store) (h : List Entry) (c : Call) → IsQuiet c → weight (store_due s h c) ≡ 1
quiet_weighs s h (Look region ids dry) quiet = refl
quiet_weighs s h (Ship region v p) quiet = refl
quiet_weighs s h _ quiet = absurd quiet

pub weighs_one : (m : CachedKv) (h : List Entry) (e : Entry) → Follows (its_start m) h e → IsQuiet e.call → weight e.reply ≡ 1
weighs_one m h e f quiet = ap weight f.reply ∙ quiet_weighs (its_store m) h e.call quiet
