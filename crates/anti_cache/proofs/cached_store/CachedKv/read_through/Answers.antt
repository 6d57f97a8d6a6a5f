use Rattle.std.proofs.Common.{◌≡◌, ℕ, List, ◌∷◌, set, take, None, true, cond, ◌==◌, is_some, ne_eqb, sym, ap, ◌∙◌, arith}
use Rattle.std.specs.Prelude.{bytes_eq}
use Rattle.std.specs.Map.{lookup}
use Rattle.std.proofs.lemmas.List.{set-get_or}
use Rattle.std.proofs.lemmas.Result.{on_ok_weaker, on_err_weaker}
use Rattle.anti_kind.specs.declared.store_kind.StoreKind.TheVariants.{Cached}
use Rattle.anti_kind.specs.Caches.{Pair, cache, read_through}
use Rattle.anti_kind.specs.Stored.{shows_of}
use Rattle.anti_cache.specs.CachedStates.{its_store}
use Rattle.anti_cache.proofs.Pairs.{none_found, promoted_absent, promoted_found, read_absent}
use Rattle.anti_cache.proofs.Standing.{base_at}
use Rattle.lru.specs.LruCache.{LruCache, lru_cache, promoted}
use Rattle.anti_cache.proofs.cached_store.CachedKv.read_through.Goals as goal

pub returns-then-promote-clause-ok : goal.returns-then-promote-clause-ok
returns-then-promote-clause-ok c = λ h at.
    let m = c.args.self.now in
    let g = c.args.region in
    let key = c.args.key.now in
    let pairs = cache Cached m.room h g in
    let stood : c.index_mut-cache.result.now ≡ lru_cache pairs m.room = c.index_mut-cache.ensures.value ∙ at.state.caches.each g _ (omega (arith, c.requires, at.state.caches.count)) in
    let some : is_some (lookup (bytes_eq key) pairs) ≡ true = sym (c.if-promote.ensures.value ∙ ap (λ (x : LruCache (List ℕ) ℕ). is_some (lookup (bytes_eq key) x.entries)) stood) in
    ap (set m.caches.items g)
    (c.promote.ensures.entries ∙ ap (λ (x : LruCache (List ℕ) ℕ). lru_cache (promoted (bytes_eq key) x.entries) x.cap) stood
    ∙ ap (λ (x : List Pair). lru_cache x m.room) (promoted_found m.room (shows_of Cached h g key) key pairs some))

pub returns-then-whole-eq0-clause-ok : goal.returns-then-whole-eq0-clause-ok
returns-then-whole-eq0-clause-ok c = λ h at.
    let m = c.args.self.now in
    let g = c.args.region in
    let key = c.args.key.now in
    let pairs = cache Cached m.room h g in
    let stood : c.index_mut-cache.result.now ≡ lru_cache pairs m.room = c.index_mut-cache.ensures.value ∙ at.state.caches.each g _ (omega (arith, c.requires, at.state.caches.count)) in
    let lacks : lookup (bytes_eq key) pairs ≡ None =
    none_found (bytes_eq key) pairs (sym (c.if-promote.ensures.value ∙ ap (λ (x : LruCache (List ℕ) ℕ). is_some (lookup (bytes_eq key) x.entries)) stood)) in
    let whole : shows_of Cached h g key ≡ 0 = sym (c.shown_version-whole.ensures (its_store m) h (base_at m h at)) ∙ c.if-whole-eq0.true in
    ap (set m.caches.items g)
    (c.promote.ensures.entries ∙ ap (λ (x : LruCache (List ℕ) ℕ). lru_cache (promoted (bytes_eq key) x.entries) x.cap) stood
    ∙ ap (λ (x : List Pair). lru_cache x m.room)
    (promoted_absent (bytes_eq key) pairs lacks
    ∙ sym (read_absent m.room (shows_of Cached h g key) key pairs lacks ∙ ap (λ (v : ℕ). cond (v == 0) pairs (take m.room ((key, v) ∷ pairs))) whole)))

pub put-requires : goal.put-requires
put-requires c =
    let key = c.args.key.now in
    let held = c.index_mut-cache.result.now in
    let lacks : lookup (bytes_eq key) held.entries ≡ None = none_found (bytes_eq key) held.entries (sym c.if-promote.ensures.value) in
    ap (λ (x : LruCache (List ℕ) ℕ). lookup (bytes_eq key) x.entries) c.promote.ensures.entries
    ∙ ap (λ (x : List Pair). lookup (bytes_eq key) x) (promoted_absent (bytes_eq key) held.entries lacks) ∙ lacks

pub returns-clause-ok : goal.returns-clause-ok
returns-clause-ok c = λ h at.
    let m = c.args.self.now in
    let g = c.args.region in
    let key = c.args.key.now in
    let pairs = cache Cached m.room h g in
    let v = c.shown_version-whole.result in
    let stood : c.index_mut-cache.result.now ≡ lru_cache pairs m.room = c.index_mut-cache.ensures.value ∙ at.state.caches.each g _ (omega (arith, c.requires, at.state.caches.count)) in
    let lacks : lookup (bytes_eq key) pairs ≡ None =
    none_found (bytes_eq key) pairs (sym (c.if-promote.ensures.value ∙ ap (λ (x : LruCache (List ℕ) ℕ). is_some (lookup (bytes_eq key) x.entries)) stood)) in
    let kept : c.promote.new.self ≡ lru_cache pairs m.room =
    c.promote.ensures.entries ∙ ap (λ (x : LruCache (List ℕ) ℕ). lru_cache (promoted (bytes_eq key) x.entries) x.cap) stood
    ∙ ap (λ (x : List Pair). lru_cache x m.room) (promoted_absent (bytes_eq key) pairs lacks) in
    let whole : shows_of Cached h g key ≡ v = sym (c.shown_version-whole.ensures (its_store m) h (base_at m h at)) in
    let read : read_through m.room key (shows_of Cached h g key) pairs ≡ take m.room ((key, v) ∷ pairs) =
    read_absent m.room (shows_of Cached h g key) key pairs lacks
    ∙ ap (λ (n : ℕ). cond (n == 0) pairs (take m.room ((key, n) ∷ pairs))) whole
    ∙ ap (λ b. cond b pairs (take m.room ((key, v) ∷ pairs))) (ne_eqb v 0 c.if-whole-eq0.false) in
    on_ok_weaker c.put.result
    (λ put. ap (set m.caches.items g)
    (put ∙ ap (λ (x : LruCache (List ℕ) ℕ). lru_cache (take x.cap ((key, v) ∷ x.entries)) x.cap) kept ∙ ap (λ (x : List Pair). lru_cache x m.room) (sym read)))
    c.put.ensures.ok

pub returns-clause-err : goal.returns-clause-err
returns-clause-err c =
    let m = c.args.self.now in
    let key = c.args.key.now in
    let held = c.index_mut-cache.result.now in
    let lacks : lookup (bytes_eq key) held.entries ≡ None = none_found (bytes_eq key) held.entries (sym c.if-promote.ensures.value) in
    let kept : c.promote.new.self ≡ held = c.promote.ensures.entries ∙ ap (λ (x : List Pair). lru_cache x held.cap) (promoted_absent (bytes_eq key) held.entries lacks) in
    on_err_weaker c.put.result
    (λ same. ap (set m.caches.items c.args.region) (same ∙ kept ∙ c.index_mut-cache.ensures.value) ∙ set-get_or m.caches.items c.args.region _)
    c.put.ensures.err
