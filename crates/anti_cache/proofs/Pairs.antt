-- The words of the caches of the library `lru`, as reads and what comes again have them.
use Rattle.std.proofs.Common.{◌≡◌, ℕ, zero, suc, ◌-◌, ◌<◌, Bool, true, false, cond, List, [], ◌∷◌, take, Option, Some, None, refl, sym, ap, ◌∙◌, ◌==◌, is_some, arith}
use Rattle.std.specs.Prelude.{bytes_eq}
use Rattle.std.specs.Map.{lookup, lookup_entry, remove_entry}
use Rattle.std.specs.Option.{option_map_or}
use Rattle.anti_kind.specs.Caches.{Pair, read_by, read_through}
use Rattle.anti_kind.proofs.Showing.{bytes_same}
use Rattle.lru.specs.LruCache.{LruCache, promoted, put_entries}

-- a key that is found stands in its pair
entry_found : (k : List ℕ) (v : ℕ) (pairs : List Pair) → lookup (bytes_eq k) pairs ≡ Some v → lookup_entry (bytes_eq k) pairs ≡ Some (k, v)
entry_found k v [] is = absurd (cc)
entry_found k v (pair ∷ pairs) is = by_test (bytes_eq k pair.0) refl is (entry_found k v pairs)
  where
    by_test : (here : Bool) → bytes_eq k pair.0 ≡ here → cond here (Some pair.1) (lookup (bytes_eq k) pairs) ≡ Some v
        → (lookup (bytes_eq k) pairs ≡ Some v → lookup_entry (bytes_eq k) pairs ≡ Some (k, v))
        → cond here (Some pair) (lookup_entry (bytes_eq k) pairs) ≡ Some (k, v)
    by_test true same found rest =
        let version : pair.1 ≡ v = cc in
        ap (λ (x : List ℕ). Some (x, pair.1)) (sym (bytes_same k pair.0 same)) ∙ ap (λ (n : ℕ). Some (k, n)) version
    by_test false same found rest = rest found

entry_absent : (test : List ℕ → Bool) (pairs : List Pair) → lookup test pairs ≡ None → lookup_entry test pairs ≡ None
entry_absent test [] none = refl
entry_absent test (pair ∷ pairs) none = by_test (test pair.0) none (entry_absent test pairs)
  where
    by_test : (here : Bool) → cond here (Some pair.1) (lookup test pairs) ≡ None → (lookup test pairs ≡ None → lookup_entry test pairs ≡ None)
        → cond here (Some pair) (lookup_entry test pairs) ≡ None
    by_test true off rest = absurd (cc)
    by_test false off rest = rest off

-- A read of a key that is there brings it to the front.
pub promoted_found : (room whole : ℕ) (k : List ℕ) (pairs : List Pair) → is_some (lookup (bytes_eq k) pairs) ≡ true → promoted (bytes_eq k) pairs ≡ read_through room k whole pairs
promoted_found room whole k pairs some = by_found (lookup (bytes_eq k) pairs) refl some
  where
    by_found : (o : Option ℕ) → lookup (bytes_eq k) pairs ≡ o → is_some o ≡ true → promoted (bytes_eq k) pairs ≡ read_by room k whole o pairs
    by_found None is off = absurd (cc)
    by_found (Some v) is on = ap (λ (o : Option Pair). option_map_or (λ e. e ∷ remove_entry (bytes_eq k) pairs) o pairs) (entry_found k v pairs is)

pub none_found : (test : List ℕ → Bool) (pairs : List Pair) → is_some (lookup test pairs) ≡ false → lookup test pairs ≡ None
none_found test pairs off = by_found (lookup test pairs) refl off
  where
    by_found : (o : Option ℕ) → lookup test pairs ≡ o → is_some o ≡ false → lookup test pairs ≡ None
    by_found None is none = is
    by_found (Some v) is none = absurd (cc)

pub promoted_absent : (test : List ℕ → Bool) (pairs : List Pair) → lookup test pairs ≡ None → promoted test pairs ≡ pairs
promoted_absent test pairs none = ap (λ (o : Option Pair). option_map_or (λ e. e ∷ remove_entry test pairs) o pairs) (entry_absent test pairs none)

-- One that is not there comes to the front where some version of it is whole.
pub read_absent : (room whole : ℕ) (k : List ℕ) (pairs : List Pair) → lookup (bytes_eq k) pairs ≡ None
    → read_through room k whole pairs ≡ cond (whole == 0) pairs (take room ((k, whole) ∷ pairs))
read_absent room whole k pairs none = ap (λ (o : Option ℕ). read_by room k whole o pairs) none

cut : (room : ℕ) → 0 < room → (pair : Pair) (pairs : List Pair) → pair ∷ take (room - 1) pairs ≡ take room (pair ∷ pairs)
cut zero some pair pairs = absurd (omega arith)
cut (suc n) some pair pairs = let one : suc n - 1 ≡ n = omega arith in ap (λ (i : ℕ). pair ∷ take i pairs) one

pub put_absent : (cache : LruCache (List ℕ) ℕ) (k : List ℕ) (v : ℕ) → lookup (bytes_eq k) cache.entries ≡ None → 0 < cache.cap
    → put_entries bytes_eq cache k v ≡ take cache.cap ((k, v) ∷ cache.entries)
put_absent cache k v none some =
    ap (λ (o : Option Pair). option_map_or (λ e. (e.0, v) ∷ remove_entry (bytes_eq k) cache.entries) o ((k, v) ∷ take (cache.cap - 1) cache.entries)) (entry_absent (bytes_eq k) cache.entries none)
    ∙ cut cache.cap some (k, v) cache.entries
