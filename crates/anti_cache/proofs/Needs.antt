-- The units that a call needs are those that it needs where regions show what is whole.
use Rattle.std.proofs.Common.{◌≡◌, ℕ, ◌≤◌, max, List, length, refl, sym, ap, arith}
use Rattle.anti_kind.specs.declared.call.Call.{Call}
use Rattle.anti_kind.specs.declared.call.Call.TheVariants.{Scan}
use Rattle.anti_kind.specs.declared.entry.Entry.{Entry}
use Rattle.anti_kind.specs.declared.store_kind.StoreKind.TheVariants.{Cached}
use Rattle.anti_kind.specs.Caches.{cached_shows}
use Rattle.anti_kind.specs.Objects.{store, IsLegal}
use Rattle.anti_kind.specs.Starts.{cached_store}
use Rattle.anti_kind.specs.Store.{Store, scanned, store_need}
use Rattle.anti_kind.specs.Stored.{rows, is_whole, shows_of}
use Rattle.anti_kind.proofs.Caching.{shown_low, shown_some, shows_stay_by_kind}
use Rattle.anti_kind.proofs.Scans.{scans_alike}
use Rattle.anti_kind.proofs.Showing.{greatest_among}
use Rattle.anti_replicas.specs.Stores.{showing_whole}

-- A scan would show a row for each key of which some version is whole, whatever the caches have.
scan_alike : (number : ℕ) (regions : List ℕ) (room : ℕ) (h : List Entry) → IsLegal (store (cached_store number regions room)) h → (g : ℕ) (prefix : List ℕ)
    → length (scanned (showing_whole (cached_store number regions room)) h g prefix) ≡ length (scanned (cached_store number regions room) h g prefix)
scan_alike number regions room h l g prefix =
    let s : Store = cached_store number regions room in
    sym (scans_alike s (showing_whole s) h l g prefix ((shows_stay_by_kind s refl).1 h l g) (λ k. greatest_among (is_whole Cached h g) k (rows h))
    (λ k some. let low : cached_shows Cached room h g k ≤ shows_of Cached h g k = shown_low s g k h l in omega (arith, some))
    (λ k some. shown_some s g k h l some))

pub need_alike : (number : ℕ) (regions : List ℕ) (room : ℕ) (h : List Entry) → IsLegal (store (cached_store number regions room)) h → (c : Call)
    → store_need (showing_whole (cached_store number regions room)) h c ≡ store_need (cached_store number regions room) h c
need_alike number regions room h l (Scan g prefix) = ap (λ (n : ℕ). max 1 n) (scan_alike number regions room h l g prefix)
need_alike number regions room h l _ = refl
