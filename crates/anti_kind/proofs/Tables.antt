-- Tables: what came to a region came in the order of the store, so where a version is shown all that was written before it is.
use Rattle.std.proofs.Common.{◌≡◌, ℕ, ◌-◌, ◌<◌, ◌≤◌, true, not, ◌||◌, List, [], ◌∷◌, ◌++◌, length, get_or, refl, sym, ap, subst, ◌∙◌, ⊎_elim, ◌==◌, leb, arith}
use Rattle.std.specs.Prelude.{bytes_eq}
use Rattle.std.proofs.lemmas.Bool.{and_parts, and_from, or_cases, le-leb, lt-leb, both_ways, not-true}
use Rattle.std.proofs.lemmas.List.FromFn.{get_or-range_with_len, length-range_with_len}
use Rattle.std.proofs.lemmas.List.Sums.{AllPass-from_list_all}
use Rattle.anti_ids.specs.declared.id.WriteId.{WriteId}
use Rattle.anti_kind.specs.Kinds.{facts_of}
use Rattle.anti_kind.specs.declared.call.Call.{Call}
use Rattle.anti_kind.specs.declared.entry.Entry.{Entry}
use Rattle.anti_kind.specs.declared.row.Row.{Row}
use Rattle.anti_kind.specs.declared.store_kind.StoreKind.{StoreKind}
use Rattle.anti_kind.specs.Stored.{rows, row_of, is_ship, is_shipped, is_whole, parts_of, parts, shows_of}
use Rattle.anti_kind.specs.Store.{Store, is_replica, has_part, is_next, can_ship, is_visible, is_written, absent, store_ready}
use Rattle.anti_kind.specs.Objects.{store, Follows, IsLegal}
use Rattle.anti_kind.proofs.FactLaws.{has_parts, one_is_whole}
use Rattle.anti_kind.proofs.Finding.{Found, find_found}
use Rattle.anti_kind.proofs.Histories.{by_entries}
use Rattle.anti_kind.proofs.Rows.{shipped_more, version_at}
use Rattle.anti_kind.proofs.Shipped.{ready_shipment, ship_same, version_within}
use Rattle.anti_kind.proofs.Showing.{same_bytes, shipped_stays, IsGreatest, greatest_passes, greatest_least, IsWritten, row_written}

-- Where a part of a version came to, all versions before it had come.

next_of_table : (s : Store) (h : List Entry) (g v p : ℕ) → (facts_of s.kind).ordered ≡ true → can_ship s h g v p ≡ true → is_next h g v ≡ true
next_of_table s h g v p table can =
    let first = and_parts (is_replica s g) _ can in
    let second = and_parts (has_part s.kind (row_of h v) p) _ first.1 in
    let third = and_parts (not (is_shipped h g v p)) _ second.1 in
    ⊎_elim (λ (other : not (facts_of s.kind).ordered ≡ true). absurd (both_ways (facts_of s.kind).ordered (not-true (facts_of s.kind).ordered other) table)) (λ (next : is_next h g v ≡ true). next)
    (or_cases (not (facts_of s.kind).ordered) (is_next h g v) third.1)

came_before : (s : Store) (h : List Entry) (g v w : ℕ) → IsLegal (store s) h → is_next h g v ≡ true → v ≤ length (rows h) → 1 ≤ w → w < v → is_shipped h g w 1 ≡ true
came_before s h g v w l next within some less =
    let short : w - 1 < length (rows h) = omega arith in
    let r : Row = get_or (rows h) (w - 1) (absent []) in
    let version : r.version ≡ w = version_at s h l (w - 1) (absent []) short ∙ omega arith in
    let passes : (leb v r.version || is_shipped h g r.version 1) ≡ true = AllPass-from_list_all (λ (x : Row). leb v x.version || is_shipped h g x.version 1) (rows h) next (w - 1) (absent []) short in
    ⊎_elim (λ (below : leb v w ≡ true). absurd (both_ways (leb v w) (lt-leb v w less) below)) (λ (came : is_shipped h g w 1 ≡ true). came)
    (or_cases (leb v w) (is_shipped h g w 1) (subst (λ (n : ℕ). (leb v n || is_shipped h g n 1) ≡ true) version passes))

abbrev InOrder : List Entry → Type 0
InOrder h = (g v p w : ℕ) → is_shipped h g v p ≡ true → 1 ≤ w → w < v → is_shipped h g w 1 ≡ true

in_order_more : (s : Store) → (facts_of s.kind).ordered ≡ true → (h : List Entry) (e : Entry) → IsLegal (store s) h → Follows (store s) h e → InOrder h → InOrder (h ++ e ∷ [])
in_order_more s table h e l f was g v p w on some less =
    shipped_stays h (e ∷ []) g w 1
    (⊎_elim (λ (before : is_shipped h g v p ≡ true). was g v p w before some less)
    (λ (now : is_ship g v p e.call ≡ true).
    let can : can_ship s h g v p ≡ true = ap (λ (c : Call). store_ready s h c) (sym (ship_same g v p e.call now)) ∙ f.is_ready in
    let within : v ≤ length (rows h) = (version_within s h l v p (ready_shipment s h g v p can).shipment.part).1 in
    came_before s h g v w l (next_of_table s h g v p table can) within some less)
    (or_cases (is_shipped h g v p) (is_ship g v p e.call) (sym (shipped_more h e g v p) ∙ on)))

pub in_order : (s : Store) → (facts_of s.kind).ordered ≡ true → (h : List Entry) → IsLegal (store s) h → InOrder h
in_order s table h l = by_entries (store s) InOrder (λ g v p w on some less. absurd (cc)) (in_order_more s table) h l

-- A version that is shown came to its region.

pub whole_came : (kind : StoreKind) (h : List Entry) (g : ℕ) (r : Row) → is_whole kind h g r ≡ true → is_shipped h g r.version 1 ≡ true
whole_came kind h g r whole =
    let n : ℕ = parts_of kind r.value in
    let some : 0 < n = omega (arith, has_parts kind r.value) in
    let passes : is_shipped h g r.version (get_or (parts kind r) 0 0) ≡ true = AllPass-from_list_all (λ (p : ℕ). is_shipped h g r.version p) (parts kind r) whole 0 0 (omega (arith, length-range_with_len 1 n)) in
    subst (λ (p : ℕ). is_shipped h g r.version p ≡ true) (get_or-range_with_len 1 n 0 0 some) passes

pub shown_came : (kind : StoreKind) (h : List Entry) (g : ℕ) (k : List ℕ) → 1 ≤ shows_of kind h g k → is_shipped h g (shows_of kind h g k) 1 ≡ true
shown_came kind h g k some =
    let found : (r : Row) × IsGreatest (is_whole kind h g) k (rows h) r = greatest_passes (is_whole kind h g) k (rows h) some in
    subst (λ (v : ℕ). is_shipped h g v 1 ≡ true) found.1.version (whole_came kind h g found.0 found.1.passes)

-- An id that was written and is below a version that came is visible there.

table_whole : (kind : StoreKind) (h : List Entry) (g : ℕ) (r : Row) → (facts_of kind).ordered ≡ true → is_shipped h g r.version 1 ≡ true → is_whole kind h g r ≡ true
table_whole kind h g r table came = one_is_whole kind h g r table ∙ and_from (is_shipped h g r.version 1) true came refl

pub visible_below : (s : Store) → s.shows ≡ shows_of s.kind → (facts_of s.kind).ordered ≡ true → (h : List Entry) → IsLegal (store s) h → (g v p : ℕ) (id : WriteId) → is_shipped h g v p ≡ true → id.version < v → is_written h id ≡ true
    → is_visible s h g id ≡ true
visible_below s is table h l g v p id came less written =
    let found : (r : Row) × IsWritten h id r = row_written s h l id written in
    let r : Row = found.0 in
    let at : Found (λ (x : Row). x.version == id.version) (rows h) r = find_found (λ (x : Row). x.version == id.version) (rows h) r found.1.row in
    let here : get_or (rows h) at.index r ≡ r = at.at r in
    let some : 1 ≤ id.version = omega (arith, version_at s h l at.index r at.within, ap (λ (x : Row). x.version) here, found.1.version) in
    let own : is_shipped h g r.version 1 ≡ true = subst (λ (w : ℕ). is_shipped h g w 1 ≡ true) (sym found.1.version) (in_order s table h l g v p id.version came some less) in
    let whole : is_whole s.kind h g r ≡ true = table_whole s.kind h g r table own in
    let below : r.version ≤ shows_of s.kind h g id.key =
    subst (λ (x : Row). x.version ≤ shows_of s.kind h g id.key) here
    (greatest_least (is_whole s.kind h g) id.key (rows h) at.index r at.within (ap (λ (x : Row). bytes_eq x.key id.key) here ∙ same_bytes r.key id.key found.1.key) (ap (is_whole s.kind h g) here ∙ whole)) in
    ap (λ (shows : List Entry → ℕ → List ℕ → ℕ). leb id.version (shows h g id.key)) is ∙ le-leb id.version (shows_of s.kind h g id.key) (omega (arith, found.1.version))
