-- The next shipment: what is named is ready, and where nothing is named nothing is.
use Rattle.std.proofs.Common.{◌≡◌, ℕ, ◌-◌, ◌≤◌, true, false, List, get_or, Some, sym, ap, subst, ◌∙◌, ◌==◌, eqb-true, arith}
use Rattle.std.specs.Prelude.{Contains, flat_map}
use Rattle.std.proofs.lemmas.Bool.{both_ways, false_from_ne_true}
use Rattle.std.proofs.lemmas.List.{get_or-map, length-map}
use Rattle.std.proofs.lemmas.List.FromFn.{get_or-range_with_len, length-range_with_len}
use Rattle.anti_kind.specs.declared.entry.Entry.{Entry}
use Rattle.anti_kind.specs.declared.row.Row.{Row}
use Rattle.anti_kind.specs.declared.store_kind.StoreKind.{StoreKind}
use Rattle.anti_kind.specs.Stored.{rows, row_of, parts_of, parts}
use Rattle.anti_kind.specs.Store.{Store, has_part, can_ship}
use Rattle.anti_kind.specs.Shipments.{shipment, shipments}
use Rattle.anti_kind.specs.Laws.{NextIsReady, NoneIsReady}
use Rattle.anti_kind.proofs.Shipped.{ready_shipment, part_within, row_with_part}
use Rattle.anti_kind.proofs.Finding.{Found, find_found, none_passes, in_flat_map}

-- What is named is ready.
pub next_is_ready : (s : Store) → NextIsReady s
next_is_ready s h g v p is = (find_found (λ (x : ℕ × ℕ). can_ship s h g x.0 x.1) (flat_map (shipments s.kind) (rows h)) (v, p) is).passes

-- The shipments of the rows have each part of each row.

in_parts : (kind : StoreKind) (r : Row) (p : ℕ) → 1 ≤ p → p ≤ parts_of kind r.value → Contains (parts kind r) p
in_parts kind r p some within =
    let n : ℕ = parts_of kind r.value in
    (p - 1, omega (arith, length-range_with_len 1 n), get_or-range_with_len 1 n (p - 1) p (omega arith) ∙ omega arith)

in_shipments : (kind : StoreKind) (r : Row) (p : ℕ) → 1 ≤ p → p ≤ parts_of kind r.value → Contains (shipments kind r) (r.version, p)
in_shipments kind r p some within =
    let at : Contains (parts kind r) p = in_parts kind r p some within in (
      at.0,
      omega (arith, at.1, length-map (parts kind r) (shipment r.version)),
      get_or-map (shipment r.version) (parts kind r) at.0 p (r.version, p) at.1 ∙ ap (shipment r.version) at.2,
    )

-- a shipment that is ready is one of them
ready_among : (s : Store) (h : List Entry) (g v p : ℕ) → can_ship s h g v p ≡ true → Contains (flat_map (shipments s.kind) (rows h)) (v, p)
ready_among s h g v p can =
    let part : has_part s.kind (row_of h v) p ≡ true = (ready_shipment s h g v p can).shipment.part in
    let row : (r : Row) × (row_of h v ≡ Some r) = row_with_part s.kind (row_of h v) p part in
    let found : Found (λ (r : Row). r.version == v) (rows h) row.0 = find_found (λ (r : Row). r.version == v) (rows h) row.0 row.1 in
    let within : (1 ≤ p) × (p ≤ parts_of s.kind row.0.value) = part_within s.kind (row_of h v) row.0 p part row.1 in
    let at : get_or (rows h) found.index row.0 ≡ row.0 = found.at row.0 in
    let version : row.0.version ≡ v = eqb-true row.0.version v found.passes in
    in_flat_map (shipments s.kind) (rows h) found.index row.0 (v, p) found.within
    (subst (λ (r : Row). Contains (shipments s.kind r) (v, p)) (sym at)
    (subst (λ (w : ℕ). Contains (shipments s.kind row.0) (w, p)) version (in_shipments s.kind row.0 p within.0 within.1)))

-- Where none is named, none is ready.
pub none_is_ready : (s : Store) → NoneIsReady s
none_is_ready s h g l none v p =
    false_from_ne_true (can_ship s h g v p) (λ can.
    let at : Contains (flat_map (shipments s.kind) (rows h)) (v, p) = ready_among s h g v p can in
    let off : can_ship s h g v p ≡ false = ap (λ (x : ℕ × ℕ). can_ship s h g x.0 x.1) (sym at.2) ∙ none_passes (λ (x : ℕ × ℕ). can_ship s h g x.0 x.1) (flat_map (shipments s.kind) (rows h)) none at.0 (v, p) at.1 in
    both_ways (can_ship s h g v p) off can)
