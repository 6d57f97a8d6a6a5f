-- The units of a store: what each call does to what is reserved.
use Rattle.std.proofs.Common.{◌≡◌, ℕ, ◌+◌, ◌-◌, ◌*◌, ◌<◌, ◌≤◌, Bool, true, false, not, ◌&&◌, ◌||◌, List, [], ◌∷◌, ◌++◌, length, get_or, AllPairs, Any, sum_by, count_by, refl, sym, ap, ap₂, ◌∙◌, ◌⊎◌, ⊎_elim, ◌==◌, eq-eqb, ne_eqb, eqb-true, arith}
use Rattle.std.specs.List.{range_with_len}
use Rattle.std.proofs.lemmas.List.{get_or_default}
use Rattle.std.proofs.lemmas.List.FromFn.{get_or-range_with_len, length-range_with_len}
use Rattle.std.proofs.lemmas.List.Folds.{Any-from_list_any}
use Rattle.std.proofs.lemmas.List.Sums.{sum_by_push}
use Rattle.std.proofs.lemmas.Bool.{cases_order, and_left, and_right}
use Rattle.anti_ids.specs.declared.id.WriteId.{WriteId}
use Rattle.anti_kind.specs.declared.call.Call.TheVariants.{Write, Ship}
use Rattle.anti_kind.specs.declared.actor.Actor.TheVariants.{Newborn}
use Rattle.anti_kind.specs.declared.call.Reply.TheVariants.{Moved}
use Rattle.anti_kind.specs.declared.entry.Entry.{Entry}
use Rattle.anti_kind.specs.declared.row.Row.{Row}
use Rattle.anti_kind.specs.Stored.{rows, row_of, is_shipped, parts_of, parts}
use Rattle.anti_kind.specs.Store.{Store, is_replica, owed_shipments, store_ready}
use Rattle.anti_kind.specs.Objects.{store, Follows, IsLegal}
use Rattle.anti_kind.specs.Starts.{IsStore}
use Rattle.anti_kind.proofs.Rows.{is_write, is_shipping, new_row, or_false, rows_other, rows_write, shipped_other, shipped_ship, version_at, row_of_at}
use Rattle.anti_kind.proofs.Shipped.{IsReadyShipment, ready_ship, ready_shipment, part_within, version_within, never_shipped}
use Rattle.anti_kind.proofs.Sums.{sum_same, sum_one_less, count_same, count_one_less, count_all, sum_equal}

-- the shipments of a row to g that were not made
abbrev owed_at : Store → List Entry → Row → ℕ → ℕ
owed_at s h r g = count_by (λ p. not (is_shipped h g r.version p)) (parts s.kind r)

-- what is owed of rows at regions depends on what was shipped alone
owed_as : (s : Store) (h k : List Entry) → ((g v p : ℕ) → is_shipped k g v p ≡ is_shipped h g v p) → (rs : List Row)
    → sum_by (λ r. sum_by (owed_at s k r) s.regions) rs ≡ sum_by (λ r. sum_by (owed_at s h r) s.regions) rs
owed_as s h k same rs =
    sum_same (λ r. sum_by (owed_at s k r) s.regions) (λ r. sum_by (owed_at s h r) s.regions) rs (λ i d short.
    sum_same (owed_at s k (get_or rs i d)) (owed_at s h (get_or rs i d)) s.regions (λ j e within.
    count_same (λ p. not (is_shipped k (get_or s.regions j e) (get_or rs i d).version p)) (λ p. not (is_shipped h (get_or s.regions j e) (get_or rs i d).version p)) (parts s.kind (get_or rs i d)) (λ n f in'.
    ap not (same (get_or s.regions j e) (get_or rs i d).version (get_or (parts s.kind (get_or rs i d)) n f)))))

-- a call that is no write and no shipment leaves the shipments that are owed
pub owed_other : (s : Store) (h : List Entry) (e : Entry) → is_write e.call ≡ false → is_shipping e.call ≡ false → owed_shipments s (h ++ e ∷ []) ≡ owed_shipments s h
owed_other s h e writes ships =
    rw (rows_other h e writes) (owed_as s h (h ++ e ∷ []) (λ g v p. shipped_other h e g v p ships) (rows h))

-- Of a row that was never shipped all parts are owed at each region.

owed_new : (s : Store) (h : List Entry) (r : Row) → ((g p : ℕ) → is_shipped h g r.version p ≡ false) → sum_by (owed_at s h r) s.regions ≡ length s.regions * parts_of s.kind r.value
owed_new s h r never =
    sum_equal (owed_at s h r) (parts_of s.kind r.value) s.regions (λ j e within.
    count_all (λ p. not (is_shipped h (get_or s.regions j e) r.version p)) (parts s.kind r) (λ n f in'. ap not (never (get_or s.regions j e) (get_or (parts s.kind r) n f)))
    ∙ length-range_with_len 1 (parts_of s.kind r.value))

-- a write owes the shipments of its parts to each replica
pub owed_write : (s : Store) (h : List Entry) (e : Entry) (key value : List ℕ) (lineage : List WriteId) → IsLegal (store s) h → Follows (store s) h e → e.call ≡ Write key value lineage
    → owed_shipments s (h ++ e ∷ []) ≡ owed_shipments s h + length s.regions * parts_of s.kind value
owed_write s h e key value lineage l f is =
    let same : (g v p : ℕ) → is_shipped (h ++ e ∷ []) g v p ≡ is_shipped h g v p = λ g v p. shipped_other h e g v p (ap is_shipping is) in
    let never : (g p : ℕ) → is_shipped h g (length (rows h) + 1) p ≡ false = λ g p. never_shipped s h l g (length (rows h) + 1) p (omega arith) in
    owed_as s h (h ++ e ∷ []) same (rows (h ++ e ∷ []))
    ∙ ap (sum_by (λ (r : Row). sum_by (owed_at s h r) s.regions)) (rows_write s h e key value lineage f is)
    ∙ sum_by_push (λ (r : Row). sum_by (owed_at s h r) s.regions) (rows h) (new_row s h key value lineage)
    ∙ ap (λ (n : ℕ). owed_shipments s h + n) (owed_new s h (new_row s h key value lineage) never)

-- A shipment settles the one part that it brings.

module _ (s : Store) (h : List Entry) (e : Entry) (g v p : ℕ) (is : e.call ≡ Ship g v p) where
  apart : (g' v' p' : ℕ) → ((g == g') && ((v == v') && (p == p'))) ≡ false → is_shipped (h ++ e ∷ []) g' v' p' ≡ is_shipped h g' v' p'
  apart g' v' p' differs = shipped_ship h e g' v' p' g v p is ∙ ap (λ (b : Bool). is_shipped h g' v' p' || b) differs ∙ or_false (is_shipped h g' v' p')

  other_region : (g' v' p' : ℕ) → (g ≡ g' → ⊥) → is_shipped (h ++ e ∷ []) g' v' p' ≡ is_shipped h g' v' p'
  other_region g' v' p' differs = apart g' v' p' (and_left (g == g') _ (ne_eqb g g' differs))

  other_version : (g' v' p' : ℕ) → (v ≡ v' → ⊥) → is_shipped (h ++ e ∷ []) g' v' p' ≡ is_shipped h g' v' p'
  other_version g' v' p' differs = apart g' v' p' (and_right (g == g') _ (and_left (v == v') _ (ne_eqb v v' differs)))

  other_part : (g' v' p' : ℕ) → (p ≡ p' → ⊥) → is_shipped (h ++ e ∷ []) g' v' p' ≡ is_shipped h g' v' p'
  other_part g' v' p' differs = apart g' v' p' (and_right (g == g') _ (and_right (v == v') _ (ne_eqb p p' differs)))

  or_true : (b : Bool) → (b || true) ≡ true
  or_true true = refl
  or_true false = refl

  shipped_now : is_shipped (h ++ e ∷ []) g v p ≡ true
  shipped_now =
      let a : (g == g) ≡ true = eq-eqb g g refl in
      let b : (v == v) ≡ true = eq-eqb v v refl in
      let c : (p == p) ≡ true = eq-eqb p p refl in
      shipped_ship h e g v p g v p is ∙ rw (a, b, c) (or_true (is_shipped h g v p))

  -- at its region, of a row of its version
  one_part : (r : Row) → r.version ≡ v → 1 ≤ p → p ≤ parts_of s.kind r.value → is_shipped h g v p ≡ false → owed_at s h r g ≡ owed_at s (h ++ e ∷ []) r g + 1
  one_part r at some within new =
      let n : ℕ = parts_of s.kind r.value in
      let len : length (range_with_len 1 n) ≡ n = length-range_with_len 1 n in
      let spot : (i d : ℕ) → i < n → get_or (range_with_len 1 n) i d ≡ 1 + i = λ i d short. get_or-range_with_len 1 n i d short in
      let here : (d : ℕ) → get_or (range_with_len 1 n) (p - 1) d ≡ p = λ d. spot (p - 1) d (omega arith) ∙ omega arith in
      count_one_less (λ q. not (is_shipped h g r.version q)) (λ q. not (is_shipped (h ++ e ∷ []) g r.version q)) (range_with_len 1 n) (p - 1) (omega arith)
      (λ d. ap₂ (λ (w q : ℕ). not (is_shipped h g w q)) at (here d) ∙ ap not new)
      (λ d. ap₂ (λ (w q : ℕ). not (is_shipped (h ++ e ∷ []) g w q)) at (here d) ∙ ap not shipped_now)
      (λ k d short differs. ap not (sym (other_part g r.version (get_or (range_with_len 1 n) k d) (λ same. differs (omega (arith, same, spot k d (omega arith)))))))

  -- at all regions, of a row of its version
  one_region : (r : Row) → r.version ≡ v → 1 ≤ p → p ≤ parts_of s.kind r.value → is_shipped h g v p ≡ false → AllPairs (λ a b. a ≡ b → ⊥) s.regions → is_replica s g ≡ true
      → sum_by (owed_at s h r) s.regions ≡ sum_by (owed_at s (h ++ e ∷ []) r) s.regions + 1
  one_region r at some within new distinct replica =
      let found : Any (λ region. (region == g) ≡ true) s.regions = Any-from_list_any (λ region. region == g) s.regions replica in
      let i : ℕ = found.0 in
      let short : i < length s.regions = found.2 in
      let is' : found.1 ≡ g = eqb-true found.1 g found.4 in
      let here : (d : ℕ) → get_or s.regions i d ≡ g = λ d. get_or_default s.regions i d found.1 short ∙ found.3 ∙ is' in
      sum_one_less (owed_at s h r) (owed_at s (h ++ e ∷ []) r) s.regions i short
      (λ d. ap (owed_at s h r) (here d) ∙ one_part r at some within new ∙ ap (λ (x : ℕ). owed_at s (h ++ e ∷ []) r x + 1) (sym (here d)))
      (λ k d within' differs.
      let other : g ≡ get_or s.regions k d → ⊥ = λ same. ⊎_elim (λ (eq : k ≡ i). differs eq)
      (λ (order : (k < i) ⊎ (i < k)). ⊎_elim (λ (less : k < i). distinct k i d less short (sym same ∙ sym (here d))) (λ (more : i < k). distinct i k d more within' (here d ∙ same)) order)
      (cases_order k i) in
      count_same (λ q. not (is_shipped h (get_or s.regions k d) r.version q)) (λ q. not (is_shipped (h ++ e ∷ []) (get_or s.regions k d) r.version q)) (parts s.kind r)
      (λ n f in'. ap not (sym (other_region (get_or s.regions k d) r.version (get_or (parts s.kind r) n f) other))))

  -- of another row nothing changes
  other_row : (r : Row) → (v ≡ r.version → ⊥) → sum_by (owed_at s h r) s.regions ≡ sum_by (owed_at s (h ++ e ∷ []) r) s.regions
  other_row r differs =
      sum_same (owed_at s h r) (owed_at s (h ++ e ∷ []) r) s.regions (λ j d within.
      count_same (λ q. not (is_shipped h (get_or s.regions j d) r.version q)) (λ q. not (is_shipped (h ++ e ∷ []) (get_or s.regions j d) r.version q)) (parts s.kind r)
      (λ n f in'. ap not (sym (other_version (get_or s.regions j d) r.version (get_or (parts s.kind r) n f) differs))))

settles_one : (s : Store) (h : List Entry) (e : Entry) (g v p : ℕ) → IsStore s → IsLegal (store s) h → IsReadyShipment s h g v p → e.call ≡ Ship g v p
    → owed_shipments s h ≡ owed_shipments s (h ++ e ∷ []) + 1
settles_one s h e g v p sane l can is =
    let in' : (1 ≤ v) × (v ≤ length (rows h)) = version_within s h l v p can.shipment.part in
    let short : v - 1 < length (rows h) = omega (arith, in'.0, in'.1) in
    let number : (d : Row) → (get_or (rows h) (v - 1) d).version ≡ v = λ d. version_at s h l (v - 1) d short ∙ omega (arith, in'.0) in
    let has : (d : Row) → (1 ≤ p) × (p ≤ parts_of s.kind (get_or (rows h) (v - 1) d).value) =
    λ d. part_within s.kind (row_of h v) (get_or (rows h) (v - 1) d) p can.shipment.part (row_of_at s h l v (v - 1) d (omega (arith, in'.0)) short) in
    sum_one_less (λ r. sum_by (owed_at s h r) s.regions) (λ r. sum_by (owed_at s (h ++ e ∷ []) r) s.regions) (rows h) (v - 1) short
    (λ d. one_region s h e g v p is (get_or (rows h) (v - 1) d) (number d) (has d).0 (has d).1 can.new sane.distinct can.shipment.replica)
    (λ k d within differs. other_row s h e g v p is (get_or (rows h) k d) (λ same. differs (omega (arith, same, version_at s h l k d within, in'.0))))
    ∙ ap (λ (rs : List Row). sum_by (λ r. sum_by (owed_at s (h ++ e ∷ []) r) s.regions) rs + 1) (sym (rows_other h e (ap is_write is)))

-- a shipment settles one of the units that were owed
pub owed_ship : (s : Store) (h : List Entry) (e : Entry) (g v p : ℕ) → IsStore s → IsLegal (store s) h → Follows (store s) h e → e.call ≡ Ship g v p
    → owed_shipments s h ≡ owed_shipments s (h ++ e ∷ []) + 1
owed_ship s h e g v p sane l f is = settles_one s h e g v p sane l (ready_ship s h e g v p f is) is

-- so where a shipment is ready, a unit is owed
pub ship_owed : (s : Store) (h : List Entry) (g v p : ℕ) → IsStore s → IsLegal (store s) h → store_ready s h (Ship g v p) ≡ true → 1 ≤ owed_shipments s h
ship_owed s h g v p sane l can =
    let e : Entry = record { stamp = 0; object = 0; place = 0; seat = 0; actor = Newborn; span = 0; call = Ship g v p; reply = Moved } in
    let less : owed_shipments s h ≡ owed_shipments s (h ++ e ∷ []) + 1 = settles_one s h e g v p sane l (ready_shipment s h g v p can) refl in
    omega arith
