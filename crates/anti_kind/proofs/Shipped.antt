-- Only what was written was shipped, and only to replicas.
use Rattle.std.proofs.Common.{◌≡◌, ℕ, ◌<◌, ◌≤◌, true, false, not, List, [], ◌∷◌, ◌++◌, length, Option, Some, None, refl, sym, ap, ◌∙◌, inl, inr, ⊎_elim, ◌==◌, leb, eqb-true, subst, arith}
use Rattle.std.proofs.lemmas.Bool.{and_parts, or_cases, cases_lt, leb-true, false_from_ne_true, not-true, false≢true}
use Rattle.anti_kind.specs.declared.call.Call.{Call}
use Rattle.anti_kind.specs.declared.call.Call.TheVariants.{Ship}
use Rattle.anti_kind.specs.declared.entry.Entry.{Entry}
use Rattle.anti_kind.specs.declared.row.Row.{Row}
use Rattle.anti_kind.specs.declared.store_kind.StoreKind.{StoreKind}
use Rattle.anti_kind.specs.Stored.{wrote, rows, row_of, parts_of, is_ship, is_shipped}
use Rattle.anti_kind.specs.Store.{Store, is_replica, has_part, can_ship, store_ready}
use Rattle.anti_kind.specs.Objects.{store, Follows, IsLegal}
use Rattle.anti_kind.proofs.Finding.{find_kept}
use Rattle.anti_kind.proofs.Histories.{by_entries}
use Rattle.anti_kind.proofs.Rows.{rows_more, shipped_more, row_of_none}

-- A row that is there stays.

pub row_of_kept : (h : List Entry) (e : Entry) (v : ℕ) (r : Row) → row_of h v ≡ Some r → row_of (h ++ e ∷ []) v ≡ Some r
row_of_kept h e v r is = rw (rows_more h e) (find_kept (λ (x : Row). x.version == v) (rows h) (wrote e.call e.reply) r is)

pub row_with_part : (kind : StoreKind) (o : Option Row) (p : ℕ) → has_part kind o p ≡ true → (r : Row) × (o ≡ Some r)
row_with_part kind None p has = absurd (cc)
row_with_part kind (Some r) p has = (r, refl)

-- and the part is one of its value
pub part_within : (kind : StoreKind) (o : Option Row) (r : Row) (p : ℕ) → has_part kind o p ≡ true → o ≡ Some r → (1 ≤ p) × (p ≤ parts_of kind r.value)
part_within kind None r p has is = absurd (cc)
part_within kind (Some x) r p has is =
    let same : x ≡ r = cc in
    let both = and_parts (leb 1 p) (leb p (parts_of kind x.value)) has in
    (leb-true 1 p both.0, subst (λ (y : Row). p ≤ parts_of kind y.value) same (leb-true p (parts_of kind x.value) both.1))

part_kept : (kind : StoreKind) (h : List Entry) (e : Entry) (v p : ℕ) → has_part kind (row_of h v) p ≡ true → has_part kind (row_of (h ++ e ∷ []) v) p ≡ true
part_kept kind h e v p has =
    let found : (r : Row) × (row_of h v ≡ Some r) = row_with_part kind (row_of h v) p has in
    ap (λ (o : Option Row). has_part kind o p) (row_of_kept h e v found.0 found.1 ∙ sym found.1) ∙ has

-- the version and the part exist, and the region is a replica
pub record IsShipment (s : Store) (h : List Entry) (g v p : ℕ) : Type 0 where
  pub replica : is_replica s g ≡ true
  pub part : has_part s.kind (row_of h v) p ≡ true

-- what `ready` says of a shipment
pub record IsReadyShipment (s : Store) (h : List Entry) (g v p : ℕ) : Type 0 where
  pub shipment : IsShipment s h g v p
  pub new : is_shipped h g v p ≡ false

pub ready_shipment : (s : Store) (h : List Entry) (g v p : ℕ) → can_ship s h g v p ≡ true → IsReadyShipment s h g v p
ready_shipment s h g v p can =
    let first = and_parts (is_replica s g) _ can in
    let second = and_parts (has_part s.kind (row_of h v) p) _ first.1 in
    let third = and_parts (not (is_shipped h g v p)) _ second.1 in
    record { shipment = record { replica = first.0; part = second.0 }; new = not-true (is_shipped h g v p) third.0 }

pub ready_ship : (s : Store) (h : List Entry) (e : Entry) (g v p : ℕ) → Follows (store s) h e → e.call ≡ Ship g v p → IsReadyShipment s h g v p
ready_ship s h e g v p f is = ready_shipment s h g v p (ap (λ (c : Call). store_ready s h c) (sym is) ∙ f.is_ready)

shipment_kept : (s : Store) (h : List Entry) (e : Entry) (g v p : ℕ) → IsShipment s h g v p → IsShipment s (h ++ e ∷ []) g v p
shipment_kept s h e g v p was = record { replica = was.replica; part = part_kept s.kind h e v p was.part }

pub ship_same : (g v p : ℕ) (c : Call) → is_ship g v p c ≡ true → c ≡ Ship g v p
ship_same g v p (Ship region version part) yes' =
    let first = and_parts (region == g) _ yes' in
    let second = and_parts (version == v) _ first.1 in
    let a : region ≡ g = eqb-true region g first.0 in
    let b : version ≡ v = eqb-true version v second.0 in
    let c : part ≡ p = eqb-true part p second.1 in
    cc
ship_same g v p _ yes' = absurd (false≢true yes')

abbrev Sound : Store → List Entry → Type 0
Sound s h = (g v p : ℕ) → is_shipped h g v p ≡ true → IsShipment s h g v p

sound_more : (s : Store) (h : List Entry) (e : Entry) → IsLegal (store s) h → Follows (store s) h e → Sound s h → Sound s (h ++ e ∷ [])
sound_more s h e l f sound g v p was =
    ⊎_elim (λ (before : is_shipped h g v p ≡ true). shipment_kept s h e g v p (sound g v p before))
    (λ (now : is_ship g v p e.call ≡ true). shipment_kept s h e g v p (ready_ship s h e g v p f (ship_same g v p e.call now)).shipment)
    (or_cases (is_shipped h g v p) (is_ship g v p e.call) (sym (shipped_more h e g v p) ∙ was))

-- what a legal history shipped was written, and went to a replica
pub shipped_sound : (s : Store) (h : List Entry) → IsLegal (store s) h → (g v p : ℕ) → is_shipped h g v p ≡ true → IsShipment s h g v p
shipped_sound s h l = by_entries (store s) (Sound s) (λ g v p was. absurd (cc)) (sound_more s) h l

-- so its version is one of those written
pub version_within : (s : Store) (h : List Entry) → IsLegal (store s) h → (v p : ℕ) → has_part s.kind (row_of h v) p ≡ true → (1 ≤ v) × (v ≤ length (rows h))
version_within s h l v p has = (
  ⊎_elim (λ (low : v < 1). let none : row_of h v ≡ None = row_of_none s h l v (inl (omega arith)) in absurd (absent none)) (λ (some : 1 ≤ v). some) (cases_lt v 1),
  ⊎_elim (λ (high : length (rows h) < v). absurd (absent (row_of_none s h l v (inr high)))) (λ (in' : v ≤ length (rows h)). in') (cases_lt (length (rows h)) v),
)
  where
    absent : row_of h v ≡ None → ⊥
    absent none = let has' : has_part s.kind None p ≡ true = ap (λ (o : Option Row). has_part s.kind o p) (sym none) ∙ has in cc

pub version_shipped : (s : Store) (h : List Entry) → IsLegal (store s) h → (g v p : ℕ) → is_shipped h g v p ≡ true → (1 ≤ v) × (v ≤ length (rows h))
version_shipped s h l g v p was = version_within s h l v p (shipped_sound s h l g v p was).part

-- and what was not written was never shipped
pub never_shipped : (s : Store) (h : List Entry) → IsLegal (store s) h → (g v p : ℕ) → length (rows h) < v → is_shipped h g v p ≡ false
never_shipped s h l g v p above =
    false_from_ne_true (is_shipped h g v p) (λ was. let in' = version_shipped s h l g v p was in omega arith)
