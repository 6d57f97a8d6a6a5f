-- What a write keeps beside itself: what was handed in, and what the write that it replaces left. Along a history that only grows.
use Rattle.std.proofs.Common.{◌≡◌, ℕ, ◌+◌, ◌*◌, ◌<◌, ◌≤◌, max, Bool, true, false, cond, ◌&&◌, ◌||◌, List, [], ◌∷◌, ◌++◌, length, Option, Some, None, find, count_by, refl, sym, ap, subst, ◌∙◌, ◌⊎◌, inl, inr, ⊎_elim, append_assoc, append-nil, ◌==◌, ne_eqb, leb, arith}
use Rattle.std.specs.Prelude.{bytes_eq, decimal, unwrap_or, Contains}
use Rattle.std.specs.List.{list_all}
use Rattle.std.proofs.lemmas.List.Elements.{Contains-append_right}
use Rattle.std.proofs.lemmas.Bool.{and_from, and_parts, and_right, cases_Bool, both_ways, or_cases, or_left, or_right, cases_lt, false_from_ne_true, false≢true, leb-true, le-leb}
use Rattle.anti_ids.specs.Names.{is_plain, is_plain_byte}
use Rattle.anti_ids.specs.Ids.{is_id, has_id, with_id, with_ids}
use Rattle.anti_ids.specs.Invariants.{IsAscending}
use Rattle.anti_ids.specs.declared.id.WriteId.{WriteId}
use Rattle.anti_ids.specs.declared.limits.TheConstants.{MOST_IDS, MOST_UNITS}
use Rattle.anti_ids.proofs.IdLemmas.{has_id-with_ids, ascending_with_ids, le-length-with_ids, length-part, length-with_id, same_id, with_id-there}
use Rattle.anti_kind.specs.Kinds.{facts_of}
use Rattle.anti_kind.specs.declared.call.Call.{Call}
use Rattle.anti_kind.specs.declared.call.Call.TheVariants.{Write}
use Rattle.anti_kind.specs.declared.entry.Entry.{Entry}
use Rattle.anti_kind.specs.declared.row.Row.{Row}
use Rattle.anti_kind.specs.Stored.{rows, row_of, parts_of, greatest, is_in}
use Rattle.anti_kind.specs.Store.{Store, key_for, left_by, over, replaced, store_need, with_left, with_replaced}
use Rattle.anti_kind.specs.Objects.{store, Follows, IsLegal}
use Rattle.anti_kind.proofs.Finding.{find_past}
use Rattle.anti_kind.proofs.Histories.{by_entries, legal_more, legal_front, follows_in}
use Rattle.anti_kind.proofs.Rows.{is_write, new_row, rows_other, rows_write, version_at, row_in}
use Rattle.anti_kind.proofs.Showing.{bytes_same, IsGreatest, greatest_passes}

-- What it needs.

-- a write that needs no more units than an object has keeps no more ids than a lineage may have, and needs a unit and one for each
-- shipment of a part
pub fitting : (s : Store) (h : List Entry) (key value : List ℕ) (lineage : List WriteId) → store_need s h (Write key value lineage) ≤ MOST_UNITS
    → (length (over s h key lineage) ≤ MOST_IDS) × (store_need s h (Write key value lineage) ≡ 1 + length s.regions * parts_of s.kind value)
fitting s h key value lineage fits = by_test (leb (length (over s h key lineage)) MOST_IDS) refl fits where
  by_test : (b : Bool) → leb (length (over s h key lineage)) MOST_IDS ≡ b → cond b (1 + length s.regions * parts_of s.kind value) (MOST_UNITS + 1) ≤ MOST_UNITS
      → (length (over s h key lineage) ≤ MOST_IDS) × (cond b (1 + length s.regions * parts_of s.kind value) (MOST_UNITS + 1) ≡ 1 + length s.regions * parts_of s.kind value)
  by_test true few within = (leb-true (length (over s h key lineage)) MOST_IDS few, refl)
  by_test false many within = absurd (omega arith)

-- where it would keep no fewer ids, it needs no less, or more than an object has
pub write_need : (s : Store) (h k : List Entry) (key value : List ℕ) (lineage : List WriteId) → length (over s h key lineage) ≤ length (over s k key lineage)
    → (store_need s h (Write key value lineage) ≤ store_need s k (Write key value lineage)) ⊎ (MOST_UNITS < store_need s k (Write key value lineage))
write_need s h k key value lineage more = by_test (leb (length (over s k key lineage)) MOST_IDS) refl where
  by_test : (b : Bool) → leb (length (over s k key lineage)) MOST_IDS ≡ b
      → (store_need s h (Write key value lineage) ≤ store_need s k (Write key value lineage)) ⊎ (MOST_UNITS < store_need s k (Write key value lineage))
  by_test true few =
      let later : store_need s k (Write key value lineage) ≡ 1 + length s.regions * parts_of s.kind value = ap (λ (b : Bool). cond b (1 + length s.regions * parts_of s.kind value) (MOST_UNITS + 1)) few in
      let before : store_need s h (Write key value lineage) ≡ 1 + length s.regions * parts_of s.kind value =
      ap (λ (b : Bool). cond b (1 + length s.regions * parts_of s.kind value) (MOST_UNITS + 1)) (le-leb (length (over s h key lineage)) MOST_IDS (omega (arith, more, leb-true (length (over s k key lineage)) MOST_IDS few))) in
      inl (omega arith)
  by_test false many =
      let later : store_need s k (Write key value lineage) ≡ MOST_UNITS + 1 = ap (λ (b : Bool). cond b (1 + length s.regions * parts_of s.kind value) (MOST_UNITS + 1)) many in
      inr (omega arith)

-- The write that is replaced, behind one entry more.

abbrev any : Row → Bool
any r = true

pub greatest_push : (test : Row → Bool) (k : List ℕ) (rs : List Row) (r : Row) → greatest test k (rs ++ r ∷ []) ≡ max (greatest test k rs) (cond (bytes_eq r.key k && test r) r.version 0)
greatest_push test k [] r = omega arith
greatest_push test k (x ∷ rs) r =
    let rest : greatest test k (rs ++ r ∷ []) ≡ max (greatest test k rs) (cond (bytes_eq r.key k && test r) r.version 0) = greatest_push test k rs r in omega arith

greatest_within : (s : Store) (h : List Entry) → IsLegal (store s) h → (key : List ℕ) → greatest any key (rows h) ≤ length (rows h)
greatest_within s h l key =
    ⊎_elim (λ (none : greatest any key (rows h) < 1). omega arith)
    (λ (some : 1 ≤ greatest any key (rows h)).
    let found : (r : Row) × IsGreatest any key (rows h) r = greatest_passes any key (rows h) some in
    let short : found.1.here.0 < length (rows h) = found.1.here.1 in
    let number : found.0.version ≡ found.1.here.0 + 1 = ap (λ (x : Row). x.version) (sym found.1.here.2) ∙ version_at s h l found.1.here.0 found.0 short in
    omega (arith, found.1.version))
    (cases_lt (greatest any key (rows h)) 1)

pub replaced_other : (h : List Entry) (e : Entry) (key : List ℕ) → is_write e.call ≡ false → replaced (h ++ e ∷ []) key ≡ replaced h key
replaced_other h e key off = ap (λ (rs : List Row). find (λ (r : Row). r.version == greatest any key rs) rs) (rows_other h e off)

-- a write to the key is the one that the next to it replaces
pub replaced_write : (s : Store) (h : List Entry) (e : Entry) (name value : List ℕ) (lineage : List WriteId) → IsLegal (store s) h → Follows (store s) h e → e.call ≡ Write name value lineage → (key : List ℕ)
    → replaced (h ++ e ∷ []) key ≡ cond (bytes_eq (key_for s.kind h name) key) (Some (new_row s h name value lineage)) (replaced h key)
replaced_write s h e name value lineage l f is key = by_key (bytes_eq (key_for s.kind h name) key) refl where
  now : rows (h ++ e ∷ []) ≡ rows h ++ new_row s h name value lineage ∷ []
  now = rows_write s h e name value lineage f is

  counted : (b : Bool) → bytes_eq (key_for s.kind h name) key ≡ b → greatest any key (rows (h ++ e ∷ [])) ≡ max (greatest any key (rows h)) (cond b (length (rows h) + 1) 0)
  counted b at =
      ap (greatest any key) now ∙ greatest_push any key (rows h) (new_row s h name value lineage)
      ∙ ap (λ (t : Bool). max (greatest any key (rows h)) (cond (t && true) (length (rows h) + 1) 0)) at
      ∙ ap (λ (t : Bool). max (greatest any key (rows h)) (cond t (length (rows h) + 1) 0)) (and_true b)
    where
      and_true : (t : Bool) → (t && true) ≡ t
      and_true true = refl
      and_true false = refl

  by_key : (b : Bool) → bytes_eq (key_for s.kind h name) key ≡ b → replaced (h ++ e ∷ []) key ≡ cond b (Some (new_row s h name value lineage)) (replaced h key)
  by_key true same =
      let top : greatest any key (rows (h ++ e ∷ [])) ≡ length (rows h) + 1 = omega (arith, counted true same, greatest_within s h l key) in
      let in' : Contains (rows (h ++ e ∷ [])) (new_row s h name value lineage) =
      subst (λ (rs : List Row). Contains rs (new_row s h name value lineage)) (sym now) (Contains-append_right (rows h) (new_row s h name value lineage ∷ []) (new_row s h name value lineage) (0, omega arith, refl)) in
      ap (row_of (h ++ e ∷ [])) top ∙ row_in s (h ++ e ∷ []) (legal_more (store s) h e l f) (new_row s h name value lineage) in'
  by_key false other =
      let top : greatest any key (rows (h ++ e ∷ [])) ≡ greatest any key (rows h) = omega (arith, counted false other) in
      ap (row_of (h ++ e ∷ [])) top ∙ ap (λ (rs : List Row). find (λ (r : Row). r.version == greatest any key (rows h)) rs) now
      ∙ find_past (λ (r : Row). r.version == greatest any key (rows h)) (rows h) (new_row s h name value lineage)
      (ne_eqb (length (rows h) + 1) (greatest any key (rows h)) (λ same. omega (arith, same, greatest_within s h l key)))

-- In a queue and a topic nothing is replaced.

marked : (c rest : List ℕ) → list_all is_plain_byte (c ++ 35 ∷ rest) ≡ false
marked [] rest = refl
marked (b ∷ c) rest = and_right (is_plain_byte b) (list_all is_plain_byte (c ++ 35 ∷ rest)) (marked c rest)

-- the key that a write gets, by the kind of its store
pub key_keyed : (s : Store) (h : List Entry) (name : List ℕ) → (facts_of s.kind).keyed ≡ true → key_for s.kind h name ≡ name
key_keyed s h name keyed = ap (λ (b : Bool). cond b name (name ++ 35 ∷ decimal (count_by (is_in name) (rows h) + 1))) keyed

pub key_marked : (s : Store) (h : List Entry) (name : List ℕ) → (facts_of s.kind).keyed ≡ false → key_for s.kind h name ≡ name ++ 35 ∷ decimal (count_by (is_in name) (rows h) + 1)
key_marked s h name keyless = ap (λ (b : Bool). cond b name (name ++ 35 ∷ decimal (count_by (is_in name) (rows h) + 1))) keyless

-- no key of a message or cell is plain
pub not_named : (s : Store) → (facts_of s.kind).keyed ≡ false → (h : List Entry) (name key : List ℕ) → is_plain key ≡ true → bytes_eq (key_for s.kind h name) key ≡ false
not_named s keyless h name key plain =
    false_from_ne_true (bytes_eq (key_for s.kind h name) key) (λ on.
    let same : key_for s.kind h name ≡ key = bytes_same (key_for s.kind h name) key on in
    let first = and_parts _ _ plain in
    let second = and_parts _ (list_all is_plain_byte key) first.1 in
    both_ways (list_all is_plain_byte key)
    (ap (list_all is_plain_byte) (sym same ∙ key_marked s h name keyless) ∙ marked name (decimal (count_by (is_in name) (rows h) + 1))) second.1)

pub nothing_replaced : (s : Store) → (facts_of s.kind).keyed ≡ false → (h : List Entry) → IsLegal (store s) h → (key : List ℕ) → is_plain key ≡ true → replaced h key ≡ None
nothing_replaced s keyless h l key plain = by_entries (store s) (λ k. replaced k key ≡ None) refl step h l where
  step : (k : List Entry) (e : Entry) → IsLegal (store s) k → Follows (store s) k e → replaced k key ≡ None → replaced (k ++ e ∷ []) key ≡ None
  step k e legal f was = by_call e.call refl where
    by_call : (c : Call) → e.call ≡ c → replaced (k ++ e ∷ []) key ≡ None
    by_call (Write name value lineage) is =
        replaced_write s k e name value lineage legal f is key
        ∙ ap (λ (b : Bool). cond b (Some (new_row s k name value lineage)) (replaced k key)) (not_named s keyless k name key plain) ∙ was
    by_call _ is = replaced_other k e key (ap is_write is) ∙ was

-- What a replaced write leaves to the one that replaces it: its id, and what is kept beside it.

-- an id that is left is in the lineage, where all that is left is
left_there : (left lineage : List WriteId) (i : WriteId) → list_all (λ j. has_id j lineage) left ≡ true → has_id i left ≡ true → has_id i lineage ≡ true
left_there [] lineage i all has = absurd (cc)
left_there (j ∷ js) lineage i all has =
    let parts = and_parts (has_id j lineage) (list_all (λ k. has_id k lineage) js) all in
    ⊎_elim (λ (same : is_id i j ≡ true). ap (λ (k : WriteId). has_id k lineage) (same_id i j same) ∙ parts.0) (λ (further : has_id i js ≡ true). left_there js lineage i parts.1 further)
    (or_cases (is_id i j) (has_id i js) has)

has_id-with_left : (i : WriteId) (left lineage : List WriteId) → has_id i (unwrap_or (with_left left lineage) lineage) ≡ (has_id i left || has_id i lineage)
has_id-with_left i left lineage = by_test (list_all (λ j. has_id j lineage) left) refl where
  by_test : (all : Bool) → list_all (λ j. has_id j lineage) left ≡ all → has_id i (unwrap_or (cond all None (Some (with_ids left lineage))) lineage) ≡ (has_id i left || has_id i lineage)
  by_test true all = by_left (has_id i left) refl where
    by_left : (b : Bool) → has_id i left ≡ b → has_id i lineage ≡ (b || has_id i lineage)
    by_left true has = left_there left lineage i all has
    by_left false has = refl
  by_test false some = has_id-with_ids i left lineage

pub has_id-with_replaced : (i : WriteId) (number : ℕ) (o : Option Row) (lineage : List WriteId) → has_id i (with_replaced number o lineage) ≡ (has_id i (left_by number o) || has_id i lineage)
has_id-with_replaced i number o lineage = has_id-with_left i (left_by number o) lineage

pub ascending_with_replaced : (number : ℕ) (o : Option Row) (lineage : List WriteId) → IsAscending lineage → IsAscending (with_replaced number o lineage)
ascending_with_replaced number o lineage asc = by_test (list_all (λ j. has_id j lineage) (left_by number o)) where
  by_test : (all : Bool) → IsAscending (unwrap_or (cond all None (Some (with_ids (left_by number o) lineage))) lineage)
  by_test true = asc
  by_test false = ascending_with_ids (left_by number o) lineage asc

-- With ids that are all there a lineage is as it was, and so is its length; where the length is, they are.
pub with_ids-there : (is js : List WriteId) → IsAscending js → list_all (λ i. has_id i js) is ≡ true → with_ids is js ≡ js
with_ids-there [] js asc all = refl
with_ids-there (i ∷ is) js asc all =
    let parts = and_parts (has_id i js) (list_all (λ k. has_id k js) is) all in
    ap (with_ids is) (with_id-there i js asc parts.0) ∙ with_ids-there is js asc parts.1

pub there-with_ids : (is js : List WriteId) → IsAscending js → length (with_ids is js) ≡ length js → list_all (λ i. has_id i js) is ≡ true
there-with_ids [] js asc same = refl
there-with_ids (i ∷ is) js asc same =
    elim (cases_Bool (has_id i js)) [
      | inl there ↦
          let old : with_id i js ≡ js = with_id-there i js asc there in
          and_from (has_id i js) (list_all (λ k. has_id k js) is) there
          (there-with_ids is js asc (sym (ap (λ (ids : List WriteId). length (with_ids is ids)) old) ∙ same))
      | inr new ↦ absurd (omega (arith, same, length-with_id i js new, le-length-with_ids is (with_id i js)))
    ]

length-with_left : (left lineage : List WriteId) → IsAscending lineage → length (unwrap_or (with_left left lineage) lineage) ≡ length (with_ids left lineage)
length-with_left left lineage asc = by_test (list_all (λ j. has_id j lineage) left) refl where
  by_test : (all : Bool) → list_all (λ j. has_id j lineage) left ≡ all → length (unwrap_or (cond all None (Some (with_ids left lineage))) lineage) ≡ length (with_ids left lineage)
  by_test true all = sym (ap length (with_ids-there left lineage asc all))
  by_test false some = refl

-- so a write keeps as many ids as the union has
pub length-over : (s : Store) (h : List Entry) (key : List ℕ) (lineage : List WriteId) → IsAscending lineage
    → length (over s h key lineage) ≡ length (with_ids (left_by s.number (replaced h key)) lineage)
length-over s h key lineage asc = length-with_left (left_by s.number (replaced h key)) lineage asc

-- It stays, where writes go to the keys that they name.

module _ (s : Store) (key : List ℕ) (i : WriteId) where
  abbrev IsLeft : List Entry → Type 0
  IsLeft h = has_id i (left_by s.number (replaced h key)) ≡ true

  left_more : (facts_of s.kind).keyed ≡ true → (h : List Entry) (e : Entry) → IsLegal (store s) h → Follows (store s) h e → IsLeft h → IsLeft (h ++ e ∷ [])
  left_more keyed h e l f was = by_call e.call refl where
    by_call : (c : Call) → e.call ≡ c → IsLeft (h ++ e ∷ [])
    by_call (Write name value lineage) is = subst (λ (o : Option Row). has_id i (left_by s.number o) ≡ true) (sym (replaced_write s h e name value lineage l f is key)) (by_key (bytes_eq (key_for s.kind h name) key) refl) where
      by_key : (b : Bool) → bytes_eq (key_for s.kind h name) key ≡ b → has_id i (left_by s.number (cond b (Some (new_row s h name value lineage)) (replaced h key))) ≡ true
      by_key true on =
          let same : name ≡ key = sym (key_keyed s h name keyed) ∙ bytes_same (key_for s.kind h name) key on in
          or_right (is_id i (record { store = s.number; key = key_for s.kind h name; version = length (rows h) + 1 })) (has_id i (over s h name lineage))
          (has_id-with_replaced i s.number (replaced h name) lineage ∙ or_left (has_id i (left_by s.number (replaced h name))) (has_id i lineage)
          (subst (λ (k : List ℕ). has_id i (left_by s.number (replaced h k)) ≡ true) (sym same) was))
      by_key false off = was
    by_call _ is = subst (λ (o : Option Row). has_id i (left_by s.number o) ≡ true) (sym (replaced_other h e key (ap is_write is))) was

  left_along : (facts_of s.kind).keyed ≡ true → (h rest : List Entry) → IsLegal (store s) (h ++ rest) → IsLeft h → IsLeft (h ++ rest)
  left_along keyed h [] l was = subst IsLeft (sym (append-nil h)) was
  left_along keyed h (e ∷ rest) l was =
      let more : h ++ e ∷ [] ++ rest ≡ h ++ (e ∷ rest) = append_assoc h (e ∷ []) rest in
      subst IsLeft more
      (left_along keyed (h ++ e ∷ []) rest (subst (λ (k : List Entry). IsLegal (store s) k) (sym more) l)
      (left_more keyed h e (legal_front (store s) h (e ∷ rest) l) (follows_in (store s) h e rest l) was))

  left_stays : (h rest : List Entry) → IsLegal (store s) (h ++ rest) → ((facts_of s.kind).keyed || is_plain key) ≡ true → IsLeft h → IsLeft (h ++ rest)
  left_stays h rest l can was = by_kind (facts_of s.kind).keyed refl where
    by_kind : (b : Bool) → (facts_of s.kind).keyed ≡ b → IsLeft (h ++ rest)
    by_kind true keyed = left_along keyed h rest l was
    by_kind false keyless =
        let plain : is_plain key ≡ true = ap (λ (b : Bool). b || is_plain key) (sym keyless) ∙ can in
        let none : replaced h key ≡ None = nothing_replaced s keyless h (legal_front (store s) h rest l) key plain in
        absurd (false≢true (ap (λ (o : Option Row). has_id i (left_by s.number o)) (sym none) ∙ was))

-- so what a ready write would keep it would keep later too
pub over_stays : (s : Store) (h rest : List Entry) (key : List ℕ) (lineage : List WriteId) → IsLegal (store s) (h ++ rest) → ((facts_of s.kind).keyed || is_plain key) ≡ true
    → (i : WriteId) → has_id i (over s h key lineage) ≡ true → has_id i (over s (h ++ rest) key lineage) ≡ true
over_stays s h rest key lineage l can i was =
    has_id-with_replaced i s.number (replaced (h ++ rest) key) lineage
    ∙ ⊎_elim (λ (left : has_id i (left_by s.number (replaced h key)) ≡ true). or_left (has_id i (left_by s.number (replaced (h ++ rest) key))) (has_id i lineage) (left_stays s key i h rest l can left))
    (λ (handed : has_id i lineage ≡ true). or_right (has_id i (left_by s.number (replaced (h ++ rest) key))) (has_id i lineage) handed)
    (or_cases (has_id i (left_by s.number (replaced h key))) (has_id i lineage) (sym (has_id-with_replaced i s.number (replaced h key) lineage) ∙ was))

pub over_grows : (s : Store) (h rest : List Entry) (key : List ℕ) (lineage : List WriteId) → IsLegal (store s) (h ++ rest) → ((facts_of s.kind).keyed || is_plain key) ≡ true → IsAscending lineage
    → length (over s h key lineage) ≤ length (over s (h ++ rest) key lineage)
over_grows s h rest key lineage l can asc =
    length-part (over s h key lineage) (over s (h ++ rest) key lineage) (ascending_with_replaced s.number (replaced h key) lineage asc) (over_stays s h rest key lineage l can)
