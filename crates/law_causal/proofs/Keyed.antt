-- Of two writes of a store to one key, the one of the lower version is causally before the other.
use Rattle.std.proofs.Common.{◌≡◌, ℕ, zero, suc, ◌+◌, ◌^◌, ◌<◌, ◌≤◌, ◌++◌, ◌||◌, Bool, true, false, List, [], ◌∷◌, length, length-append, get_or, count_by, inl, inr, refl, sym, ap, ◌∙◌, subst, arith}
use Rattle.std.specs.Prelude.{Contains, Option, Some, slice_get, take}
use Rattle.std.proofs.lemmas.Bool.{cases_Bool, cases_eq, cases_lt}
use Rattle.std.proofs.lemmas.List.Elements.{Contains-append_left, Contains-append_right}
use Rattle.std.proofs.lemmas.List.Sums.{count_by-le-length}
use Rattle.anti_ids.specs.Ids.{has_id}
use Rattle.anti_ids.specs.Names.{is_plain}
use Rattle.anti_ids.specs.declared.id.WriteId.{WriteId}
use Rattle.anti_kind.specs.Kinds.{facts_of}
use Rattle.anti_kind.specs.declared.call.Call.{Call}
use Rattle.anti_kind.specs.declared.call.Call.TheVariants as calls
use Rattle.anti_kind.specs.declared.call.Reply.TheVariants as replies
use Rattle.anti_kind.specs.declared.entry.Entry.{Entry}
use Rattle.anti_kind.specs.declared.row.Row.{Row}
use Rattle.anti_kind.specs.Cells.{cell_key}
use Rattle.anti_kind.specs.Objects.{store, Follows, IsLegal}
use Rattle.anti_kind.specs.Store.{Store, key_for, replaced, store_due, store_ready, told_over}
use Rattle.anti_kind.specs.Stored.{greatest, is_in, row_of, rows}
use Rattle.anti_kind.proofs.Cells.{cell_at}
use Rattle.anti_kind.proofs.Histories.{few_entries, legal_more}
use Rattle.anti_kind.proofs.Overs.{key_keyed, key_marked}
use Rattle.anti_kind.proofs.Rows.{new_row, row_in, rows_length, rows_write, version_at}
use Rattle.anti_kind.proofs.Showing.{IsGreatest, greatest_least, greatest_passes, rows-append, same_bytes}
use Rattle.anti_app.specs.declared.app.App.{App}
use Rattle.anti_proc.specs.Local.{id_at}
use Rattle.anti_trace.specs.Legal.{IsLegalTrace}
use Rattle.anti_trace.specs.Traces.{entries_on}
use Rattle.law_causal.specs.Words.{wrote}
use Rattle.law_causal.specs.Causal.{Before, id_replaced, over, through}
use Rattle.law_causal.proofs.Facts.{RowSource}
use Rattle.law_causal.proofs.Ids.{has_id_at, id_for}
use Rattle.law_causal.proofs.Objects.{history_cut, history_longer}
use Rattle.law_causal.proofs.Replacing.{id_found, id_is, its_store, row_source, write_follows, write_legal}
use Rattle.law_causal.proofs.Stores.{IsWrite, once, row_made, rows_cut, write_at, write_parts}

-- ---- a row with the key that a write gets

-- a write to a key replaces the row x, which is no earlier than r
record Supersedes (h : List Entry) (name : List ℕ) (r x : Row) : Type 0 where
  found : replaced h name ≡ Some x
  least : r.version ≤ x.version
  key : x.key ≡ r.key

module _ (s : Store) (h : List Entry) (legal : IsLegal (store s) h) (e : Entry) (follows : Follows (store s) h e)
    (name value : List ℕ) (lineage : List WriteId) (is : e.call ≡ calls.Write name value lineage)
    (r : Row) (among : Contains (rows h) r) (same : r.key ≡ key_for s.kind h name) where
  its_version : r.version ≡ among.0 + 1
  its_version = ap (λ (x : Row). x.version) (sym among.2) ∙ version_at s h legal among.0 r among.1

  -- where writes go to the keys that they name, the greatest version is replaced
  of_keyed : (facts_of s.kind).keyed ≡ true → (x : Row) × Supersedes h name r x
  of_keyed keyed =
      let key : r.key ≡ name = same ∙ key_keyed s h name keyed in
      let here : (get_or (rows h) among.0 r).version ≤ greatest (λ x. true) name (rows h) =
      greatest_least (λ x. true) name (rows h) among.0 r among.1
      (same_bytes (get_or (rows h) among.0 r).key name (ap (λ (x : Row). x.key) among.2 ∙ key)) refl in
      let least : r.version ≤ greatest (λ x. true) name (rows h) = omega (arith, here, ap (λ (x : Row). x.version) among.2) in
      let best : (x : Row) × IsGreatest (λ x. true) name (rows h) x =
      greatest_passes (λ x. true) name (rows h) (omega (arith, least, its_version)) in (
        best.0,
        record {
          found = ap (row_of h) (sym best.1.version) ∙ row_in s h legal best.0 best.1.here;
          least = omega (arith, least, best.1.version);
          key = best.1.key ∙ sym key;
        },
      )

  -- messages and cells have keys of their own
  no_two : (facts_of s.kind).keyed ≡ false → ⊥
  no_two keyless =
      let new : Row = new_row s h name value lineage in
      let later : List Entry = h ++ e ∷ [] in
      let now : rows later ≡ rows h ++ new ∷ [] = rows_write s h e name value lineage follows is in
      let can : ((facts_of s.kind).keyed || is_plain name) ≡ true = ap (λ (c : Call). store_ready s h c) (sym is) ∙ follows.is_ready in
      let plain : is_plain name ≡ true = ap (λ (b : Bool). b || is_plain name) (sym keyless) ∙ can in
      let n : ℕ = count_by (is_in name) (rows h) + 1 in
      let small : n < 2 ^ 64 = omega (arith, count_by-le-length (is_in name) (rows h), rows_length h, few_entries (store s) h legal) in
      let marked : key_for s.kind h name ≡ cell_key name n = key_marked s h name keyless in
      let old_there : Contains (rows later) r =
      subst (λ (rs : List Row). Contains rs r) (sym now) (Contains-append_left (rows h) (new ∷ []) r among) in
      let new_there : Contains (rows later) new =
      subst (λ (rs : List Row). Contains rs new) (sym now) (Contains-append_right (rows h) (new ∷ []) new (0, omega arith, refl)) in
      let legal_later : IsLegal (store s) later = legal_more (store s) h e legal follows in
      let one : Some r ≡ Some new =
      sym (cell_at s keyless later legal_later name plain n small r old_there (same ∙ marked))
      ∙ cell_at s keyless later legal_later name plain n small new new_there marked in
      let row : r ≡ new = cc in
      let version : r.version ≡ length (rows h) + 1 = ap (λ (x : Row). x.version) row in
      omega (arith, version, its_version, among.1)

  supersedes : (x : Row) × Supersedes h name r x
  supersedes = elim (cases_Bool (facts_of s.kind).keyed) [ inl keyed ↦ of_keyed keyed | inr keyless ↦ absurd (no_two keyless) ]

-- ---- of a legal trace

-- a write to the key of an id that is causally before place j, of no lower version
record LastBefore (trace : List Entry) (j : ℕ) (w : WriteId) : Type 0 where
  place : ℕ
  entry : Entry
  id : WriteId
  there : slice_get trace place ≡ Some entry
  wrote : has_id id (wrote entry) ≡ true
  early : place < j
  before : Before trace place j
  stores : w.store ≡ id.store
  keys : w.key ≡ id.key
  least : w.version ≤ id.version

-- the reply to a write has the key that it gets
key_given : (s : Store) (h : List Entry) (e : Entry) (name value : List ℕ) (lineage : List WriteId) → Follows (store s) h e → e.call ≡ calls.Write name value lineage
    → (key : List ℕ) (version : ℕ) (kept : Option (List WriteId)) → e.reply ≡ replies.Written key version kept → key ≡ key_for s.kind h name
key_given s h e name value lineage f is key version kept given =
    let due : replies.Written key version kept ≡ replies.Written (key_for s.kind h name) (length (rows h) + 1) (told_over s h name lineage) =
    sym given ∙ f.reply ∙ ap (λ (c : Call). store_due s h c) is in
    cc

module _ (app : App) (trace : List Entry) (legal : IsLegalTrace app trace) where
  -- how many rows a store has at a place
  abbrev count : ℕ → ℕ → ℕ
  count o k = length (rows (entries_on o (take k trace)))

  count_grows : (o i k : ℕ) → i ≤ k → count o i ≤ count o k
  count_grows o i k le =
      let cut = history_longer trace o i k le in
      let front : List Entry = entries_on o (take i trace) in
      let more : count o k ≡ count o i + length (rows cut.0) =
      ap (λ (h : List Entry). length (rows h)) cut.1 ∙ ap length (rows-append front cut.0) ∙ length-append (rows front) (rows cut.0) in
      omega (arith, more)

  -- of two writes of a store, that of the lower version is the earlier one
  earlier : (i j : ℕ) (a b : Entry) (w v : WriteId) → slice_get trace i ≡ Some a → slice_get trace j ≡ Some b
      → has_id w (wrote a) ≡ true → has_id v (wrote b) ≡ true → w.store ≡ v.store → w.version < v.version → i < j
  earlier i j a b w v at_i at_j has_a has_b stores less =
      let first = write_at app trace legal i a w at_i has_a in
      let second = write_at app trace legal j b v at_j has_b in
      let same : count w.store i ≡ count v.store i = ap (λ (o : ℕ). count o i) stores in
      elim (cases_lt i j) [
        | inl low ↦ low
        | inr high ↦ absurd (let more = count_grows v.store j i high in omega (arith, first.1, second.1, same, more, less))
      ]

  -- of two writes to one key the later one replaces one that is no earlier than the other
  its_last : (i j : ℕ) (a b : Entry) (w v : WriteId) → slice_get trace i ≡ Some a → (at_j : slice_get trace j ≡ Some b) → i < j
      → (one : IsWrite a.object a.call a.reply w) → (other : IsWrite b.object b.call b.reply v) → w.store ≡ v.store → w.key ≡ v.key
      → (x : Row) × Supersedes (entries_on b.object (take j trace)) other.key (row_made one) x
  its_last i j a b w v at_i at_j early one other stores key =
      let h : List Entry = entries_on b.object (take j trace) in
      let r : Row = row_made one in
      let object : a.object ≡ b.object = sym (ap (λ (x : WriteId). x.store) one.id) ∙ stores ∙ ap (λ (x : WriteId). x.store) other.id in
      let cut = history_cut trace b.object i j a early at_i object in
      let front : List Entry = entries_on b.object (take i trace) in
      let there : rows h ≡ rows front ++ r ∷ rows cut.0 = ap rows cut.1 ∙ rows_cut front a cut.0 a.object w one in
      let among : Contains (rows h) r =
      subst (λ (rs : List Row). Contains rs r) (sym there) (Contains-append_right (rows front) (r ∷ rows cut.0) r (0, omega arith, refl)) in
      let s : Store = its_store app trace legal j b at_j other.key other.value other.lineage other.call in
      let follows : Follows (store s) h b = write_follows app trace legal j b at_j other.key other.value other.lineage other.call in
      let given : other.name ≡ key_for s.kind h other.key =
      key_given s h b other.key other.value other.lineage follows other.call other.name other.version other.over other.reply in
      let named : r.key ≡ key_for s.kind h other.key =
      sym (ap (λ (x : WriteId). x.key) one.id) ∙ key ∙ ap (λ (x : WriteId). x.key) other.id ∙ given in
      supersedes s h (write_legal app trace legal j b at_j other.key other.value other.lineage other.call) b follows
      other.key other.value other.lineage other.call r among named

  -- so there is a write that is causally before it, and that is no earlier than the other
  replaced_write : (i j : ℕ) (a b : Entry) (w v : WriteId) → slice_get trace i ≡ Some a → slice_get trace j ≡ Some b
      → has_id w (wrote a) ≡ true → has_id v (wrote b) ≡ true → w.store ≡ v.store → w.key ≡ v.key → w.version < v.version
      → LastBefore trace j w
  replaced_write i j a b w v at_i at_j has_a has_b stores key less =
      let one : IsWrite a.object a.call a.reply w = write_parts a.object a.call a.reply w has_a in
      let other : IsWrite b.object b.call b.reply v = write_parts b.object b.call b.reply v has_b in
      let last = its_last i j a b w v at_i at_j (earlier i j a b w v at_i at_j has_a has_b stores less) one other stores key in
      let x : Row = last.0 in
      let its : RowSource trace j b x × (0 < x.version) =
      row_source app trace legal j b at_j other.key other.value other.lineage other.call x last.1.found in
      let id : WriteId = id_for b.object x.key x.version in
      let own : has_id id (id_at b.object x.key x.version) ≡ true = has_id_at b.object x.key x.version its.1 in
      let wrote_it : has_id id (wrote its.0.entry) ≡ true = ap (has_id id) its.0.wrote ∙ own in
      let ids : id_replaced (take j trace) b ≡ id_found b.object (Some x) =
      id_is app trace legal j b at_j other.key other.value other.lineage other.call ∙ ap (id_found b.object) last.1.found in
      let version : w.version ≡ one.version = ap (λ (i : WriteId). i.version) one.id in
      let least : one.version ≤ x.version = last.1.least in
      record {
        place = its.0.place;
        entry = its.0.entry;
        id = id;
        there = its.0.there;
        wrote = wrote_it;
        early = its.0.before;
        before = over its.0.entry b id its.0.there at_j wrote_it (ap (has_id id) ids ∙ own);
        stores = stores ∙ ap (λ (i : WriteId). i.store) other.id;
        keys = ap (λ (i : WriteId). i.key) one.id ∙ sym last.1.key;
        least = omega (arith, version, least);
      }

  keyed_below : (n i j : ℕ) (a b : Entry) (w v : WriteId) → j < n → slice_get trace i ≡ Some a → slice_get trace j ≡ Some b
      → has_id w (wrote a) ≡ true → has_id v (wrote b) ≡ true → w.store ≡ v.store → w.key ≡ v.key → w.version < v.version → Before trace i j
  keyed_below zero i j a b w v low at_i at_j has_a has_b stores key less = absurd (omega (arith, low))
  keyed_below (suc n) i j a b w v low at_i at_j has_a has_b stores key less =
      by_version (replaced_write i j a b w v at_i at_j has_a has_b stores key less)
      (λ k d u early at has_d same_store same_key lower.
      keyed_below n i k a d w u (omega (arith, early, low)) at_i at has_a has_d same_store same_key lower)
    where
      -- it is the other, or one between them
      by_version : (l : LastBefore trace j w)
          → ((k : ℕ) (d : Entry) (u : WriteId) → k < j → slice_get trace k ≡ Some d → has_id u (wrote d) ≡ true
          → w.store ≡ u.store → w.key ≡ u.key → w.version < u.version → Before trace i k)
          → Before trace i j
      by_version l between =
          elim (cases_eq w.version l.id.version) [
            | inl same ↦
                let is : w ≡ l.id = λ d. id_for (l.stores d) (l.keys d) (same d) in
                let has : has_id w (wrote l.entry) ≡ true = ap (λ (u : WriteId). has_id u (wrote l.entry)) is ∙ l.wrote in
                subst (λ (k : ℕ). Before trace k j) (once app trace legal l.place i l.entry a w l.there at_i has has_a) l.before
            | inr differ ↦
                through (between l.place l.entry l.id l.early l.there l.wrote l.stores l.keys (omega (arith, l.least, differ))) l.before
          ]

  -- Writes to one key are causally ordered by their versions.
  pub keyed : (i j : ℕ) (a b : Entry) (w v : WriteId) → slice_get trace i ≡ Some a → slice_get trace j ≡ Some b
      → has_id w (wrote a) ≡ true → has_id v (wrote b) ≡ true → w.store ≡ v.store → w.key ≡ v.key → w.version < v.version → Before trace i j
  keyed i j a b w v at_i at_j has_a has_b stores key less =
      keyed_below (suc j) i j a b w v (omega arith) at_i at_j has_a has_b stores key less
