-- What the counts of the channels are after a change of one of them, and after one more entry.
use Rattle.std.proofs.Common.{◌≡◌, ℕ, ◌+◌, ◌-◌, ◌^◌, ◌≤◌, min, Bool, true, false, cond, List, [], ◌∷◌, ◌++◌, count_by, Option, Some, None, unwrap_or, refl, sym, ap, ◌∙◌, ⊎_elim, arith}
use Rattle.std.specs.BTreeMap.{Updates}
use Rattle.std.specs.Cmp.Lexicographic.{slice_cmp}
use Rattle.std.specs.Option.{is_some}
use Rattle.std.specs.Ordering.{nat_cmp}
use Rattle.std.specs.Prelude.{bytes_eq}
use Rattle.std.proofs.lemmas.Bool.{or_cases, both_ways}
use Rattle.std.proofs.lemmas.List.Sums.{count_by-le-length, sum_by_push}
use Rattle.std.proofs.lemmas.Map.Text.{is_eq-slice_cmp}
use Rattle.std.proofs.lemmas.Slice.Eq.{bytes_eq-Decides}
use Rattle.anti_ids.specs.Names.{is_plain}
use Rattle.anti_ids.specs.declared.id.WriteId.{WriteId}
use Rattle.anti_kind.specs.Kinds.{facts_of}
use Rattle.anti_kind.specs.declared.call.Call.{Call}
use Rattle.anti_kind.specs.declared.call.Call.TheVariants.{Write}
use Rattle.anti_kind.specs.declared.entry.Entry.{Entry}
use Rattle.anti_kind.specs.declared.row.Row.{Row}
use Rattle.anti_kind.specs.Stored.{rows, channel_of, is_in}
use Rattle.anti_kind.specs.Store.{Store, key_for, store_ready}
use Rattle.anti_kind.specs.Cells.{cell_key}
use Rattle.anti_kind.specs.Objects.{store, Follows, IsLegal}
use Rattle.anti_kind.proofs.Cells.{channel_of_cell}
use Rattle.anti_kind.proofs.Histories.{few_entries}
use Rattle.anti_kind.proofs.Rows.{is_write, new_row, rows_other, rows_write, rows_length}
use Rattle.anti_replicas.specs.declared.channels.Channels.{Channels}
use Rattle.anti_replicas.specs.Channels.{place_of, count_at, Counts}

no_count : (place : Option ℕ) → is_some place ≡ false → unwrap_or place 0 ≡ 0
no_count None none = refl
no_count (Some n) none = absurd (cc)

-- A legal history has few writes.

pub few_writes : (s : Store) (h : List Entry) → IsLegal (store s) h → (c : List ℕ) → count_by (is_in c) (rows h) ≤ 4097
few_writes s h l c = omega (arith, count_by-le-length (is_in c) (rows h), rows_length h, few_entries (store s) h l)

-- A write to a channel is one of its own, and no other's.

plain_channel : (s : Store) → (facts_of s.kind).keyed ≡ false → (h : List Entry) (e : Entry) (key value : List ℕ) (lineage : List WriteId) → Follows (store s) h e → e.call ≡ Write key value lineage → is_plain key ≡ true
plain_channel s keyless h e key value lineage f is =
    ⊎_elim (λ (keys : (facts_of s.kind).keyed ≡ true). absurd (both_ways (facts_of s.kind).keyed keyless keys)) (λ (plain : is_plain key ≡ true). plain)
    (or_cases (facts_of s.kind).keyed (is_plain key) (ap (λ (c : Call). store_ready s h c) (sym is) ∙ f.is_ready))

pub count_write : (s : Store) → (facts_of s.kind).keyed ≡ false → (h : List Entry) (e : Entry) (key value : List ℕ) (lineage : List WriteId) → Follows (store s) h e → e.call ≡ Write key value lineage → (c : List ℕ)
    → count_by (is_in c) (rows (h ++ e ∷ [])) ≡ count_by (is_in c) (rows h) + cond (bytes_eq key c) 1 0
count_write s keyless h e key value lineage f is c =
    let n : ℕ = count_by (is_in key) (rows h) + 1 in
    let named : key_for s.kind h key ≡ cell_key key n = ap (λ (b : Bool). cond b key (cell_key key n)) keyless in
    let channel : channel_of (key_for s.kind h key) ≡ key = ap channel_of named ∙ channel_of_cell key n (plain_channel s keyless h e key value lineage f is) in
    ap (count_by (is_in c)) (rows_write s h e key value lineage f is)
    ∙ sum_by_push (λ (r : Row). cond {A = ℕ} (is_in c r) 1 0) (rows h) (new_row s h key value lineage)
    ∙ ap (λ (k : List ℕ). count_by (is_in c) (rows h) + cond (bytes_eq k c) 1 0) channel

-- any other entry leaves the counts
pub counts_other : (m : Channels) (h : List Entry) (e : Entry) → is_write e.call ≡ false → Counts m h → Counts m (h ++ e ∷ [])
counts_other m h e off counts = record { counted = λ c. counts.counted c ∙ ap (count_by (is_in c)) (sym (rows_other h e off)) }

-- The place of a channel changed from m to n.
module _ (m n : Channels) (key : List ℕ) (v : ℕ) (updates : Updates (slice_cmp nat_cmp) m.counts n.counts key (Some v)) where
  count_now : (c : List ℕ) → count_at n c ≡ cond (bytes_eq key c) v (count_at m c)
  count_now c = ap (λ (o : Option ℕ). unwrap_or o 0) (updates.0 c ∙ ap (λ (b : Bool). cond b (Some v) (place_of m c)) (is_eq-slice_cmp key c)) ∙ by_test (bytes_eq key c) where
    by_test : (b : Bool) → unwrap_or (cond b (Some v) (place_of m c)) 0 ≡ cond b v (count_at m c)
    by_test true = refl
    by_test false = refl

  pub place_made : v ≡ 0 → is_some (place_of m key) ≡ false → (h : List Entry) → Counts m h → Counts n h
  place_made fresh none h counts = record { counted = λ c. count_now c ∙ by_test c (bytes_eq key c) refl ∙ counts.counted c } where
    by_test : (c : List ℕ) (b : Bool) → bytes_eq key c ≡ b → cond b v (count_at m c) ≡ count_at m c
    by_test c false off = refl
    by_test c true on = fresh ∙ sym (ap (count_at m) (sym ((bytes_eq-Decides key c).0 on)) ∙ no_count (place_of m key) none)

  pub added : v ≡ min (count_at m key + 1) (2 ^ 64 - 1) → (s : Store) (h : List Entry) (e : Entry) (value : List ℕ) (lineage : List WriteId) → IsLegal (store s) h → Follows (store s) h e → (facts_of s.kind).keyed ≡ false → e.call ≡ Write key value lineage → Counts m h
      → Counts n (h ++ e ∷ [])
  added up s h e value lineage l f keyless is counts = record { counted = counted } where
    by_test : (c : List ℕ) (b : Bool) → bytes_eq key c ≡ b → cond b v (count_at m c) ≡ count_by (is_in c) (rows h) + cond b 1 0
    by_test c false off = omega (arith, counts.counted c)
    by_test c true on =
        let one : v ≡ count_at m key + 1 = omega (arith, counts.counted key, few_writes s h l key) in
        one ∙ ap (λ (k : List ℕ). count_at m k + 1) ((bytes_eq-Decides key c).0 on) ∙ ap (λ (k : ℕ). k + 1) (counts.counted c)

    counted : (c : List ℕ) → count_at n c ≡ count_by (is_in c) (rows (h ++ e ∷ []))
    counted c = count_now c ∙ by_test c (bytes_eq key c) refl ∙ sym (count_write s keyless h e key value lineage f is c)

-- The key of the next write to a channel.
pub next_key_is : (m : Channels) (s : Store) (h : List Entry) → Counts m h → (facts_of s.kind).keyed ≡ false → (c : List ℕ) → cell_key c (count_at m c + 1) ≡ key_for s.kind h c
next_key_is m s h counts keyless c =
    ap (λ (n : ℕ). cell_key c (n + 1)) (counts.counted c) ∙ sym (ap (λ (b : Bool). cond b c (cell_key c (count_by (is_in c) (rows h) + 1))) keyless)
