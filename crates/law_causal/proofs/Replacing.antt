-- What the stores of a legal trace keep beside a write: what was handed in, the id of the write that is replaced, and what is kept beside
-- that. The write that is replaced is an earlier one.
use Rattle.std.proofs.Common.{◌≡◌, ℕ, ◌+◌, ◌<◌, ◌==◌, ◌||◌, ◌⊎◌, true, List, [], length, refl, sym, ap, ◌∙◌, inl, inr, arith}
use Rattle.std.specs.Prelude.{Option, Some, None, slice_get, take}
use Rattle.std.specs.Option.{option_map_or}
use Rattle.std.proofs.lemmas.Bool.{or_cases, or_left, or_right}
use Rattle.anti_ids.specs.Ids.{has_id, is_id}
use Rattle.anti_ids.specs.declared.id.WriteId.{WriteId}
use Rattle.anti_ids.proofs.IdLemmas.{is_id-itself, same_id}
use Rattle.anti_kind.specs.declared.call.Call.{Call}
use Rattle.anti_kind.specs.declared.call.Call.TheVariants as calls
use Rattle.anti_kind.specs.declared.call.Reply.{Reply}
use Rattle.anti_kind.specs.declared.call.Reply.TheVariants as replies
use Rattle.anti_kind.specs.declared.entry.Entry.{Entry}
use Rattle.anti_kind.specs.declared.row.Row.{Row}
use Rattle.anti_kind.specs.Objects.{Start, store, inbox, Follows, IsLegal, ready}
use Rattle.anti_kind.specs.Store.{Store, key_for, left_by, replaced, store_due, with_replaced}
use Rattle.anti_kind.specs.Stored.{greatest, rows, stored}
use Rattle.law_causal.specs.inner.Taken.{told_in}
use Rattle.anti_kind.proofs.Finding.{Found, find_found}
use Rattle.anti_kind.proofs.Overs.{has_id-with_replaced}
use Rattle.anti_kind.proofs.Rows.{stored_is_over, version_at}
use Rattle.anti_app.specs.declared.app.App.{App}
use Rattle.anti_object.specs.Starts.{start_of}
use Rattle.anti_proc.specs.Local.{id_at}
use Rattle.anti_trace.specs.Legal.{IsLegalTrace}
use Rattle.anti_trace.specs.Traces.{entries_on}
use Rattle.law_causal.specs.Words.{id_written, wrote}
use Rattle.law_causal.specs.Causal.{id_replaced, row_replaced}
use Rattle.law_causal.specs.Pasts.{FromReplaced, kept_with}
use Rattle.law_causal.proofs.Facts.{Replaces, RowSource, Writes}
use Rattle.law_causal.proofs.Ids.{has_id_at, id_for, in_id_at}
use Rattle.law_causal.proofs.Lists.{same_at}
use Rattle.law_causal.proofs.Objects.{follows_at, legal_at, start_is_of_app}
use Rattle.law_causal.proofs.Places.{there}
use Rattle.law_causal.proofs.Processes.{HandsIn, hands_in}
use Rattle.law_causal.proofs.Stores.{once, source_in}

-- a write is one at a store
write_at_store : (start : Start) (h : List Entry) (key value : List ℕ) (lineage : List WriteId)
    → ready start h (calls.Write key value lineage) ≡ true → (s : Store) × (start ≡ store s)
write_at_store (store s) h key value lineage can = (s, refl)
write_at_store (inbox requests) h key value lineage can = absurd (cc)

-- the id of a row that was found, if one was
abbrev pub id_found : ℕ → Option Row → List WriteId
id_found o found = option_map_or (λ row. id_at o row.key row.version) found []

-- what a write keeps it tells, or it was handed in
told_or_handed : (c : Call) (y : Reply) (key value : List ℕ) (lineage : List WriteId) → c ≡ calls.Write key value lineage → (w : WriteId) → has_id w (stored c y) ≡ true
    → (has_id w (told_in c y) ≡ true) ⊎ (has_id w lineage ≡ true)
told_or_handed (calls.Write k v ids) (replies.Written name version None) key value lineage is w has =
    let same : ids ≡ lineage = cc in
    inr (sym (ap (has_id w) same) ∙ has)
told_or_handed (calls.Write k v ids) (replies.Written name version (Some kept)) key value lineage is w has = inl has
told_or_handed c y key value lineage is w has = absurd (cc)

module _ (app : App) (trace : List Entry) (legal : IsLegalTrace app trace) (j : ℕ) (e : Entry) (at : slice_get trace j ≡ Some e) where
  abbrev pub history : List Entry
  history = entries_on e.object (take j trace)

  -- ---- a write at its store

  module _ (key value : List ℕ) (lineage : List WriteId) (is : e.call ≡ calls.Write key value lineage) where
    pub write_store : (s : Store) × (start_of app e.object ≡ Some (store s))
    write_store =
        let start = there app trace legal j e at in
        let f = follows_at app trace legal e.object start.0 start.1 j e at refl in
        let can : ready start.0 history (calls.Write key value lineage) ≡ true =
        ap (λ (c : Call). ready start.0 history c) (sym is) ∙ f.is_ready in
        let found = write_at_store start.0 history key value lineage can in
        (found.0, start.1 ∙ ap Some found.1)

    abbrev pub its_store : Store
    its_store = write_store.0

    pub write_follows : Follows (store its_store) history e
    write_follows = follows_at app trace legal e.object (store its_store) write_store.1 j e at refl

    pub write_legal : IsLegal (store its_store) history
    write_legal = legal_at app trace legal e.object (store its_store) write_store.1 j

    -- what it keeps
    abbrev pub its_row : Option Row
    its_row = replaced history key

    kept_is : kept_with e ≡ with_replaced e.object its_row lineage
    kept_is =
        stored_is_over its_store history e key value lineage write_follows is
        ∙ ap (λ (n : ℕ). with_replaced n its_row lineage) (start_is_of_app app e.object (store its_store) write_store.1).0

    in_kept : (w : WriteId) → has_id w (kept_with e) ≡ (has_id w (left_by e.object its_row) || has_id w lineage)
    in_kept w = ap (has_id w) kept_is ∙ has_id-with_replaced w e.object its_row lineage

    pub id_is : id_replaced (take j trace) e ≡ id_found e.object its_row
    id_is = ap (λ (c : Call). id_found e.object (row_replaced history c)) is

    -- the row that it replaces is that of an earlier write
    pub row_source : (r : Row) → its_row ≡ Some r → RowSource trace j e r × (0 < r.version)
    row_source r found =
        let its : Found (λ (x : Row). x.version == greatest (λ x. true) key (rows history)) (rows history) r =
        find_found (λ (x : Row). x.version == greatest (λ x. true) key (rows history)) (rows history) r found in
        let version : r.version ≡ its.index + 1 =
        ap (λ (x : Row). x.version) (sym (its.at r)) ∙ version_at its_store history write_legal its.index r its.within in
        (source_in app trace legal j e r (its.index, its.within, its.at r), omega (arith, version))

    -- what it keeps, and was not handed in, the write that it replaces leaves
    from_replaced : (w : WriteId) (found : Option Row) → its_row ≡ found → has_id w (left_by e.object found) ≡ true
        → FromReplaced trace j e w
    from_replaced w None is_found has = absurd (cc)
    from_replaced w (Some r) is_found has =
        let its = row_source r is_found in
        let from : RowSource trace j e r = its.0 in
        let id : WriteId = id_for e.object r.key r.version in
        let own : has_id id (id_at e.object r.key r.version) ≡ true = has_id_at e.object r.key r.version its.1 in
        record {
          place = from.place;
          entry = from.entry;
          id = id;
          there = from.there;
          wrote = ap (has_id id) from.wrote ∙ own;
          replaced = ap (has_id id) (id_is ∙ ap (id_found e.object) is_found) ∙ own;
          leaves = elim (or_cases (is_id w id) (has_id w r.lineage) has) [
            | inl same ↦ inl (same_id w id same)
            | inr kept ↦ inr (ap (has_id w) from.kept ∙ kept)
          ];
        }

    -- and all of that it keeps
    is_left : (w : WriteId) (r : Row) → its_row ≡ Some r → has_id w (left_by e.object (Some r)) ≡ true → has_id w (kept_with e) ≡ true
    is_left w r is_found has =
        in_kept w ∙ ap (λ (found : Option Row). has_id w (left_by e.object found) || has_id w lineage) is_found
        ∙ or_left (has_id w (left_by e.object (Some r))) (has_id w lineage) has

    replaces_row : (i : ℕ) (a : Entry) (w : WriteId) → slice_get trace i ≡ Some a → has_id w (wrote a) ≡ true
        → (found : Option Row) → its_row ≡ found → has_id w (id_found e.object found) ≡ true → Replaces i a j e
    replaces_row i a w at_i has None is_found among = absurd (cc)
    replaces_row i a w at_i has (Some r) is_found among =
        let from : RowSource trace j e r = (row_source r is_found).0 in
        let place : from.place ≡ i =
        once app trace legal from.place i from.entry a w from.there at_i (ap (has_id w) from.wrote ∙ among) has in
        let same : from.entry ≡ a = same_at trace i from.entry a (ap (slice_get trace) (sym place) ∙ from.there) at_i in
        let id : WriteId = id_for e.object r.key r.version in
        let before : from.place < j = from.before in
        record {
          before = omega (arith, place, before);
          id = λ v own.
              let its = ap (has_id v) (sym from.wrote ∙ ap (λ (x : Entry). wrote x) same) ∙ own in
              let is_it : v ≡ id = (in_id_at v e.object r.key r.version its).1 in
              is_left v r is_found (or_left (is_id v id) (has_id v r.lineage) (ap (λ (x : WriteId). is_id x id) is_it ∙ is_id-itself id));
          kept = λ v kept.
              let its = ap (has_id v) (sym from.kept ∙ ap (λ (x : Entry). kept_with x) same) ∙ kept in
              is_left v r is_found (or_right (is_id v id) (has_id v r.lineage) its);
        }

  -- ---- what the causal order needs

  -- A write keeps what is carried into it, and of more only what the write that it replaces leaves.
  pub writes : (v : WriteId) → has_id v (wrote e) ≡ true → Writes app trace j e
  writes v has =
      let its : HandsIn app trace j e = hands_in app trace legal j e at v has in
      record {
        process = its.process;
        keeps = λ w carried.
            in_kept its.key its.value its.lineage its.call w
            ∙ or_right (has_id w (left_by e.object (replaced history its.key))) (has_id w its.lineage)
            (ap (has_id w) its.carried ∙ carried);
        from = λ w kept.
            let among = sym (in_kept its.key its.value its.lineage its.call w) ∙ kept in
            elim (or_cases (has_id w (left_by e.object (replaced history its.key))) (has_id w its.lineage) among) [
              | inl left ↦ inr (from_replaced its.key its.value its.lineage its.call w (replaced history its.key) refl left)
              | inr handed ↦ inl (sym (ap (has_id w) its.carried) ∙ handed)
            ];
        tells = λ w kept.
            elim (told_or_handed e.call e.reply its.key its.value its.lineage its.call w kept) [
              | inl tells ↦ inl tells
              | inr handed ↦ inr (sym (ap (has_id w) its.carried) ∙ handed)
            ];
      }

  -- What keeps something beside it is a write.
  pub keeper : (w : WriteId) → has_id w (kept_with e) ≡ true → (v : WriteId) × (has_id v (wrote e) ≡ true)
  keeper w has = by_call e.call refl has
    where
      by_call : (call : Call) → e.call ≡ call → has_id w (stored call e.reply) ≡ true → (v : WriteId) × (has_id v (wrote e) ≡ true)
      by_call (calls.Write key value lineage) is kept =
          let s : Store = (write_store key value lineage is).0 in
          let name : List ℕ = key_for s.kind history key in
          let version : ℕ = length (rows history) + 1 in
          let due : e.reply ≡ store_due s history (calls.Write key value lineage) =
          (write_follows key value lineage is).reply ∙ ap (λ (c : Call). store_due s history c) is in (
            id_for e.object name version,
            ap (λ (c : Call). has_id (id_for e.object name version) (id_written e.object c e.reply)) is
                ∙ ap (λ (y : Reply). has_id (id_for e.object name version) (id_written e.object (calls.Write key value lineage) y)) due
                ∙ has_id_at e.object name version (omega arith),
          )
      by_call call is kept = absurd (cc)

  -- What is replaced is an earlier write, and all that it leaves is kept.
  pub replaces : (i : ℕ) (a : Entry) (w : WriteId) → slice_get trace i ≡ Some a → has_id w (wrote a) ≡ true
      → has_id w (id_replaced (take j trace) e) ≡ true → Replaces i a j e
  replaces i a w at_i has among = by_call e.call refl among
    where
      by_call : (call : Call) → e.call ≡ call → has_id w (id_found e.object (row_replaced history call)) ≡ true → Replaces i a j e
      by_call (calls.Write key value lineage) is among = replaces_row key value lineage is i a w at_i has (replaced history key) refl among
      by_call call is among = absurd (cc)
