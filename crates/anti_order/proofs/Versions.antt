-- The versions of the writes of a legal trace: those of a store count from 1 on, in the order of the trace.
use Rattle.std.proofs.Common.{◌≡◌, ℕ, ◌+◌, ◌-◌, ◌<◌, ◌≤◌, ◌++◌, Bool, true, false, cond, List, [], ◌∷◌, length, length-append, take, refl, sym, ap, ◌∙◌, subst, inl, inr, arith}
use Rattle.std.specs.Prelude.{◌==◌, ◌⊎◌, Option, Some, nat_lt, slice_get}
use Rattle.std.proofs.lemmas.Bool.{cases_Bool, cases_order, eq-eqb, lt-ltb, or_left}
use Rattle.std.proofs.lemmas.List.Concat.{flat_map-cons}
use Rattle.std.proofs.lemmas.List.Elements.{filter_more}
use Rattle.std.proofs.lemmas.Option.{get_or_from_slice_get, slice_get_within}
use Rattle.anti_ids.specs.Ids.{has_id, is_id}
use Rattle.anti_ids.specs.declared.id.WriteId.{WriteId}
use Rattle.anti_ids.proofs.IdLemmas.{is_id-itself, same_id}
use Rattle.anti_kind.specs.declared.call.Call.{Call}
use Rattle.anti_kind.specs.declared.call.Call.TheVariants as calls
use Rattle.anti_kind.specs.declared.call.Reply.{Reply}
use Rattle.anti_kind.specs.declared.call.Reply.TheVariants as replies
use Rattle.anti_kind.specs.declared.entry.Entry.{Entry}
use Rattle.anti_kind.specs.declared.row.Row.{Row}
use Rattle.anti_kind.specs.Inbox.{inbox_ready}
use Rattle.anti_kind.specs.Objects.{Start, store, inbox, Follows}
use Rattle.anti_kind.specs.Store.{Store, key_for, store_due, told_over}
use Rattle.anti_kind.specs.Stored.{rows, wrote as wrote_row}
use Rattle.anti_kind.proofs.Rows.{or_false}
use Rattle.anti_kind.proofs.Showing.{rows-append}
use Rattle.anti_app.specs.declared.app.App.{App}
use Rattle.anti_app.specs.Objects.{object_count}
use Rattle.anti_trace.specs.Legal.{IsLegalTrace}
use Rattle.anti_trace.specs.Traces.{entries_on, is_on}
use Rattle.law_causal.specs.Words.{id_written, wrote}
use Rattle.law_causal.proofs.Ids.{id_for, not_none}
use Rattle.law_causal.proofs.Objects.{follows_at, history_longer}
use Rattle.law_causal.proofs.Places.{there}
use Rattle.law_causal.proofs.Stores.{write_parts}

-- ---- one entry

-- a write gets the version behind those of the rows that are there
next_version : (start : Start) (h : List Entry) (e : Entry) → Follows start h e → (key value : List ℕ) (lineage : List WriteId) (name : List ℕ) (version : ℕ) (kept : Option (List WriteId))
    → e.call ≡ calls.Write key value lineage → e.reply ≡ replies.Written name version kept → version ≡ length (rows h) + 1
next_version (store s) h e f key value lineage name version kept call reply =
    let due : replies.Written name version kept ≡ replies.Written (key_for s.kind h key) (length (rows h) + 1) (told_over s h key lineage) =
    sym reply ∙ f.reply ∙ ap (λ (c : Call). store_due s h c) call in
    cc
next_version (inbox requests) h e f key value lineage name version kept call reply =
    let never : inbox_ready requests h (calls.Write key value lineage) ≡ true = ap (λ (c : Call). inbox_ready requests h c) (sym call) ∙ f.is_ready in
    absurd (cc)

-- so an entry that follows wrote as many rows as ids
as_many : (start : Start) (h : List Entry) (e : Entry) → Follows start h e → (c : Call) (y : Reply) → e.call ≡ c → e.reply ≡ y
    → length (wrote_row c y) ≡ length (id_written e.object c y)
as_many start h e f (calls.Write key value lineage) (replies.Written name version kept) call reply =
    let next = next_version start h e f key value lineage name version kept call reply in
    sym (ap (λ (t : Bool). length (cond t (id_for e.object name version ∷ []) [])) (lt-ltb 0 version (omega (arith, next))))
as_many start h e f _ _ call reply = refl

some_id : (w : WriteId) (ws : List WriteId) → has_id w ws ≡ true → 0 < length ws
some_id w [] has = absurd (cc)
some_id w (v ∷ vs) has = omega arith

-- an entry wrote one id at most
pub one_id : (o : ℕ) (c : Call) (y : Reply) → (id_written o c y ≡ []) ⊎ ((w : WriteId) × (id_written o c y ≡ w ∷ []))
one_id o (calls.Write key value lineage) (replies.Written name version kept) =
    elim (cases_Bool (nat_lt 0 version)) [
      | inl some ↦ inr (id_for o name version, ap (λ (t : Bool). cond t (id_for o name version ∷ []) []) some)
      | inr none ↦ inl (ap (λ (t : Bool). cond t (id_for o name version ∷ []) []) none)
    ]
one_id o _ _ = inl refl

-- its own
pub own_object : (o : ℕ) (c : Call) (y : Reply) (w : WriteId) → w ∷ [] ≡ id_written o c y → w.store ≡ o
own_object o c y w one =
    let it = write_parts o c y w (ap (has_id w) (sym one) ∙ or_left (is_id w w) false (is_id-itself w)) in
    ap (λ (x : WriteId). x.store) it.id

-- and both of two that it wrote are one
pub same_written : (o : ℕ) (c : Call) (y : Reply) (v w : WriteId) → has_id v (id_written o c y) ≡ true → has_id w (id_written o c y) ≡ true → v ≡ w
same_written o c y v w has_v has_w =
    elim (one_id o c y) [
      | inl none ↦ absurd (not_none v (id_written o c y) none has_v)
      | inr (x, one) ↦ only_id v x (sym (ap (has_id v) one) ∙ has_v) ∙ sym (only_id w x (sym (ap (has_id w) one) ∙ has_w))
    ]
  where
    only_id : (u x : WriteId) → has_id u (x ∷ []) ≡ true → u ≡ x
    only_id u x has = same_id u x (sym (or_false (is_id u x)) ∙ has)

-- ---- a trace

-- how many rows an object has before a place
abbrev pub rows_before : List Entry → ℕ → ℕ → ℕ
rows_before trace o k = length (rows (entries_on o (take k trace)))

module _ (app : App) (trace : List Entry) (legal : IsLegalTrace app trace) where
  rows_grow : (o i k : ℕ) → i ≤ k → rows_before trace o i ≤ rows_before trace o k
  rows_grow o i k le =
      let longer = history_longer trace o i k le in
      let more = ap (λ (h : List Entry). length (rows h)) longer.1 ∙ ap length (rows-append (entries_on o (take i trace)) longer.0)
      ∙ length-append (rows (entries_on o (take i trace))) (rows longer.0) in
      omega (arith, more)

  module _ (k : ℕ) (e : Entry) (at : slice_get trace k ≡ Some e) where
    follows : (start : Start) × Follows start (entries_on e.object (take k trace)) e
    follows =
        let start = there app trace legal k e at in
        (start.0, follows_at app trace legal e.object start.0 start.1 k e at refl)

    -- as many rows more as the entry wrote
    pub rows_more : (o : ℕ) → rows_before trace o (k + 1) ≡ rows_before trace o k + length (cond (e.object == o) (wrote e) [])
    rows_more o =
        let here = get_or_from_slice_get trace k e e at in
        let more : entries_on o (take (k + 1) trace) ≡ entries_on o (take k trace) ++ cond (is_on o e) (e ∷ []) [] =
        filter_more (is_on o) trace k e (slice_get_within trace k e at)
        ∙ ap (λ (x : Entry). entries_on o (take k trace) ++ cond (is_on o x) (x ∷ []) []) here in
        ap (λ (h : List Entry). length (rows h)) more
        ∙ ap length (rows-append (entries_on o (take k trace)) (cond (is_on o e) (e ∷ []) []))
        ∙ length-append (rows (entries_on o (take k trace))) (rows (cond (is_on o e) (e ∷ []) []))
        ∙ ap (λ (n : ℕ). rows_before trace o k + n) (by_test (e.object == o))
      where
        by_test : (t : Bool) → length (rows (cond t (e ∷ []) [])) ≡ length (cond t (wrote e) [])
        by_test true =
            let f = follows in
            let its = ap length (flat_map-cons (λ (x : Entry). wrote_row x.call x.reply) e []) ∙ length-append (wrote_row e.call e.reply) [] in
            let ids = as_many f.0 (entries_on e.object (take k trace)) e f.1 e.call e.reply refl refl in
            let all : length (rows (e ∷ [])) ≡ length (wrote e) = omega (arith, its, ids) in
            all
        by_test false = refl

    module _ (w : WriteId) (has : has_id w (wrote e) ≡ true) where
      -- A write is on a store, and has the version behind those before it.
      pub own_store : e.object ≡ w.store
      own_store = let it = write_parts e.object e.call e.reply w has in sym (ap (λ (x : WriteId). x.store) it.id)

      pub version_is : w.version ≡ rows_before trace w.store k + 1
      version_is =
          let f = follows in
          let it = write_parts e.object e.call e.reply w has in
          subst (λ (o : ℕ). w.version ≡ rows_before trace o k + 1) own_store
          (ap (λ (x : WriteId). x.version) it.id
          ∙ next_version f.0 (entries_on e.object (take k trace)) e f.1 it.key it.value it.lineage it.name it.version it.over it.call it.reply)

      pub on_object : w.store < object_count app
      on_object =
          subst (λ (o : ℕ). o < object_count app) own_store
          (subst (λ (x : Entry). x.object < object_count app) (get_or_from_slice_get trace k e e at) (legal.there k e (slice_get_within trace k e at)))

      -- behind it are as many rows at least
      pub rows_behind : (i : ℕ) → k < i → w.version ≤ rows_before trace w.store i
      rows_behind i later =
          let some = some_id w (wrote e) has in
          let more = rows_more w.store in
          let counted : length (cond (e.object == w.store) (wrote e) []) ≡ length (wrote e) =
          ap (λ (t : Bool). length (cond t (wrote e) [])) (eq-eqb e.object w.store own_store) in
          let grown = rows_grow w.store (k + 1) i (omega (arith, later)) in
          let version = version_is in
          omega (arith, some, more, counted, grown, version)

  -- Two writes on a store with one version stand at one place.
  pub one_place : (i k : ℕ) (a b : Entry) (v w : WriteId) → slice_get trace i ≡ Some a → slice_get trace k ≡ Some b → has_id v (wrote a) ≡ true
      → has_id w (wrote b) ≡ true → v.store ≡ w.store → v.version ≡ w.version → i ≡ k
  one_place i k a b v w at_i at_k has_v has_w stores versions =
      let first = version_is i a at_i v has_v in
      let second = version_is k b at_k w has_w in
      let same : rows_before trace v.store k ≡ rows_before trace w.store k = ap (λ (o : ℕ). rows_before trace o k) stores in
      let also : rows_before trace v.store i ≡ rows_before trace w.store i = ap (λ (o : ℕ). rows_before trace o i) stores in
      elim (cases_order i k) [
        | inl here ↦ here
        | inr (inl before) ↦ let later = rows_behind i a at_i v has_v k before in absurd (omega (arith, second, same, versions, later))
        | inr (inr behind) ↦ let later = rows_behind k b at_k w has_w i behind in absurd (omega (arith, first, also, versions, later))
      ]
