-- What is known to have been found, where one more id or entry is noted.
use Rattle.std.proofs.Common.{◌≡◌, ℕ, ◌+◌, ◌<◌, ◌&&◌, ◌||◌, Bool, true, false, cond, List, [], ◌∷◌, length, get_or, refl, sym, ap, ◌∙◌, inl, inr}
use Rattle.std.specs.Prelude.{None, Some, slice_get, slice_set, take}
use Rattle.std.specs.BTreeMap as tree
use Rattle.std.specs.Option.{option_map_or}
use Rattle.std.proofs.Math.Bool.{or_comm}
use Rattle.std.proofs.lemmas.Bool.{cases_Bool, cases_eq, cond-true}
use Rattle.std.proofs.lemmas.List.{get_or-set_other, get_or-set_same}
use Rattle.anti_ids.specs.Ids.{has_id, is_id}
use Rattle.anti_ids.specs.declared.id.WriteId.{WriteId}
use Rattle.anti_ids.proofs.IdLemmas.{same_id}
use Rattle.anti_kind.specs.declared.entry.Entry.{Entry}
use Rattle.anti_past.specs.declared.finds.Finds.{Finds}
use Rattle.anti_past.specs.declared.span_finds.SpanFinds.{SpanFinds}
use Rattle.anti_past.specs.declared.span_keys.SpanKey.{SpanKey}
use Rattle.anti_past.specs.inner.Found.{AreFound, finds, has_found, has_in}
use Rattle.anti_past.specs.inner.Keys.{key_cmp, same_key}
use Rattle.anti_past.proofs.Fronts.{any_more}
use Rattle.anti_past.proofs.Grown.{or_none}
use Rattle.anti_past.proofs.KeyOrder.{same_key_is}

-- ---- tests

or_further : (old first further : Bool) → ((old || first) || further) ≡ (old || (first || further))
or_further true first further = refl
or_further false first further = refl

-- ---- the ids of a store

-- ids with one more are put in the place of those of its store
module _ (old new : SpanFinds) (id : WriteId) (ids : List WriteId) (there : id.store < length old.stores.items)
    (set : new.stores.items ≡ slice_set old.stores.items id.store ids)
    (w : WriteId) (adds : has_id w ids ≡ (is_id w id || has_id w (get_or old.stores.items id.store []))) where
  of_store : w.store ≡ id.store → has_in new w ≡ (has_in old w || is_id w id)
  of_store same =
      let lists : List (List WriteId) = old.stores.items in
      ap (λ (all : List (List WriteId)). has_id w (get_or all w.store [])) set
      ∙ ap (λ (n : ℕ). has_id w (get_or (slice_set lists id.store ids) n [])) same
      ∙ ap (has_id w) (get_or-set_same lists id.store ids [] there)
      ∙ adds
      ∙ or_comm (is_id w id) (has_id w (get_or lists id.store []))
      ∙ ap (λ (n : ℕ). has_id w (get_or lists n []) || is_id w id) (sym same)

  is_other : (w.store ≡ id.store → ⊥) → is_id w id ≡ false
  is_other other =
      elim (cases_Bool (is_id w id)) [
        | inl same ↦ absurd (other (ap (λ (i : WriteId). i.store) (same_id w id same)))
        | inr off ↦ off
      ]

  of_other : (w.store ≡ id.store → ⊥) → has_in new w ≡ (has_in old w || is_id w id)
  of_other other =
      ap (λ (all : List (List WriteId)). has_id w (get_or all w.store [])) set
      ∙ ap (has_id w) (get_or-set_other old.stores.items id.store w.store ids [] other)
      ∙ sym (ap (λ (t : Bool). has_in old w || t) (is_other other) ∙ or_none (has_in old w))

  pub in_one : has_in new w ≡ (has_in old w || is_id w id)
  in_one = elim (cases_eq w.store id.store) [ inl same ↦ of_store same | inr other ↦ of_other other ]

-- ---- the ids of a look

-- what is left decides
pub found_step : (old new : SpanFinds) (id : WriteId) (rest : List WriteId) (w : WriteId) → has_in new w ≡ (has_in old w || is_id w id)
    → (has_in new w || has_id w rest) ≡ (has_in old w || has_id w (id ∷ rest))
found_step old new id rest w is =
    ap (λ (t : Bool). t || has_id w rest) is ∙ or_further (has_in old w) (is_id w id) (has_id w rest)

-- what a span found is put in the place of what it found before
module _ (old new : Finds) (span : SpanKey) (ids : List WriteId) (q : SpanKey) (w : WriteId) where
  pub found_further : (was now : SpanFinds) → tree.get key_cmp old.spans span ≡ Some was → tree.Updates key_cmp old.spans new.spans span (Some now)
      → has_in now w ≡ (has_in was w || has_id w ids) → has_found new q w ≡ (has_found old q w || same_key span q && has_id w ids)
  found_further was now there updates adds = by_test (same_key span q) refl
    where
      by_test : (t : Bool) → same_key span q ≡ t → has_found new q w ≡ (has_found old q w || t && has_id w ids)
      by_test false off = ap (λ found. option_map_or (λ its. has_in its w) found false) (updates.2 q off) ∙ sym (or_none (has_found old q w))
      by_test true on =
          ap (λ found. option_map_or (λ its. has_in its w) found false) (updates.0 q ∙ cond-true _ _ _ on)
          ∙ adds
          ∙ ap (λ found. option_map_or (λ its. has_in its w) found false || has_id w ids) (sym there)
          ∙ ap (λ (k : SpanKey). has_found old k w || has_id w ids) (same_key_is span q on)

  -- and where it is the first
  pub found_first : tree.get key_cmp old.spans span ≡ None → has_found new q w ≡ cond (same_key span q) (has_id w ids) (has_found old q w)
      → has_found new q w ≡ (has_found old q w || same_key span q && has_id w ids)
  found_first none is = is ∙ by_test (same_key span q) refl
    where
      by_test : (t : Bool) → same_key span q ≡ t → cond t (has_id w ids) (has_found old q w) ≡ (has_found old q w || t && has_id w ids)
      by_test false off = sym (or_none (has_found old q w))
      by_test true on =
          ap (λ found. option_map_or (λ its. has_in its w) found false || has_id w ids) (sym none)
          ∙ ap (λ (k : SpanKey). has_found old k w || has_id w ids) (same_key_is span q on)

  -- the span's are set, and no others
  pub found_set : (now : SpanFinds) → tree.Updates key_cmp old.spans new.spans span (Some now) → has_in now w ≡ has_id w ids
      → has_found new q w ≡ cond (same_key span q) (has_id w ids) (has_found old q w)
  found_set now updates is = by_test (same_key span q) refl
    where
      by_test : (t : Bool) → same_key span q ≡ t → has_found new q w ≡ cond t (has_id w ids) (has_found old q w)
      by_test false off = ap (λ found. option_map_or (λ its. has_in its w) found false) (updates.2 q off)
      by_test true on = ap (λ found. option_map_or (λ its. has_in its w) found false) (updates.0 q ∙ cond-true _ _ _ on) ∙ is

-- ---- the entries so far

pub found_more : (trace : List Entry) (k : ℕ) (e : Entry) → slice_get trace k ≡ Some e → (old new : Finds) → AreFound (take k trace) old
    → ((q : SpanKey) (w : WriteId) → has_found new q w ≡ (has_found old q w || finds q w e)) → AreFound (take (k + 1) trace) new
found_more trace k e at old new are adds q w =
    adds q w ∙ ap (λ (t : Bool). t || finds q w e) (are q w) ∙ sym (any_more trace k e at (finds q w))
