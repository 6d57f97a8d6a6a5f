-- What is known to have come to spans, where one more entry is noted.
use Rattle.std.proofs.Common.{◌≡◌, ℕ, ◌&&◌, ◌||◌, ◌++◌, Bool, true, false, cond, List, [], ◌∷◌, refl, sym, ap, ◌∙◌, subst}
use Rattle.std.specs.Prelude.{Option, Some, None}
use Rattle.std.specs.Option.{option_map_or}
use Rattle.std.specs.BTreeMap as tree
use Rattle.std.proofs.lemmas.Bool.{cond-true}
use Rattle.std.proofs.lemmas.Grind.{flat_map-append}
use Rattle.anti_ids.specs.Ids.{has_id}
use Rattle.anti_ids.specs.declared.id.WriteId.{WriteId}
use Rattle.anti_kind.specs.declared.entry.Entry.{Entry}
use Rattle.anti_app.specs.declared.app.App.{App}
use Rattle.law_causal.proofs.Ids.{has_append}
use Rattle.anti_past.specs.declared.came.AllCame.{AllCame}
use Rattle.anti_past.specs.declared.came.Came.{Came}
use Rattle.anti_past.specs.declared.span_keys.SpanKey.{SpanKey}
use Rattle.anti_past.specs.inner.Came.{brought_at, came_ids, ids_known, ids_since}
use Rattle.anti_past.specs.inner.Keys.{key_cmp, same_key}
use Rattle.anti_past.proofs.KeyOrder.{same_key_is}

pub or_none : (t : Bool) → (t || false) ≡ t
or_none true = refl
or_none false = refl

or_again : (a b c : Bool) → (a || (b || (c || false))) ≡ ((a || b) || c)
or_again true b c = refl
or_again false b c = ap (λ (t : Bool). b || t) (or_none c)

pub has_alone : (w : WriteId) (ids : List WriteId) → has_id w (ids ++ []) ≡ has_id w ids
has_alone w ids = has_append w ids [] ∙ or_none (has_id w ids)

-- all is set anew
module _ (app : App) (trace : List Entry) (m n : AllCame) (key : SpanKey) (ids : List WriteId) (d : Came) (index : ℕ)
    (updates : tree.Updates key_cmp m.spans n.spans key (Some d)) (carried : d.carried ≡ ids) (since : d.since.items ≡ index ∷ []) where
  pub set_anew : (q : SpanKey) → ids_known app trace n q ≡ cond (same_key key q) (ids ++ (brought_at app trace index ++ [])) (ids_known app trace m q)
  set_anew q = ap (λ found. option_map_or (came_ids app trace) found []) (updates.0 q) ∙ by_test (same_key key q) (tree.get key_cmp m.spans q)
    where
      by_test : (t : Bool) (was : Option Came)
          → option_map_or (came_ids app trace) (cond t (Some d) was) [] ≡ cond t (ids ++ (brought_at app trace index ++ [])) (option_map_or (came_ids app trace) was [])
      by_test true was = ap (λ (xs : List WriteId). xs ++ ids_since app trace d.since.items) carried ∙ ap (λ (is : List ℕ). ids ++ ids_since app trace is) since
      by_test false was = refl

module _ (app : App) (trace : List Entry) (w : WriteId) where
  has_known : (m : AllCame) (q : SpanKey) (c : Came) → tree.get key_cmp m.spans q ≡ Some c
      → has_id w (ids_known app trace m q) ≡ (has_id w c.carried || has_id w (ids_since app trace c.since.items))
  has_known m q c is =
      ap (λ found. has_id w (option_map_or (came_ids app trace) found [])) is ∙ has_append w c.carried (ids_since app trace c.since.items)

  since_more : (since : List ℕ) (index : ℕ) → has_id w (ids_since app trace (since ++ index ∷ []))
      ≡ (has_id w (ids_since app trace since) || (has_id w (brought_at app trace index) || false))
  since_more since index =
      ap (has_id w) (flat_map-append (brought_at app trace) since (index ∷ []))
      ∙ has_append w (ids_since app trace since) (brought_at app trace index ++ [])
      ∙ ap (λ (t : Bool). has_id w (ids_since app trace since) || t) (has_append w (brought_at app trace index) [])

  -- the entry was added to those since
  module _ (m n : AllCame) (key : SpanKey) (c d : Came) (index : ℕ) (updates : tree.Updates key_cmp m.spans n.spans key (Some d))
      (was : tree.get key_cmp m.spans key ≡ Some c) (carried : d.carried ≡ c.carried) (since : d.since.items ≡ c.since.items ++ index ∷ []) where
    pub grown : (q : SpanKey) → has_id w (ids_known app trace n q) ≡ (has_id w (ids_known app trace m q) || same_key key q && has_id w (brought_at app trace index))
    grown q = by_test (same_key key q) refl
      where
        by_test : (t : Bool) → same_key key q ≡ t
            → has_id w (ids_known app trace n q) ≡ (has_id w (ids_known app trace m q) || t && has_id w (brought_at app trace index))
        by_test false off =
            ap (λ found. has_id w (option_map_or (came_ids app trace) found [])) (updates.2 q off) ∙ sym (or_none (has_id w (ids_known app trace m q)))
        by_test true on =
            let same : key ≡ q = same_key_is key q on in
            has_known n q d (updates.0 q ∙ cond-true _ _ _ on)
            ∙ ap (λ (ids : List WriteId). has_id w ids || has_id w (ids_since app trace d.since.items)) carried
            ∙ ap (λ (is : List ℕ). has_id w c.carried || has_id w (ids_since app trace is)) since
            ∙ ap (λ (t : Bool). has_id w c.carried || t) (since_more c.since.items index)
            ∙ or_again (has_id w c.carried) (has_id w (ids_since app trace c.since.items)) (has_id w (brought_at app trace index))
            ∙ ap (λ (t : Bool). t || has_id w (brought_at app trace index)) (sym (has_known m q c (subst (λ (k : SpanKey). tree.get key_cmp m.spans k ≡ Some c) same was)))

  -- it is the first of its span
  module _ (m n : AllCame) (key : SpanKey) (index : ℕ) (none : tree.get key_cmp m.spans key ≡ None) where
    pub begun : (q : SpanKey) → ids_known app trace n q ≡ cond (same_key key q) (brought_at app trace index ++ []) (ids_known app trace m q)
        → has_id w (ids_known app trace n q) ≡ (has_id w (ids_known app trace m q) || same_key key q && has_id w (brought_at app trace index))
    begun q is = ap (has_id w) is ∙ by_test (same_key key q) refl
      where
        by_test : (t : Bool) → same_key key q ≡ t
            → has_id w (cond t (brought_at app trace index ++ []) (ids_known app trace m q)) ≡ (has_id w (ids_known app trace m q) || t && has_id w (brought_at app trace index))
        by_test false off = sym (or_none (has_id w (ids_known app trace m q)))
        by_test true on =
            let same : key ≡ q = same_key_is key q on in
            let nothing : has_id w (ids_known app trace m q) ≡ false =
            ap (λ (k : SpanKey). has_id w (ids_known app trace m k)) (sym same) ∙ ap (λ found. has_id w (option_map_or (came_ids app trace) found [])) none in
            has_alone w (brought_at app trace index) ∙ ap (λ (t : Bool). t || has_id w (brought_at app trace index)) (sym nothing)
