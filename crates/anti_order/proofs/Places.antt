-- Places of a trace, and what stands at them.
use Rattle.std.proofs.Common.{◌≡◌, ℕ, ◌+◌, ◌<◌, ◌++◌, Bool, true, false, cond, List, [], ◌∷◌, length, refl, sym, ap, ◌∙◌, arith}
use Rattle.std.specs.Prelude.{Option, Some, None, slice_get}
use Rattle.std.specs.List.{filter, range_with_len}
use Rattle.std.specs.Option.{option_map_or}
use Rattle.std.proofs.lemmas.List.{map-id}
use Rattle.std.proofs.lemmas.List.FromFn.{filter_of_map_range_with_len_more}
use Rattle.std.proofs.lemmas.Option.{slice_get_within}
use Rattle.anti_kind.specs.declared.entry.Entry.{Entry}
use Rattle.law_causal.specs.Reads.{is_at}

-- a test at a place is one of the entry there
pub is_at_entry : (test : Entry → Bool) (trace : List Entry) (i : ℕ) (e : Entry) → slice_get trace i ≡ Some e → is_at test trace i ≡ test e
is_at_entry test trace i e at = ap (λ (found : Option Entry). option_map_or test found false) at

-- where it passes there is an entry
pub at_place : (test : Entry → Bool) (trace : List Entry) (i : ℕ) → is_at test trace i ≡ true
    → (e : Entry) × (slice_get trace i ≡ Some e) × (test e ≡ true)
at_place test trace i passes = by_entry (slice_get trace i) passes
  where
    by_entry : (found : Option Entry) → option_map_or test found false ≡ true → (e : Entry) × (found ≡ Some e) × (test e ≡ true)
    by_entry None passes = absurd (cc)
    by_entry (Some e) passes = (e, refl, passes)

-- and the place is one of the trace
pub is_at_within : (test : Entry → Bool) (trace : List Entry) (i : ℕ) → is_at test trace i ≡ true → i < length trace
is_at_within test trace i passes = let (e, at, is) = at_place test trace i passes in slice_get_within trace i e at

-- what a test keeps of one place more
pub places_more : (p : ℕ → Bool) (k : ℕ) → filter p (range_with_len 0 (k + 1)) ≡ filter p (range_with_len 0 k) ++ cond (p k) (k ∷ []) []
places_more p k =
    ap (filter p) (sym (map-id (range_with_len 0 (k + 1))))
    ∙ filter_of_map_range_with_len_more p (λ (i : ℕ). i) 0 k k (omega arith)
    ∙ ap (λ (is : List ℕ). filter p is ++ cond (p k) (k ∷ []) []) (map-id (range_with_len 0 k))
