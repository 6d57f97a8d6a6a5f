-- What is told of the entries of a trace, one after another.
use Rattle.std.proofs.Common.{◌≡◌, ℕ, ◌+◌, ◌<◌, ◌≤◌, ◌++◌, List, [], ◌∷◌, length, sym, ap, ◌∙◌, subst, inl, inr, arith, length-append, get_or}
use Rattle.std.specs.Prelude.{Option, None, Some, slice_get, take}
use Rattle.std.proofs.lemmas.Bool.{cases_lt}
use Rattle.std.proofs.lemmas.List.{get_or_append_left}
use Rattle.std.proofs.lemmas.Option.{get_or_from_slice_get, slice_get-get_or, slice_get_within}
use Rattle.std.proofs.Math.Seq.{get_or-append_seam}
use Rattle.anti_kind.specs.declared.entry.Entry.{Entry}
use Rattle.anti_app.specs.declared.app.App.{App}
use Rattle.anti_trace.specs.Legal.{IsLegalTrace}
use Rattle.law_causal.specs.Carried.{carried_at}
use Rattle.law_causal.specs.Settled.{region_named}
use Rattle.law_causal.proofs.Processes.{hands_asked}
use Rattle.anti_past.specs.Pasts.{ArePastsOf, IsPastOf}
use Rattle.anti_past.specs.declared.before_reads.Past.{Past}
use Rattle.anti_past.specs.declared.finds.Finds.{Finds}
use Rattle.anti_past.specs.declared.span_keys.SpanKey.{SpanKey}
use Rattle.anti_past.specs.inner.Found.{AreFound, has_found}
use Rattle.anti_past.specs.inner.Keys.{read_key}
use Rattle.anti_past.specs.inner.Looking.{all_pass}
use Rattle.anti_past.specs.inner.Walking.{ArePastsBefore}
use Rattle.anti_past.proofs.CameBefore.{read_hands}
use Rattle.anti_past.proofs.InSpan.{no_read, read_keyed}
use Rattle.anti_past.proofs.Settledness.{settled_is}

-- ---- one item more at the end of a list

module _ {X : Type 0} (xs : List X) (x : X) (i : ℕ) (y : X) (at : slice_get (xs ++ x ∷ []) i ≡ Some y) where
  is_read : get_or (xs ++ x ∷ []) i y ≡ y
  is_read = get_or_from_slice_get (xs ++ x ∷ []) i y y at

  was_there : i < length xs → slice_get xs i ≡ Some y
  was_there low = slice_get-get_or xs i y low ∙ ap Some (sym (get_or_append_left xs (x ∷ []) y i low) ∙ is_read)

  is_last : length xs ≤ i → (length xs ≡ i) × (x ≡ y)
  is_last past =
      let within : i < length (xs ++ x ∷ []) = slice_get_within (xs ++ x ∷ []) i y at in
      let same : length xs ≡ i = omega (arith, length-append xs (x ∷ [])) in
      (same, sym (get_or-append_seam xs x [] y) ∙ ap (λ (k : ℕ). get_or (xs ++ x ∷ []) k y) same ∙ is_read)

-- ---- one entry

module _ (app : App) (trace : List Entry) (k : ℕ) (e : Entry) where
  -- what is no read
  pub none_told : IsLegalTrace app trace → slice_get trace k ≡ Some e → read_key e ≡ None → IsPastOf app trace k e None
  none_told legal at none = no_read e none (λ is. let asked = hands_asked app trace legal k e at (read_hands e.call is) in asked.process)

  -- and a read
  pub read_told : (q : SpanKey) → read_key e ≡ Some q → (found : Finds) → AreFound (take k trace) found → (past : Past)
      → past.carried ≡ carried_at app trace k e
      → past.settled ≡ all_pass app (region_named e.call) (has_found found q) (carried_at app trace k e) → IsPastOf app trace k e (Some past)
  read_told q is found are past carried settled =
      let keyed = read_keyed e q is in
      let tests = settled_is app trace k e q keyed.1 (has_found found q) (are q) in
      (keyed.0, carried, (λ on. tests.0 (sym settled ∙ on), λ is. settled ∙ tests.1 is))

-- ---- one entry more

module _ (app : App) (trace : List Entry) (k : ℕ) (pasts : List (Option Past)) (before : ArePastsBefore app trace k pasts) where
  -- one more is told
  pub pasts_more : (past : Option Past) → ((e : Entry) → slice_get trace k ≡ Some e → IsPastOf app trace k e past)
      → ArePastsBefore app trace (k + 1) (pasts ++ past ∷ [])
  pasts_more past told = record {
    count = omega (arith, before.count, length-append pasts (past ∷ []));
    each = λ j e its at there. elim (cases_lt j (length pasts)) as (λ _. IsPastOf app trace j e its) [
      | inl low ↦ before.each j e its at (was_there pasts past j its there low)
      | inr past_end ↦
          let (place, same) = is_last pasts past j its there past_end in
          let here : k ≡ j = sym before.count ∙ place in
          subst (λ (p : Option Past). IsPastOf app trace j e p) same
          (subst (λ (i : ℕ). slice_get trace i ≡ Some e → IsPastOf app trace i e past) here (told e) at)
    ];
  }

  -- all are told
  pub all_told : length trace ≡ k → ArePastsOf app trace pasts
  all_told all = record { count = before.count ∙ sym all; each = before.each }
