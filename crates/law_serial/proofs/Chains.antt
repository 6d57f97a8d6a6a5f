-- Chains: places of which each is causally before the next, and so before all later ones. The reads of a span are a chain.
use Rattle.std.proofs.Common.{◌≡◌, ℕ, suc, ◌<◌, ◌==◌, ◌&&◌, Bool, true, false, List, [], ◌∷◌, get_or, eqb-true, refl, sym, ap, ◌∙◌, arith}
use Rattle.std.specs.Prelude.{AllPairs, Option, Some, None, length, slice_get}
use Rattle.std.specs.Option.{option_map_or}
use Rattle.std.proofs.lemmas.Bool.{and_parts}
use Rattle.std.proofs.lemmas.List.Elements.{All-cons, All-nil, filter_passes}
use Rattle.std.proofs.lemmas.List.Kept.{AllPairs-cons}
use Rattle.anti_kind.specs.declared.actor.Actor.TheVariants.{Process}
use Rattle.anti_kind.specs.declared.actor.Birth.{Birth}
use Rattle.anti_kind.specs.declared.entry.Entry.{Entry}
use Rattle.anti_trace.specs.Traces.{is_by}
use Rattle.anti_trace.proofs.Puts.{same_actor_true}
use Rattle.law_causal.specs.Words.{reads}
use Rattle.law_causal.specs.Reads.{is_at, is_read_of, places, reads_of}
use Rattle.law_causal.specs.Causal.{Before, is_process, program, through}
use Rattle.law_serial.specs.Causes.{IsChain}
use Rattle.law_serial.proofs.Cuts.{kept_ascend, pairs_rest}

module _ (trace : List Entry) where
  -- each place of a chain is causally before all later ones
  pub chain_pairs : (xs : List ℕ) → IsChain trace xs → AllPairs (Before trace) xs
  chain_pairs [] chain = λ i j d low short. absurd (omega (arith, short))
  chain_pairs (x ∷ []) chain =
      AllPairs-cons (Before trace) x [] (All-nil (Before trace x)) (λ i j d low short. absurd (omega (arith, short)))
  chain_pairs (x ∷ y ∷ ys) chain =
      let later : AllPairs (Before trace) (y ∷ ys) = chain_pairs (y ∷ ys) chain.1 in
      AllPairs-cons (Before trace) x (y ∷ ys)
      (All-cons (Before trace x) y ys chain.0 (λ k d short. through chain.0 (later 0 (suc k) d (omega arith) (omega (arith, short)))))
      later

  pub pairs_chain : (xs : List ℕ) → AllPairs (Before trace) xs → IsChain trace xs
  pairs_chain [] pairs = tt
  pairs_chain (x ∷ []) pairs = tt
  pairs_chain (x ∷ y ∷ ys) pairs =
      (pairs 0 1 x (omega arith) (omega arith), pairs_chain (y ∷ ys) (pairs_rest (Before trace) x (y ∷ ys) pairs))

  -- ---- the reads of a span

  module _ (birth : Birth) (span : ℕ) where
    -- an entry of the span
    record IsInSpan (x : ℕ) : Type 0 where
      entry : Entry
      at : slice_get trace x ≡ Some entry
      by : Process birth ≡ entry.actor
      within : entry.span ≡ span

    in_span : (x : ℕ) (found : Option Entry) → slice_get trace x ≡ found → option_map_or (is_read_of birth span) found false ≡ true
        → IsInSpan x
    in_span x None at passes = absurd (cc)
    in_span x (Some e) at passes =
        let its = and_parts (reads e.call) (is_by (Process birth) e && e.span == span) passes in
        let parts = and_parts (is_by (Process birth) e) (e.span == span) its.1 in
        record { entry = e; at = at; by = same_actor_true (Process birth) e.actor parts.0; within = eqb-true e.span span parts.1 }

    abbrev test : ℕ → Bool
    test = is_at (is_read_of birth span) trace

    span_before : (x y : ℕ) → test x ≡ true → test y ≡ true → x < y → Before trace x y
    span_before x y one other low =
        let first : IsInSpan x = in_span x (slice_get trace x) refl one in
        let second : IsInSpan y = in_span y (slice_get trace y) refl other in
        program first.entry second.entry first.at second.at (record {
          before = low;
          process = ap is_process (sym first.by);
          actor = sym first.by ∙ second.by;
          span = first.within ∙ sym second.within;
        })

    pub span_chain : IsChain trace (reads_of trace birth span)
    span_chain =
        let passes = filter_passes test (places trace) in
        pairs_chain (reads_of trace birth span) (λ i j d low short.
        let first = passes i d (omega (arith, low, short)) in
        let second = passes j d short in
        span_before (get_or (reads_of trace birth span) i d) (get_or (reads_of trace birth span) j d) first second
        (kept_ascend test (length trace) i j d low short))
